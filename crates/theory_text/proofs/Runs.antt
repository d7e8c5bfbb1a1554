-- A run at a place of a text; the words of a text by its runs.
use mathlib.Core.Path.{◌≡◌, refl, sym, ap, ◌∙◌}
use mathlib.Core.Bool.{Bool, true, false, not, cond}
use mathlib.Core.List.{List, [], ◌∷◌, ◌++◌, append-nil}
use Prim.Native.Nat.{ℕ, suc, ◌+◌, ◌-◌, ◌≤◌, ◌<◌}
use native.Mathlib.Omega.{arith}
use native.Mathlib.Numerals.{add-one}
use lib.ListN.{length, get_or, take, drop, take-append-drop, drop_of_length-le, length-drop}
use lib.Seq.{drop-cons, drop-drop, length-take-le}
use Rattle.definition.specs.Text.{Bytes, blank, add_part, parts, words_by, words}
use Rattle.theory_text.specs.Words.{Free}
use Rattle.theory_text.specs.Runs.{in_run, leading, letters, run_end}
use Rattle.theory_text.proofs.Words.{first_word, only_word}

-- ---- a run

module _ (p : ℕ → Bool) where
  pub leading_within : (t : Bytes) → leading p t ≤ length t
  unfolding leading
  leading_within [] = omega arith
  leading_within (b ∷ t) = go (p b) (leading_within t)
    where
      go : (x : Bool) → leading p t ≤ length t → cond x (suc (leading p t)) 0 ≤ suc (length t)
      go true h = omega arith
      go false h = omega arith

  module _ (t : Bytes) (i : ℕ) where
    pub run_step : i < length t → p (get_or t i 0) ≡ true → i + 1 + leading p (drop (i + 1) t) ≡ i + leading p (drop i t)
    unfolding leading
    run_step h e = rw (drop-cons t i 0 h, e, add-one i) (omega arith)

    pub run_stop : i < length t → p (get_or t i 0) ≡ false → i ≡ i + leading p (drop i t)
    unfolding leading
    run_stop h e = rw (drop-cons t i 0 h, e) (omega arith)

    pub run_stop_end : length t ≤ i → i ≡ i + leading p (drop i t)
    unfolding leading
    run_stop_end h = rw (drop_of_length-le t h) (omega arith)

-- ---- the bytes up to a separator

module _ (separates : ℕ → Bool) where
  pub letters_free : (t : Bytes) → Free separates (take (letters separates t) t)
  unfolding leading
  letters_free [] = tt
  letters_free (b ∷ t) = go (separates b) refl (letters_free t)
    where
      go : (x : Bool) → separates b ≡ x → Free separates (take (letters separates t) t) → Free separates (take (cond (not x) (suc (letters separates t)) 0) (b ∷ t))
      go true e ih = tt
      go false e ih = (e, ih)

  -- what follows them is one
  pub letters_stop : (t : Bytes) {b : ℕ} {r : Bytes} → drop (letters separates t) t ≡ b ∷ r → separates b ≡ true
  unfolding leading
  letters_stop [] e = let z : ◌≡◌ {A = ℕ} 0 1 = cc in absurd (omega arith)
  letters_stop (a ∷ t) {b} {r} e = go (separates a) refl (letters_stop t) e
    where
      go : (x : Bool) → separates a ≡ x → (drop (letters separates t) t ≡ b ∷ r → separates b ≡ true) → drop (cond (not x) (suc (letters separates t)) 0) (a ∷ t) ≡ b ∷ r → separates b ≡ true
      go true q ih p = let same : a ≡ b = cc in ap separates (sym same) ∙ q
      go false q ih p = ih p

  -- ---- words

  words_separated : (b : ℕ) (t : Bytes) → separates b ≡ true → words_by separates (b ∷ t) ≡ words_by separates t
  unfolding words_by parts add_part
  words_separated b t e = rw e refl

  words_none : words_by separates [] ≡ []
  unfolding words_by parts add_part
  words_none = refl

  -- separators at the start do not matter
  words_skip : (t : Bytes) → words_by separates t ≡ words_by separates (drop (leading separates t) t)
  unfolding leading
  words_skip [] = refl
  words_skip (b ∷ t) = go (separates b) refl (words_skip t)
    where
      go : (x : Bool) → separates b ≡ x → words_by separates t ≡ words_by separates (drop (leading separates t) t) → words_by separates (b ∷ t) ≡ words_by separates (drop (cond x (suc (leading separates t)) 0) (b ∷ t))
      go true e ih = words_separated b t e ∙ ih
      go false e ih = refl

  words_first : (t : Bytes) → 0 < letters separates t → words_by separates t ≡ take (letters separates t) t ∷ words_by separates (drop (letters separates t) t)
  words_first t h = ap (words_by separates) (sym (take-append-drop (letters separates t) t)) ∙ go (drop (letters separates t) t) refl
    where
      w : Bytes
      w = take (letters separates t) t

      some : 1 ≤ length w
      some = omega (arith, length-take-le (letters separates t) t (leading_within (in_run separates false) t))

      go : (r : Bytes) → drop (letters separates t) t ≡ r → words_by separates (w ++ r) ≡ w ∷ words_by separates r
      go [] e = rw (append-nil w, words_none) (only_word separates w (letters_free t) some)
      go (b ∷ r) e = rw (words_separated b r (letters_stop t e)) (first_word separates w b r (letters_free t) some (letters_stop t e))

  -- past a run of separators stands a word or nothing
  all_skipped : (t : Bytes) → letters separates (drop (leading separates t) t) ≡ 0 → drop (leading separates t) t ≡ []
  unfolding leading
  all_skipped [] h = refl
  all_skipped (b ∷ t) h = go (separates b) refl (all_skipped t) h
    where
      go : (x : Bool) → separates b ≡ x → (letters separates (drop (leading separates t) t) ≡ 0 → drop (leading separates t) t ≡ []) →
          letters separates (drop (cond x (suc (leading separates t)) 0) (b ∷ t)) ≡ 0 → drop (cond x (suc (leading separates t)) 0) (b ∷ t) ≡ []
      go true e ih g = ih g
      go false e ih g = absurd (no (rw e at g))
        where
          no : suc (letters separates t) ≡ 0 → ⊥
          no k = omega arith

-- ---- the first word at a place or after it

-- the word from s to e is the first at or after a place
pub record First (separates : ℕ → Bool) (t : Bytes) (at s e : ℕ) : Type 0 where
  pub after : at ≤ s
  pub some : s < e
  pub within : e ≤ length t
  pub words : words_by separates (drop at t) ≡ take (e - s) (drop s t) ∷ words_by separates (drop e t)

module _ (separates : ℕ → Bool) (t : Bytes) (at : ℕ) where
  abbrev start : ℕ
  start = run_end separates true t at

  abbrev end : ℕ
  end = run_end separates false t start

  words_at_start : words_by separates (drop at t) ≡ words_by separates (drop start t)
  words_at_start = words_skip separates (drop at t) ∙ ap (words_by separates) (drop-drop (leading separates (drop at t)) at t)

  pub word_first : start < end → First separates t at start end
  word_first h = record {
    after = omega arith;
    some = h;
    within = omega (arith, leading_within (in_run separates false) (drop start t), length-drop start t);
    words =
        words_at_start
        ∙ words_first separates (drop start t) (omega arith)
        ∙ ap (λ (ws : List Bytes). take (letters separates (drop start t)) (drop start t) ∷ ws) (ap (words_by separates) (drop-drop (letters separates (drop start t)) start t))
        ∙ ap (λ (n : ℕ). take n (drop start t) ∷ words_by separates (drop end t)) size;
  }
    where
      size : letters separates (drop start t) ≡ end - start
      size = omega arith

  pub word_none : end ≤ start → words_by separates (drop at t) ≡ []
  word_none h = words_skip separates (drop at t) ∙ ap (words_by separates) (all_skipped separates (drop at t) (ap (letters separates) (drop-drop (leading separates (drop at t)) at t) ∙ empty)) ∙ words_none separates
    where
      empty : letters separates (drop start t) ≡ 0
      empty = omega arith

-- the words of a text are parted by blanks
pub words_blank : (t : Bytes) → words t ≡ words_by blank t
unfolding words
words_blank t = refl
