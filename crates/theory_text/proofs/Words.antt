-- The words, fields and lines of a text that begins with one of them.
use lib.Dec.{eqb}
use borrow.Author.Tests.{eq-eqb, ne_eqb, eqb-true, eqb-false}
use mathlib.Core.Path.{◌≡◌, refl, sym, ap, ◌∙◌}
use mathlib.Core.Bool.{Bool, true, false, cond}
use mathlib.Core.List.{List, [], ◌∷◌, ◌++◌, append-nil}
use Prim.Native.Nat.{ℕ, suc, ◌≤◌}
use Prim.Native.Char.{code}
use native.Mathlib.Omega.{arith}
use lib.ListN.{length, drop}
use Rattle.definition.specs.Lists.{any}
use Rattle.definition.specs.Text.{Bytes, is, add_part, parts, words_by, longer, text_lines, without_last_cr, fields_from, fields, same_bytes}
use Rattle.theory_base.proofs.Tests.{or_false_both, to_true, of_true, differ, and_l, and_r, by_test}
use Rattle.theory_text.proofs.Digits.{Between}
use Rattle.theory_text.specs.Words.{Free}

pub free-++ : (p : ℕ → Bool) (s t : Bytes) → Free p s → Free p t → Free p (s ++ t)
free-++ p [] t f g = g
free-++ p (b ∷ s) t f g = (f.0, free-++ p s t f.1 g)

pub any_free : (p : ℕ → Bool) (t : Bytes) → any p t ≡ false → Free p t
unfolding any
any_free p [] e = tt
any_free p (b ∷ t) e = let r = or_false_both (p b) (any p t) e in (r.0, any_free p t r.1)

pub between_free : (p : ℕ → Bool) (a z : ℕ) → ((b : ℕ) → a ≤ b → b ≤ z → p b ≡ false) → (t : Bytes) → Between a z t → Free p t
between_free p a z h [] f = tt
between_free p a z h (b ∷ t) f = (h b f.0 f.1, between_free p a z h t f.2)

-- ---- words
module _ (separates : ℕ → Bool) where
  parts_free : (u t : Bytes) → Free separates u → parts separates (u ++ t) ≡ (u ++ (parts separates t).0, (parts separates t).1)
  unfolding parts
  parts_free [] t f = refl
  parts_free (b ∷ u) t f = rw (f.0, parts_free u t f.1)

  add_part_some : (u : Bytes) (ws : List Bytes) → 1 ≤ length u → add_part u ws ≡ u ∷ ws
  unfolding add_part
  add_part_some [] ws h = absurd (omega arith)
  add_part_some (b ∷ u) ws h = refl

  pub first_word : (u : Bytes) (b : ℕ) (t : Bytes) → Free separates u → 1 ≤ length u → separates b ≡ true → words_by separates (u ++ b ∷ t) ≡ u ∷ words_by separates t
  unfolding words_by parts
  first_word u b t f h e = rw (parts_free u (b ∷ t) f, e, append-nil u) (add_part_some u _ h)

  pub only_word : (u : Bytes) → Free separates u → 1 ≤ length u → words_by separates u ≡ u ∷ []
  unfolding words_by parts
  only_word u f h = rw (← append-nil u, parts_free u [] f, append-nil u) (add_part_some u [] h)

-- ---- fields between single blanks
fields_free : (u t : Bytes) → Free (is " ") u → fields_from (u ++ t) ≡ (u ++ (fields_from t).0, (fields_from t).1)
unfolding fields_from
fields_free [] t f = refl
fields_free (b ∷ u) t f = rw (f.0, fields_free u t f.1)

pub first_field : (u t : Bytes) → Free (is " ") u → fields (u ++ code " " ∷ t) ≡ u ∷ fields t
unfolding fields fields_from is
first_field u t f = rw (fields_free u (code " " ∷ t) f, append-nil u)

pub only_field : (u : Bytes) → Free (is " ") u → fields u ≡ u ∷ []
unfolding fields fields_from
only_field u f = rw (← append-nil u, fields_free u [] f, append-nil u)

-- ---- lines
pub first_line : (u t : Bytes) → Free (is "\n") u → text_lines (u ++ code "\n" ∷ t) ≡ record { text = u; ended = true } ∷ text_lines t
unfolding text_lines longer is
first_line [] t f = refl
first_line (b ∷ u) t f = rw (f.0, first_line u t f.1)

-- without CR there is no last one
pub no_last_cr : (u : Bytes) → Free (is "\r") u → without_last_cr u ≡ u
unfolding without_last_cr
no_last_cr [] f = refl
no_last_cr (b ∷ []) f = rw f.0
no_last_cr (b ∷ c ∷ u) f = rw (no_last_cr (c ∷ u) f.1)

-- what follows the first line
pub past_line : (u : Bytes) (b : ℕ) (t : Bytes) → drop (suc (length u)) (u ++ b ∷ t) ≡ t
past_line [] b t = refl
past_line (c ∷ u) b t = past_line u b t

-- ---- lines

-- a CR at the end
pub last_cr : (u : Bytes) (b : ℕ) → without_last_cr (u ++ (b ∷ [])) ≡ cond (is "\r" b) u (u ++ (b ∷ []))
unfolding without_last_cr
last_cr [] b = refl
last_cr (c ∷ []) b = go (is "\r" b)
  where
    go : (x : Bool) → c ∷ cond x [] (b ∷ []) ≡ cond x (c ∷ []) (c ∷ b ∷ [])
    go true = refl
    go false = refl
last_cr (c ∷ d ∷ u) b = ap (λ (w : Bytes). c ∷ w) (last_cr (d ∷ u) b) ∙ go (is "\r" b)
  where
    go : (x : Bool) → c ∷ cond x (d ∷ u) (d ∷ u ++ (b ∷ [])) ≡ cond x (c ∷ d ∷ u) (c ∷ d ∷ u ++ (b ∷ []))
    go true = refl
    go false = refl

-- a line that the text ends
pub last_line : (u : Bytes) → 1 ≤ length u → Free (is "\n") u → text_lines u ≡ record { text = u; ended = false } ∷ []
unfolding text_lines longer
last_line [] h f = absurd (omega arith)
last_line (b ∷ []) h f = rw f.0 refl
last_line (b ∷ c ∷ u) h f = rw (f.0, last_line (c ∷ u) (omega arith) f.1) refl

-- ---- the same bytes

pub same_eq : (p t : Bytes) → same_bytes p t ≡ true → p ≡ t
unfolding same_bytes
same_eq [] [] e = refl
same_eq [] (c ∷ u) e = differ {b = true} tt (sym e)
same_eq (b ∷ t) [] e = differ {b = true} tt (sym e)
same_eq (b ∷ t) (c ∷ u) e =
    let x : b ≡ c = eqb-true b c (to_true (and_l (eqb b c) (same_bytes t u) (of_true e))) in
    rw x (ap (λ (v : Bytes). c ∷ v) (same_eq t u (to_true (and_r (eqb b c) (same_bytes t u) (of_true e)))))

-- the same bytes are equally many
pub same_length : (p t : Bytes) → same_bytes p t ≡ true → length p ≡ length t
same_length p t e = ap length (same_eq p t e)

pub same_turned : (p t : Bytes) → same_bytes p t ≡ same_bytes t p
unfolding same_bytes
same_turned [] [] = refl
same_turned [] (c ∷ u) = refl
same_turned (b ∷ t) [] = refl
same_turned (b ∷ t) (c ∷ u) = rw (eqb_turned b c, same_turned t u) refl
  where
    eqb_turned : (m n : ℕ) → eqb m n ≡ eqb n m
    eqb_turned m n = by_test (eqb m n) (λ e. e ∙ sym (eq-eqb n m (sym (eqb-true m n e)))) (λ e. e ∙ sym (ne_eqb n m (λ q. eqb-false m n e (sym q))))
