-- What the word at a place says of the rest of its line, whatever literals are read before it.
use Rattle.std.proofs.Common.{◌≡◌, refl, sym, ap, ap₂, subst, ◌∙◌, Bool, true, false, not, cond, [], ◌∷◌, ◌++◌, ℕ, suc, ◌+◌, ◌≤◌, ◌<◌, arith, eqb, leb, ℤ, pos, negsuc, nat_abs, length, get_or, take, drop, position, Option, Some, None, nat_lt, SFits, of_z, to_z, w32, length-drop, length-take-le, take-append-drop, take_all, drop-cons, drop-drop, option_map, eqb-true, leb-true, leb-false}
use Rattle.std.proofs.Math.Option.{some, none}
use Rattle.std.proofs.Math.Option as Math
use Rattle.std.proofs.lemmas.List.{get_or-drop}
use Rattle.std.specs.List.{position_or_len}
use Rattle.std.proofs.lemmas.List.Quantifiers.{position-Some}
use Rattle.std.proofs.lemmas.List.Recursion.{is_position_or_len}
use borrow.Author.Tests.{eqb-false, ltb-false}
use Rattle.definition.specs.Checked.{Checked, fault, ◌>>=◌, refuse_if, or_fault}
use Rattle.definition.specs.Literals.{Clause}
use Rattle.definition.specs.Text.{Bytes, bytes, is, same_bytes, number}
use Rattle.theory_base.proofs.Tests.{by_test, or_false_both}
use Rattle.theory_text.specs.Words.{Free}
use Rattle.theory_text.specs.LogLines.{allowed_at, rest_read}
use Rattle.theory_text.proofs.Words.{same_length}
use Rattle.theory_text.proofs.LineWords.{rest_high, rest_unended, rest_last, rest_more}
use Rattle.literals.proofs.Laws.{at_arg}
use Rattle.text.specs.Numbers.{number_class}
use Rattle.theory_text.specs.Runs.{leading, letters}
use Rattle.theory_text.proofs.Runs.{letters_free}
use Rattle.drat.specs.declared.LineWord.{LineWord}
use Rattle.drat.specs.declared.LineWord.TheVariants as Word
use Rattle.drat.specs.Reading.{stops, literal_said, word_said, word_of, line_word}

-- ---- the bytes of a word

free_blank : (w : Bytes) → Free stops w → Free (is " ") w
unfolding is
free_blank [] f = tt
free_blank (b ∷ w) f = ((or_false_both (eqb b 32) (eqb b 10) f.0).0, free_blank w f.1)

free_newline : (w : Bytes) → Free stops w → Free (is "\n") w
unfolding is
free_newline [] f = tt
free_newline (b ∷ w) f = ((or_false_both (eqb b 32) (eqb b 10) f.0).1, free_newline w f.1)

letters_position : (s : Bytes) → letters stops s ≡ position_or_len stops s
unfolding leading
letters_position = is_position_or_len (letters stops) stops refl (λ b s. go (stops b) (letters stops s))
  where
    go : (x : Bool) (n : ℕ) → cond (not x) (suc n) 0 ≡ cond x 0 (1 + n)
    go true n = refl
    go false n = omega arith

found : (s : Bytes) {n : ℕ} → position stops s ≡ Some n → n ≡ letters stops s
found s {n} e = by_test (nat_lt (position_or_len stops s) (length s))
    (λ h. let z : Some (position_or_len stops s) ≡ Some n = rw h at e in cc (letters_position s, z))
    (λ h. let z : ◌≡◌ {A = Option ℕ} None (Some n) = rw h at e in cc)

absent : (s : Bytes) → position stops s ≡ None → Free stops s
absent s e = by_test (nat_lt (position_or_len stops s) (length s))
    (λ h. let z : Some (position_or_len stops s) ≡ None = rw h at e in cc)
    (λ h. let k : length s ≤ letters stops s = omega (arith, letters_position s, ltb-false (position_or_len stops s) (length s) h) in rw (take_all (letters stops s) s k) at (letters_free stops s))

-- ---- what each answer says

-- the line ends here
pub record Last (t : Bytes) (at next : ℕ) : Type 0 where
  pub after : at + 1 < next
  pub within : next ≤ length t
  pub rest : (c : Clause) → rest_read at c (drop at t) ≡ allowed_at next (some c)

-- a literal stands before the rest
pub record More (t : Bytes) (at next : ℕ) (l : ℤ) : Type 0 where
  pub after : at < next
  pub within : next ≤ length t
  pub literal : nat_abs l ≡ 0 → ⊥
  pub small : nat_abs l ≤ 70_000
  pub rest : (c : Clause) → rest_read at c (drop at t) ≡ rest_read next (c ++ (l ∷ [])) (drop next t)

-- the line is refused
pub record NoLine (t : Bytes) (at : ℕ) : Type 0 where
  pub rest : (c : Clause) → rest_read at c (drop at t) ≡ fault 31

abbrev Says : Bytes → ℕ → Option LineWord → Type 0
Says t at (Some (Word.Literal next l)) = More t at next l
Says t at (Some (Word.End next)) = Last t at next
Says t at None = NoLine t at

-- ---- the outcome of a word with a blank after it

literal_none : {A : Type 0} (f : ℤ → Checked A) → (or_fault none 31 >>= λ l. refuse_if (eqb 0 (nat_abs l)) 31 (f l)) ≡ fault 31
unfolding or_fault ◌>>=◌
literal_none f = refl

module _ {A : Type 0} (f : ℤ → Checked A) (l : ℤ) where
  literal_zero : eqb 0 (nat_abs l) ≡ true → (or_fault (some l) 31 >>= λ x. refuse_if (eqb 0 (nat_abs x)) 31 (f x)) ≡ fault 31
  unfolding or_fault ◌>>=◌ refuse_if
  literal_zero e = rw e

  literal_some : eqb 0 (nat_abs l) ≡ false → (or_fault (some l) 31 >>= λ x. refuse_if (eqb 0 (nat_abs x)) 31 (f x)) ≡ f l
  unfolding or_fault ◌>>=◌ refuse_if
  literal_some e = rw e

small_fits : (l : ℤ) → nat_abs l ≤ 70_000 → SFits w32 l
small_fits (pos n) h = record { sfits = omega arith }
small_fits (negsuc n) h = record { sfits = omega arith }

module _ (t : Bytes) (at : ℕ) where
  module _ (n : ℕ) (p : position stops (drop at t) ≡ Some n) where
    abbrev word : Bytes
    word = take n (drop at t)

    abbrev stop : ℕ
    stop = get_or (drop at t) n 0

    abbrev next : ℕ
    next = at + n + 1

    within : next ≤ length t
    within = omega (arith, (position-Some stops (drop at t) n 0 p).0, length-drop at t)

    word_free : Free stops word
    word_free = rw (found (drop at t) p) (letters_free stops (drop at t))

    word_length : length word ≡ n
    word_length = length-take-le n (drop at t) (omega (arith, (position-Some stops (drop at t) n 0 p).0))

    next_is : at + (length word + 1) ≡ next
    next_is = omega (arith, word_length)

    past : at + suc n ≡ next
    past = omega arith

    -- the rest begins with the word and what ends it
    rest_by : {x : ℕ} → stop ≡ x → drop at t ≡ word ++ x ∷ drop next t
    rest_by e =
        sym (take-append-drop n (drop at t))
        ∙ ap (λ (s : Bytes). word ++ s)
        (drop-cons (drop at t) n 0 (position-Some stops (drop at t) n 0 p).0
        ∙ ap₂ (λ (x : ℕ) (s : Bytes). x ∷ s) e (drop-drop (suc n) at t ∙ ap (λ (k : ℕ). drop k t) past))

    -- the word ends with the line
    last_by : stop ≡ 10 → (c : Clause) → rest_read at c (drop at t) ≡ refuse_if (not (same_bytes word (bytes "0"))) 31 (allowed_at next (some c))
    last_by e c =
        ap (rest_read at c) (rest_by e)
        ∙ rest_last at c word (drop next t) (free_blank word word_free) (free_newline word word_free)
        ∙ ap (λ (n : ℕ). refuse_if (not (same_bytes word (bytes "0"))) 31 (allowed_at n (some c))) next_is

    says_last : stop ≡ 10 → (x : Bool) → same_bytes word (bytes "0") ≡ x → Says t at (cond x (Some (Word.End next)) None)
    unfolding refuse_if bytes
    says_last e true z = record {
      after = omega (arith, word_length, same_length word (48 ∷ []) z);
      within = within;
      rest = λ c. last_by e c ∙ rw z;
    }
    says_last e false z = record { rest = λ c. last_by e c ∙ rw z }

    -- a blank follows the word
    abbrev after : Clause → ℤ → Checked (ℕ × Clause)
    after c l = rest_read next (c ++ (l ∷ [])) (drop next t)

    literal_by : stop ≡ 32 → (c : Clause) → rest_read at c (drop at t) ≡ (or_fault (number word) 31 >>= λ l. refuse_if (eqb 0 (nat_abs l)) 31 (after c l))
    literal_by e c =
        ap (rest_read at c) (rest_by e)
        ∙ rest_more at c word (drop next t) (free_blank word word_free) (free_newline word word_free)
        ∙ rw next_is

    says_literal : (o : Math.Option ℤ) → ((c : Clause) → rest_read at c (drop at t) ≡ (or_fault o 31 >>= λ l. refuse_if (eqb 0 (nat_abs l)) 31 (after c l))) → Says t at (option_map (λ l. Word.Literal next l) (literal_said (number_class o)))
    says_literal none e = record { rest = λ c. e c ∙ literal_none (after c) }
    says_literal (some l) e = by_test (leb (nat_abs l) 70_000)
        (λ s. rw s (by_test (eqb 0 (nat_abs l)) (λ z. rw z (zero z)) (λ z. rw z (more s z))))
        (λ s. rw s (high s))
      where
        zero : eqb 0 (nat_abs l) ≡ true → NoLine t at
        zero z = record { rest = λ c. e c ∙ literal_zero (after c) l z }

        more : leb (nat_abs l) 70_000 ≡ true → eqb 0 (nat_abs l) ≡ false → More t at next l
        more s z = record {
          after = omega arith;
          within = within;
          literal = λ k. eqb-false 0 (nat_abs l) z (sym k);
          small = leb-true (nat_abs l) 70_000 s;
          rest = λ c. e c ∙ literal_some (after c) l z;
        }

        high : leb (nat_abs l) 70_000 ≡ false → NoLine t at
        high s = record { rest = λ c. e c ∙ by_test (eqb 0 (nat_abs l)) (literal_zero (after c) l) (λ z. literal_some (after c) l z ∙ rest_high next c l (drop next t) (leb-false (nat_abs l) 70_000 s)) }

    says_stop : Says t at (word_said next word (get_or t (at + n) 0))
    says_stop =
        rw (← get_or-drop at t n 0)
        (by_test (eqb stop 32)
        (λ e. rw e (says_literal (number word) (literal_by (eqb-true stop 32 e))))
        (λ e. rw e (says_last (newline e) (same_bytes word (bytes "0")) refl)))
      where
        newline : eqb stop 32 ≡ false → stop ≡ 10
        newline e = eqb-true stop 10 (rw e at (position-Some stops (drop at t) n 0 p).1)

  word_says : Says t at (line_word t at)
  unfolding line_word
  word_says = go (position stops (drop at t)) refl
    where
      go : (o : Option ℕ) → position stops (drop at t) ≡ o → Says t at (word_of at t o)
      go None q = record { rest = λ c. rest_unended at c (drop at t) (free_newline (drop at t) (absent (drop at t) q)) }
      go (Some n) q = says_stop n q

  pub word_fault : None ≡ line_word t at → NoLine t at
  word_fault e = rw (sym e) at word_says

  module _ {w : LineWord} (e : Some w ≡ line_word t at) {next : ℕ} where
    pub word_last : w ≡ Word.End next → Last t at next
    word_last q = rw (sym e, q) at word_says

    module _ {l : ℤ} (q : w ≡ Word.Literal next l) where
      pub word_literal : More t at next l
      word_literal = rw (sym e, q) at word_says

      -- the literal as a signed argument of a call
      pub word_argument : More t at next (to_z w32 (of_z w32 l))
      word_argument = subst (More t at next) (sym (at_arg (λ (z : ℤ). z) l (small_fits l word_literal.small))) word_literal
