-- What a word says of the rest of its log line, by what ends it: a blank, an LF, or the text's end.
use mathlib.Core.Path.{◌≡◌, refl, sym, ap, ◌∙◌}
use mathlib.Core.Bool.{Bool, true, false, not, ◌&&◌, ◌||◌, cond}
use mathlib.Core.List.{List, [], ◌∷◌, ◌++◌, append-nil}
use mathlib.Core.Option.{Option, some, none}
use Prim.Native.Nat.{ℕ, ◌+◌, ◌≤◌, ◌<◌}
use native.Mathlib.Omega.{arith}
use lib.Dec.{eqb, leb}
use lib.IntN.{ℤ, neg_ℤ, nat_abs}
use lib.ListN.{length, length-append}
use lib.Seq.{append_snoc}
use borrow.Author.Tests.{le-leb, lt-leb}
use Rattle.definition.specs.Checked.{Checked, fault, value, ◌>>=◌, refuse_if, or_fault}
use Rattle.definition.specs.Literals.{Clause, holds, repeated, opposed, highest}
use Rattle.definition.specs.Text.{Bytes, TextLine, bytes, is, longer, text_lines, same_bytes, fields, number}
use Rattle.definition.specs.LogReading.{with_literal, read_line_clause, line_clause_allowed, allowed_clause}
use Rattle.theory_base.proofs.Tests.{of_true, by_test}
use Rattle.theory_base.proofs.Members.{holds_mem}
use Rattle.theory_base.proofs.Fitting.{highest_append}
use Rattle.theory_base.specs.Clauses.{Proper}
use Rattle.theory_base.proofs.Clauses.{proper_unrepeated, proper_not_opposed, repeated_after, opposed_after}
use Rattle.theory_text.proofs.Words.{first_field, only_field, first_line}
use Rattle.theory_text.specs.Words.{Free}
use Rattle.theory_text.specs.LogLines.{first_ended, allowed_at, after_literals, ended_rest, rest_read}

-- ---- the first line that an LF ends, and bytes before it

abbrev pub before : Bytes → Option Bytes → Option Bytes
before w none = none
before w (some u) = some (w ++ u)

before_nil : (o : Option Bytes) → before [] o ≡ o
before_nil none = refl
before_nil (some u) = refl

before_cons : (b : ℕ) (w : Bytes) (o : Option Bytes) → before (b ∷ []) (before w o) ≡ before (b ∷ w) o
before_cons b w none = refl
before_cons b w (some u) = refl

ended_longer : (b : ℕ) (ls : List TextLine) → first_ended (longer b ls) ≡ before (b ∷ []) (first_ended ls)
unfolding longer
ended_longer b [] = refl
ended_longer b (l ∷ ls) = go l.ended l.text
  where
    go : (x : Bool) (u : Bytes) → cond x (some (b ∷ u)) none ≡ before (b ∷ []) (cond x (some u) none)
    go true u = refl
    go false u = refl

pub ended_cons : (b : ℕ) (t : Bytes) → is "\n" b ≡ false → first_ended (text_lines (b ∷ t)) ≡ before (b ∷ []) (first_ended (text_lines t))
unfolding text_lines
ended_cons b t e = rw e (ended_longer b (text_lines t))

pub ended_free : (w t : Bytes) → Free (is "\n") w → first_ended (text_lines (w ++ t)) ≡ before w (first_ended (text_lines t))
ended_free [] t f = sym (before_nil (first_ended (text_lines t)))
ended_free (b ∷ w) t f =
    ended_cons b (w ++ t) f.0 ∙ ap (before (b ∷ [])) (ended_free w t f.1) ∙ before_cons b w (first_ended (text_lines t))

-- ---- clauses that no line may have, and those that it may

module _ (c : Clause) where
  fails_last : (a b : Bool) → (a && b && false) ≡ false
  fails_last true true = refl
  fails_last true false = refl
  fails_last false b = refl

  high_refused : 70_000 < highest c → allowed_clause (some c) ≡ fault 31
  unfolding allowed_clause line_clause_allowed refuse_if
  high_refused h = rw (lt-leb (highest c) 70_000 h, fails_last (not (repeated c)) (not (opposed c)))

  repeated_refused : repeated c ≡ true → allowed_clause (some c) ≡ fault 31
  unfolding allowed_clause line_clause_allowed refuse_if
  repeated_refused e = rw e

  opposed_refused : opposed c ≡ true → allowed_clause (some c) ≡ fault 31
  unfolding allowed_clause line_clause_allowed refuse_if
  opposed_refused e = rw e (go (repeated c))
    where
      go : (b : Bool) → refuse_if (not (not b && false && leb (highest c) 70_000)) 31 (value c) ≡ fault 31
      go true = refl
      go false = refl

  pub proper_allowed : Proper c → highest c ≤ 70_000 → allowed_clause (some c) ≡ value c
  unfolding allowed_clause line_clause_allowed refuse_if
  proper_allowed p h = rw (proper_unrepeated c p, proper_not_opposed c p, le-leb (highest c) 70_000 h)

-- ---- literals after which no rest makes an allowed clause

refused_anyway : (c : Clause) → ((d : Clause) → allowed_clause (some (c ++ d)) ≡ fault 31) → (n : ℕ) (o : Option Clause) → allowed_at n (after_literals c o) ≡ fault 31
unfolding allowed_clause ◌>>=◌
refused_anyway c f n none = refl
refused_anyway c f n (some d) = rw (f d)

rest_refused : (at : ℕ) (c : Clause) (t : Bytes) → ((d : Clause) → allowed_clause (some (c ++ d)) ≡ fault 31) → rest_read at c t ≡ fault 31
unfolding rest_read
rest_refused at c t f = go (first_ended (text_lines t))
  where
    go : (o : Option Bytes) → ended_rest at c o ≡ fault 31
    go none = refl
    go (some u) = refused_anyway c f (at + (length u + 1)) (read_line_clause (fields u))

module _ (at : ℕ) (c : Clause) (l : ℤ) (t : Bytes) where
  pub rest_taken : (holds l c || holds (neg_ℤ l) c) ≡ true → rest_read at (c ++ (l ∷ [])) t ≡ fault 31
  rest_taken e = rest_refused at (c ++ (l ∷ [])) t (λ d. rw (append_snoc c l d) (refused d))
    where
      refused : (d : Clause) → allowed_clause (some (c ++ l ∷ d)) ≡ fault 31
      refused d = by_test (holds l c)
          (λ h. repeated_refused (c ++ l ∷ d) (repeated_after c l d (holds_mem l c (of_true h))))
          (λ h. opposed_refused (c ++ l ∷ d) (opposed_after c l d (holds_mem (neg_ℤ l) c (of_true (rw h at e)))))

  pub rest_high : 70_000 < nat_abs l → rest_read at (c ++ (l ∷ [])) t ≡ fault 31
  unfolding highest
  rest_high h = rest_refused at (c ++ (l ∷ [])) t (λ d. high_refused (c ++ (l ∷ []) ++ d) (omega (arith, highest_append (c ++ (l ∷ [])) d, highest_append c (l ∷ []))))

-- ---- the rest of a line by its first word

module _ (at : ℕ) (c : Clause) (w : Bytes) where
  pub rest_unended : Free (is "\n") w → rest_read at c w ≡ fault 31
  unfolding rest_read text_lines
  rest_unended f = ap (λ (t : Bytes). rest_read at c t) (sym (append-nil w)) ∙ ap (ended_rest at c) (ended_free w [] f)

  module _ (r : Bytes) (f : Free (is " ") w) (g : Free (is "\n") w) where
    last_clause : (b : Bool) → allowed_at (at + (length w + 1)) (after_literals c (cond b (some []) none)) ≡ refuse_if (not b) 31 (allowed_at (at + (length w + 1)) (some c))
    unfolding allowed_clause ◌>>=◌ refuse_if
    last_clause true = rw (append-nil c)
    last_clause false = refl

    pub rest_last : rest_read at c (w ++ 10 ∷ r) ≡ refuse_if (not (same_bytes w (bytes "0"))) 31 (allowed_at (at + (length w + 1)) (some c))
    unfolding rest_read read_line_clause
    rest_last = rw (first_line w r g, only_field w f) (last_clause (same_bytes w (bytes "0")))

    -- with a literal before what follows
    more_clause : (u : Bytes) (l : ℤ) (o : Option Clause) →
        allowed_at (at + (length (w ++ 32 ∷ u) + 1)) (after_literals c (with_literal (some l) o)) ≡ refuse_if (eqb 0 (nat_abs l)) 31 (allowed_at (at + (length w + 1) + (length u + 1)) (after_literals (c ++ (l ∷ [])) o))
    unfolding with_literal allowed_clause ◌>>=◌ refuse_if
    more_clause u l none = by_test (eqb 0 (nat_abs l)) (λ e. rw e) (λ e. rw e)
    more_clause u l (some d) =
        let n : at + (length (w ++ 32 ∷ u) + 1) ≡ at + (length w + 1) + (length u + 1) = omega (arith, length-append w (32 ∷ u)) in
        by_test (eqb 0 (nat_abs l)) (λ e. rw e) (λ e. rw (e, append_snoc c l d, n))

    more_fields : (u : Bytes) → read_line_clause (fields (w ++ 32 ∷ u)) ≡ with_literal (number w) (read_line_clause (fields u))
    unfolding read_line_clause fields
    more_fields u = rw (first_field w u f)

    -- by the number that the word is, and the line behind it
    abbrev numbered : Option ℤ → Option Bytes → Checked (ℕ × Clause)
    numbered o x = or_fault o 31 >>= λ l. refuse_if (eqb 0 (nat_abs l)) 31 (ended_rest (at + (length w + 1)) (c ++ (l ∷ [])) x)

    more_number : (u : Bytes) (o : Option ℤ) → allowed_at (at + (length (w ++ 32 ∷ u) + 1)) (after_literals c (with_literal o (read_line_clause (fields u)))) ≡ numbered o (some u)
    unfolding or_fault ◌>>=◌ with_literal allowed_clause
    more_number u none = refl
    more_number u (some l) = more_clause u l (read_line_clause (fields u))

    none_after : (o : Option ℤ) → fault 31 ≡ numbered o none
    unfolding or_fault ◌>>=◌ refuse_if
    none_after none = refl
    none_after (some l) = by_test (eqb 0 (nat_abs l)) (λ e. rw e) (λ e. rw e)

    pub rest_more : rest_read at c (w ++ 32 ∷ r) ≡ (or_fault (number w) 31 >>= λ l. refuse_if (eqb 0 (nat_abs l)) 31 (rest_read (at + (length w + 1)) (c ++ (l ∷ [])) r))
    unfolding rest_read is
    rest_more = ap (ended_rest at c) (ended_free w (32 ∷ r) g ∙ ap (before w) (ended_cons 32 r refl)) ∙ go (first_ended (text_lines r))
      where
        go : (x : Option Bytes) → ended_rest at c (before w (before (32 ∷ []) x)) ≡ numbered (number w) x
        go none = none_after (number w)
        go (some u) = ap (λ (o : Option Clause). allowed_at (at + (length (w ++ 32 ∷ u) + 1)) (after_literals c o)) (more_fields u) ∙ more_number u (number w)
