-- The `v` line of an assignment, read as an answer, names that assignment.
use mathlib.Core.Path.{◌≡◌, refl, sym, ◌∙◌, ap}
use mathlib.Core.Bool.{Bool, true, false, cond}
use mathlib.Core.List.Memᴰ.{head as here}
use mathlib.Core.List.Memᴰ.{tail as there}
use mathlib.Core.List.{[], ◌∷◌, ◌++◌, append_assoc, Memᴰ}
use Prim.Native.Nat.{ℕ, zero, suc, ◌+◌, ◌≤◌, ◌<◌}
use Prim.Native.Char.{code}
use native.Mathlib.Omega.{arith}
use lib.Dec.{eqb}
use lib.IntN.{ℤ, pos, neg_ℤ, nat_abs}
use borrow.Author.Tests.{le-ltb, ne_eqb, eqb-true, eqb-false}
use Rattle.definition.specs.Lists.{for_each, for_from}
use Rattle.definition.specs.Checked.{value, ◌>>=◌, refuse_if, or_fault, through}
use Rattle.definition.specs.Literals.{Clause, Formula, holds}
use Rattle.definition.specs.Text.{Bytes, bytes, is, longer, text_lines, line_text, same_bytes, number, natural, not_negated, digit, digit_value, literal_text, without_last_cr}
use Rattle.definition.specs.Assignments.{Assignment, satisfies}
use Rattle.definition.specs.Answer.{Answer, begins_with, space_or_tab, read_answer_word, read_answer_line, read_answer}
use Rattle.definition.specs.Calls.{assigned, answer_text}
use Rattle.theory_base.proofs.Tests.{to_true}
use Rattle.theory_base.proofs.Members.{natAbs_neg, mem_holds, holds_false, proper_unopposed}
use Rattle.theory_base.specs.Clauses.{Proper, Fit, Fits}
use Rattle.theory_base.proofs.Clauses.{natAbs_zero}
use Rattle.theory_base.proofs.Trues.{satisfies_same}
use Rattle.theory_text.proofs.Digits.{number_literal}
use Rattle.theory_text.proofs.Words.{first_line, no_last_cr}
use Rattle.theory_text.specs.Words.{Free}
use Rattle.theory_base.proofs.Outcomes.{through-++}
use Rattle.theory_text.proofs.ClauseText.{Outside, newline_outside, return_outside, space_or_tab_outside, literal_words, clause_words, clause_line_free, words_clause_line, literals_through}
use Rattle.theory_text.specs.ClauseText.{literals_text, clause_line}

-- the literals that are true, of the n variables from i
unfoldable chosen_literal : Assignment → ℕ → ℤ
chosen_literal a i = cond (a i) (pos i) (neg_ℤ (pos i))

unfoldable named_from : Assignment → ℕ → ℕ → Clause
named_from a i n = for_from i n (λ x. chosen_literal a x ∷ [])

variable_of_chosen : (a : Assignment) (i : ℕ) → nat_abs (chosen_literal a i) ≡ i
unfolding chosen_literal
variable_of_chosen a i = go (a i)
  where
    go : (b : Bool) → nat_abs (cond b (pos i) (neg_ℤ (pos i))) ≡ i
    go true = refl
    go false = natAbs_neg (pos i)

-- ---- their text
named_text : (a : Assignment) (i n : ℕ) → for_from i n (λ x. bytes " " ++ literal_text (chosen_literal a x)) ++ bytes " 0" ≡ bytes " " ++ clause_line (named_from a i n)
unfolding named_from for_from clause_line literals_text for_each bytes
named_text a i zero = refl
named_text a i (suc n) =
    let l = literal_text (chosen_literal a i) in
    let rest = for_from (suc i) n (λ x. bytes " " ++ literal_text (chosen_literal a x)) in
    ap (λ (t : Bytes). 32 ∷ t) (append_assoc l rest (bytes " 0") ∙ (rw (named_text a (suc i) n) (simp append_assoc)))

-- the `v` line of literals, without its LF
unfoldable answer_line : Clause → Bytes
answer_line c = bytes "v " ++ clause_line c

answer_text_line : (v : ℕ) (a : Assignment) → answer_text v a ≡ answer_line (named_from a 1 v) ++ bytes "\n"
unfolding answer_text answer_line chosen_literal bytes
answer_text_line v a =
    let numbers = for_from 1 v (λ x. bytes " " ++ literal_text (chosen_literal a x)) in
    rw (sym (append_assoc numbers (32 ∷ 48 ∷ []) (10 ∷ [])) ∙ ap (λ (t : Bytes). t ++ (10 ∷ [])) (named_text a 1 v))

answer_line_free : (p : ℕ → Bool) → p (code "v") ≡ false → p (code " ") ≡ false → Outside p → (c : Clause) → Free p (answer_line c)
unfolding answer_line bytes
answer_line_free p f g h c = (f, (g, clause_line_free p h g c))

answer_lines : (c : Clause) → text_lines (bytes "s SATISFIABLE\n" ++ (answer_line c ++ bytes "\n")) ≡ record { text = bytes "s SATISFIABLE"; ended = true } ∷ record { text = answer_line c; ended = true } ∷ []
unfolding bytes is text_lines longer
answer_lines c = rw (first_line (answer_line c) [] (answer_line_free (is "\n") refl refl newline_outside c))

status_line_text : line_text (record { text = bytes "s SATISFIABLE"; ended = true }) ≡ bytes "s SATISFIABLE"
unfolding line_text bytes without_last_cr is
status_line_text = refl

answer_line_text : (c : Clause) → line_text (record { text = answer_line c; ended = true }) ≡ answer_line c
unfolding line_text is
answer_line_text c = no_last_cr (answer_line c) (answer_line_free (is "\r") refl refl return_outside c)

-- ---- reading it: after the `s` line with literals named, and after the `0`
abbrev open_at : Clause → Answer
open_at c = record { begun = true; closed = false; named = c }

abbrev closed_at : Clause → Answer
closed_at c = record { begun = true; closed = true; named = c }

status_read : (x : ℕ) → read_answer_line x (record { begun = false; closed = false; named = [] }) (bytes "s SATISFIABLE") ≡ value (open_at [])
unfolding read_answer_line bytes begins_with same_bytes
status_read x = refl

literal_read : (x : ℕ) (c : Clause) (l : ℤ) → Fit x l → (Memᴰ l c → ⊥) → (Memᴰ (neg_ℤ l) c → ⊥) → read_answer_word x (open_at c) (literal_text l) ≡ value (open_at (c ++ (l ∷ [])))
unfolding read_answer_word refuse_if or_fault ◌>>=◌
literal_read x c l f n m =
    rw (number_literal l, ne_eqb 0 (nat_abs l) (λ e. f.0 (natAbs_zero l (sym e))), le-ltb x (nat_abs l) f.1, holds_false l c n, holds_false (neg_ℤ l) c m)

zero_read : (x : ℕ) (c : Clause) → read_answer_word x (open_at c) (bytes "0") ≡ value (closed_at c)
unfolding read_answer_word refuse_if or_fault ◌>>=◌ bytes number natural not_negated is digit digit_value
zero_read x c = refl

module _ (x : ℕ) (c : Clause) (proper : Proper c) (fit : (l : ℤ) → Memᴰ l c → Fit x l) where
  words_read : through (read_answer_word x) (open_at []) (clause_words c) ≡ value (closed_at c)
  unfolding clause_words through ◌>>=◌
  words_read =
      rw (
        through-++ (read_answer_word x) (open_at []) (literal_words c) (bytes "0" ∷ []) (open_at c)
            (literals_through (read_answer_word x) open_at x (literal_read x) [] c proper fit),
        zero_read x c,
      )

  answer_line_read : read_answer_line x (open_at []) (answer_line c) ≡ value (closed_at c)
  unfolding read_answer_line answer_line bytes begins_with same_bytes refuse_if space_or_tab is
  answer_line_read = rw (words_clause_line space_or_tab refl space_or_tab_outside c) words_read

  answer_read_as : read_answer x (bytes "s SATISFIABLE\n" ++ (answer_line c ++ bytes "\n")) ≡ value c
  unfolding read_answer through ◌>>=◌ refuse_if
  answer_read_as = rw (answer_lines c, status_line_text, status_read x, answer_line_text c, answer_line_read)

-- ---- the literals named
named_range : (a : Assignment) (i n : ℕ) (l : ℤ) → Memᴰ l (named_from a i n) → (i ≤ nat_abs l) × (nat_abs l < i + n)
unfolding named_from for_from
named_range a i (suc n) l (here e) = let k : nat_abs l ≡ i = ap nat_abs e ∙ variable_of_chosen a i in (omega arith, omega arith)
named_range a i (suc n) l (there m) = let r = named_range a (suc i) n l m in (omega (arith, r.0), omega (arith, r.1))
named_range a i zero l x' = elim x' [ ]

named_proper : (a : Assignment) (i n : ℕ) → 1 ≤ i → Proper (named_from a i n)
unfolding named_from for_from
named_proper a i zero h = tt
named_proper a i (suc n) h = (
  λ e. omega (arith, variable_of_chosen a i, ap nat_abs e),
  λ m. omega (arith, variable_of_chosen a i, (named_range a (suc i) n (chosen_literal a i) m).0),
  λ m. omega (arith, variable_of_chosen a i, natAbs_neg (chosen_literal a i), (named_range a (suc i) n (neg_ℤ (chosen_literal a i)) m).0),
  named_proper a (suc i) n (omega arith),
)

named_member : (a : Assignment) (i n x : ℕ) → i ≤ x → x < i + n → Memᴰ (chosen_literal a x) (named_from a i n)
unfolding named_from for_from
named_member a i zero x f g = absurd (omega arith)
named_member a i (suc n) x f g = go (eqb x i) refl (named_member a (suc i) n x)
  where
    go : (b : Bool) → eqb x i ≡ b → (suc i ≤ x → x < suc i + n → Memᴰ (chosen_literal a x) (named_from a (suc i) n)) → Memᴰ (chosen_literal a x) (chosen_literal a i ∷ named_from a (suc i) n)
    go true q ih = here (ap (chosen_literal a) (eqb-true x i q))
    go false q ih = let k : i < x = omega (arith, eqb-false x i q) in there (ih k (omega arith))

named_assigned : (a : Assignment) (v x : ℕ) → 1 ≤ x → x ≤ v → assigned (named_from a 1 v) x ≡ a x
unfolding assigned chosen_literal
named_assigned a v x f g = go (a x) (named_member a 1 v x f (omega arith))
  where
    go : (b : Bool) → Memᴰ (cond b (pos x) (neg_ℤ (pos x))) (named_from a 1 v) → holds (pos x) (named_from a 1 v) ≡ b
    go true m = to_true (mem_holds (pos x) (named_from a 1 v) m)
    go false m = holds_false (pos x) (named_from a 1 v) (λ k. proper_unopposed (named_from a 1 v) (named_proper a 1 v (omega arith)) (pos x) k m)

-- ---- the answer: read with variables up to x allowed, it gives 1..v the values of a
pub record Answered (x v : ℕ) (a : Assignment) : Type 0 where
  pub named : Clause
  pub reads : read_answer x (bytes "s SATISFIABLE\n" ++ answer_text v a) ≡ value named
  pub values : (y : ℕ) → 1 ≤ y → y ≤ v → assigned named y ≡ a y
  pub satisfying : (f : Formula) → Fits v f → satisfies (assigned named) f ≡ satisfies a f

pub answer_read : (x v : ℕ) (a : Assignment) → v ≤ x → Answered x v a
answer_read x v a h = record {
  named = named_from a 1 v;
  reads = rw (answer_text_line v a) (answer_read_as x (named_from a 1 v) (named_proper a 1 v (omega arith)) fit);
  values = named_assigned a v;
  satisfying = λ f fits. satisfies_same v (assigned (named_from a 1 v)) a f fits (named_assigned a v);
}
  where
    fit : (l : ℤ) → Memᴰ l (named_from a 1 v) → Fit x l
    fit l m = let r = named_range a 1 v l m in (λ e. omega (arith, r.0, ap nat_abs e), omega (arith, r.1))
