-- The line of an assignment, written variable by variable.
use mathlib.Core.Path.{◌≡◌, sym, ap, ◌∙◌}
use mathlib.Core.Bool.{Bool, true, false, not, cond}
use mathlib.Core.List.{[], ◌∷◌, ◌++◌}
use Prim.Native.Nat.{ℕ, zero, suc, ◌+◌, ◌*◌, ◌^◌, ◌≤◌, ◌<◌}
use native.Mathlib.Omega.{arith}
use native.Mathlib.Numerals.{add-one}
use lib.Dec.{eqb}
use lib.IntN.{ℤ, pos, neg_ℤ}
use lib.ListN.{length, get_or, length-append}
use mir.Syntax.{w32}
use mir.Val.{SFits}
use Rattle.definition.specs.Lists.{for_from}
use Rattle.definition.specs.Text.{Bytes, bytes, literal_text}
use Rattle.definition.specs.Assignments.{Assignment}
use Rattle.definition.specs.Calls.{answer_text}
use Rattle.literals.specs.Literal.{signed_of}
use Rattle.literals.proofs.Laws.{signed_small}
use Rattle.text.specs.Output.{Put}
use Rattle.text.proofs.Output.{put_then, put_same, put_none, literal_length}
use Rattle.theory_base.proofs.Loops.{for_from_snoc}
use Rattle.answer.specs.Table.{marked}
use Rattle.answer.specs.Output.{value_text, values_text}

-- ---- one variable

true_literal : (t : Bool) (i : ℕ) → i < 2 ^ 31 → signed_of (not t) i ≡ cond t (pos i) (neg_ℤ (pos i))
true_literal true i h = signed_small false i h
true_literal false i h = signed_small true i h

module _ (m : Bytes) (i : ℕ) (h : i < 2 ^ 31) where
  -- the literal that the entry gives
  pub value_is : {e : ℕ} {z : ℤ} → e ≡ get_or m i 0 → z ≡ signed_of (not (eqb e 1)) i → bytes " " ++ literal_text z ≡ value_text (marked m) i
  unfolding value_text marked
  value_is {e} {z} p q = ap (λ (l : ℤ). bytes " " ++ literal_text l) (q ∙ ap (λ (k : ℕ). signed_of (not (eqb k 1)) i) p ∙ true_literal (eqb (get_or m i 0) 1) i h)

literal_fits : (t : Bool) (i : ℕ) → i < 2 ^ 31 → SFits w32 (cond t (pos i) (neg_ℤ (pos i)))
literal_fits true i h = record { sfits = omega arith }
literal_fits false zero h = record { sfits = omega arith }
literal_fits false (suc i) h = record { sfits = omega arith }

value_length : (a : Assignment) (i : ℕ) → i < 2 ^ 31 → length (value_text a i) ≤ 12
unfolding value_text bytes
value_length a i h = omega (arith, literal_length (cond (a i) (pos i) (neg_ℤ (pos i))) (literal_fits (a i) i h))

-- ---- the variables 1 to n

values_more : (a : Assignment) (n : ℕ) → values_text a n ++ value_text a (n + 1) ≡ values_text a (n + 1)
values_more a n = let e : n + 1 ≡ 1 + n = omega arith in ap (λ (k : ℕ). values_text a n ++ value_text a k) e ∙ sym (for_from_snoc 1 n (value_text a)) ∙ ap (values_text a) (sym (add-one n))

pub values_length : (a : Assignment) (n : ℕ) → n < 2 ^ 31 → length (values_text a n) ≤ 12 * n
unfolding for_from
values_length a zero h = omega arith
values_length a (suc n) h =
    rw (for_from_snoc 1 n (value_text a), length-append (values_text a n) (value_text a (1 + n)))
    (omega (arith, values_length a n (omega arith), value_length a (1 + n) (omega arith)))

module _ {old : Bytes} {at : ℕ} (a : Assignment) where
  pub values_start : Put old at (values_text a 0) at old
  unfolding for_from
  values_start = put_none old at

  pub values_step : (n : ℕ) {r q : ℕ} {buf new : Bytes} → Put old at (values_text a n) r buf → Put buf r (value_text a (n + 1)) q new → Put old at (values_text a (n + 1)) q new
  values_step n p s = put_same (put_then p s) (values_more a n)

-- ---- the whole line

pub line_written : {l x y z : Bytes} {r q n : ℕ} (a : Assignment) (v : ℕ) →
    Put l 0 (118 ∷ []) r x → Put x r (values_text a v) q y → Put y q (bytes " 0\n") n z → Put l 0 (answer_text v a) n z
unfolding answer_text value_text bytes
line_written a v p q s = put_then p (put_then q s)
