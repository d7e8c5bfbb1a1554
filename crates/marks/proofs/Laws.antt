-- Where nothing is marked, and what the lowest marked variable is, by the laws of first-from. Assumes nothing.
use mathlib.Core.Path.{◌≡◌, refl, sym, ap, ◌∙◌}
use mathlib.Core.Bool.{Bool, true, false, cond}
use mathlib.Core.List.{List}
use mathlib.Core.Option.{Option, some, none}
use Prim.Native.Nat.{ℕ, ◌+◌, ◌*◌, ◌/◌, ◌%◌, ◌≤◌, ◌<◌}
use native.Mathlib.Omega.{arith}
use lib.Dec.{eqb, ltb}
use lib.ListN.{length, get_or, replicate, get_or-eq_default}
use borrow.Author.Tests.{ltb-true, ltb-false}
use Rattle.definition.specs.Lists.{first_from}
use Rattle.theory_base.proofs.Loops.{none_some, some_same, first_from_some, first_from_none, some_first_from, none_first_from}
use Rattle.theory_base.proofs.Slices.{getD_zeros}
use Rattle.theory_base.proofs.Tests.{by_test, differ, of_true}
use Rattle.marks.specs.Marks.{digit, marked, answer_of, left_from, lowest_from, LowestMarked}
use Rattle.std.proofs.Common.{Some, None}
use Rattle.marks.proofs.Digits.{digit_of_zero}

pub none_in_zero : (m : List ℕ) (v : ℕ) → get_or m (v / 32) 0 ≡ 0 → marked m v ≡ false
none_in_zero m v e = ap (λ (x : ℕ). eqb (digit (v % 32) x) 1) e ∙ ap (λ (d : ℕ). eqb d 1) (digit_of_zero (v % 32))

pub none_past : (m : List ℕ) (v : ℕ) → 32 * length m ≤ v → marked m v ≡ false
none_past m v h = none_in_zero m v (get_or-eq_default m 0 (omega arith))

pub none_in_zeros : (n v : ℕ) → marked (replicate n 0) v ≡ false
none_in_zeros n v = none_in_zero (replicate n 0) v (getD_zeros n (v / 32))

-- ---- the lowest marked variable

-- the variable, if it is marked
abbrev if_marked : List ℕ → ℕ → Option ℕ
if_marked m v = cond (marked m v) (some v) none

by_mark : (m : List ℕ) (k : ℕ) {b : Bool} → marked m k ≡ b → if_marked m k ≡ cond b (some k) none
by_mark m k e = ap (λ (b : Bool). cond b (some k) none) e

marked_some : (m : List ℕ) (k v : ℕ) → if_marked m k ≡ some v → (k ≡ v) × (marked m k ≡ true)
marked_some m k v e = by_test (marked m k) (λ t. (some_same (sym (by_mark m k t) ∙ e), t)) (λ t. none_some (sym (by_mark m k t) ∙ e))

marked_none : (m : List ℕ) (k : ℕ) → if_marked m k ≡ none → marked m k ≡ false
marked_none m k e = by_test (marked m k) (λ t. none_some (sym e ∙ by_mark m k t)) (λ t. t)

answer_at : (o : Option ℕ) (v : ℕ) → answer_of o ≡ Some v → o ≡ some v
answer_at none v e = let z : ◌≡◌ {A = ℕ} 0 1 = cc in absurd (omega arith)
answer_at (some x) v e = cc

answer_nothing : (o : Option ℕ) → answer_of o ≡ None → o ≡ none
answer_nothing none e = refl
answer_nothing (some x) e = let z : ◌≡◌ {A = ℕ} 0 1 = cc in absurd (omega arith)

module _ (m : List ℕ) (from : ℕ) where
  abbrev first_marked : Option ℕ
  first_marked = first_from from (left_from m from) (if_marked m)

  found_marked : (v : ℕ) → first_marked ≡ some v → (from ≤ v) × (marked m v ≡ true) × ((k : ℕ) → from ≤ k → k < v → marked m k ≡ false)
  found_marked v e =
      let r = first_from_some (if_marked m) from (left_from m from) v e in
      let s = marked_some m r.0 v r.3 in
      (omega (arith, r.1, s.0), ap (marked m) (sym s.0) ∙ s.1, λ k a b. marked_none m k (r.4 k a (omega (arith, s.0))))

  marked_within : (v : ℕ) → from ≤ v → marked m v ≡ true → v < from + left_from m from
  marked_within v a t =
      by_test (ltb v (32 * length m)) (λ l. omega (arith, ltb-true v (32 * length m) l)) (λ l. differ (of_true t) (none_past m v (ltb-false v (32 * length m) l)))

  none_left : first_marked ≡ none → (k : ℕ) → from ≤ k → marked m k ≡ false
  none_left e k a = by_test (marked m k) (λ t. marked_none m k (first_from_none (if_marked m) from (left_from m from) e k a (marked_within k a t))) (λ t. t)

  pub lowest_marked : LowestMarked m from
  unfolding lowest_from
  lowest_marked = record {
    found = λ v e. found_marked v (answer_at first_marked v e);
    finds = λ v a t h. ap answer_of (some_first_from (if_marked m) from (left_from m from) v v a (marked_within v a t) (λ k b c. by_mark m k (h k b c)) (by_mark m v t));
    none_marked = λ e. none_left (answer_nothing first_marked e);
    none_found = λ h. ap answer_of (none_first_from (if_marked m) from (left_from m from) (λ k a b. by_mark m k (h k a)));
  }
