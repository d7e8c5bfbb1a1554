-- "Order form": a replaced clause is proper where it is added, and weighs no more. Assumes that the old clause and the choice's literals are proper.
use mathlib.Core.Path.{◌≡◌, refl, ap}
use mathlib.Core.Bool.{Bool, true, false}
use mathlib.Core.List.{[], ◌∷◌, ◌++◌, Memᴰ}
use mathlib.Core.Option.{Option, some, none}
use Prim.Native.Nat.{ℕ, ◌+◌, ◌-◌, ◌≤◌, ◌<◌}
use native.Mathlib.Omega.{arith}
use lib.Dec.{ltb}
use lib.IntN.{ℤ, neg_ℤ, neg_ℤ-neg_ℤ, nat_abs}
use borrow.Author.Tests.{ltb-true}
use Rattle.definition.specs.Lists.{sum_of, only_if}
use Rattle.definition.specs.Literals.{Clause, opposed}
use Rattle.definition.specs.Events.{Choice}
use Rattle.definition.specs.Counter.{last_new, size, lit, new}
use Rattle.definition.specs.Order.{place_from, previous, negated_new, instead_of, replaced}
use Rattle.theory_base.proofs.Members.{natAbs_neg}
use Rattle.theory_base.proofs.Sums.{sum-≤, sum_for_each}
use Rattle.theory_base.proofs.Clauses.{tests_proper}
use Rattle.theory_base.proofs.Fitting.{ProperTo, proper_fit}
use Rattle.theory_counter.specs.Ready.{WellFormed}
use Rattle.theory_order.proofs.Replace.{replaced_fit}
use Rattle.theory_order.proofs.Results.{placed, replaced_distinct}
use Rattle.theory_room.proofs.Weights.{weight}
use Rattle.theory_room.proofs.Choice.{lit_mem}

-- where it holds no literal and its negation
pub replaced_to : (c : Choice) → WellFormed c → (d : Clause) → ProperTo c.below d → opposed (replaced c d) ≡ false → ProperTo (last_new c) (replaced c d)
replaced_to c u d p e =
    let f = replaced_fit c u d (proper_fit p) in
    (tests_proper (replaced c d) (replaced_distinct c u d p.0 p.1) e (λ x i. (f x i).0), λ x i. (f x i).1)

-- ---- weights for which a replaced clause weighs no more
-- a literal of a new variable weighs at most a, one of the choice at most 2a, a negated one 2a
pub record Weighs (a : ℕ) (w : ℤ → ℕ) (c : Choice) : Type 0 where
  pub of_new : (x : ℤ) → c.below < nat_abs x → w x ≤ a
  pub of_literal : (x : ℤ) → Memᴰ x c.literals → w x ≤ a + a
  pub of_negated : (x : ℤ) → Memᴰ x c.literals → w (neg_ℤ x) ≡ a + a

module _ (a : ℕ) (w : ℤ → ℕ) (c : Choice) (h : Weighs a w c) where
  pub new_weight : (i : ℕ) → 1 ≤ i → w (new c i) ≤ a
  unfolding new
  new_weight i b = h.of_new (new c i) (omega arith)

  pub negated_new_weight : (i : ℕ) → 1 ≤ i → w (neg_ℤ (new c i)) ≤ a
  unfolding new
  negated_new_weight i b = h.of_new (neg_ℤ (new c i)) (rw (natAbs_neg (new c i)) (omega arith))

  instead : ℤ → Clause
  instead m = instead_of c m (place_from 1 (neg_ℤ m) c.literals)

  instead_weight : (m : ℤ) → sum_of w (instead m) ≤ w m
  unfolding instead instead_of previous negated_new only_if sum_of
  instead_weight m = go (place_from 1 (neg_ℤ m) c.literals) refl
    where
      two : (i : ℕ) → 1 ≤ i → (t u : Bool) → ltb 1 i ≡ t → sum_of w (only_if t (new c (i - 1) ∷ []) ++ only_if u (neg_ℤ (new c i) ∷ [])) ≤ a + a
      two i b true true e = let t = ltb-true 1 i e in omega (arith, new_weight (i - 1) (omega arith), negated_new_weight i b)
      two i b true false e = let t = ltb-true 1 i e in omega (arith, new_weight (i - 1) (omega arith))
      two i b false true e = omega (arith, negated_new_weight i b)
      two i b false false e = omega arith

      go : (o : Option ℕ) → place_from 1 (neg_ℤ m) c.literals ≡ o → sum_of w (instead_of c m o) ≤ w m
      go none e = omega arith
      go (some i) e =
          let r = placed c (neg_ℤ m) i e in
          omega (arith, two i r.0 (ltb 1 i) (ltb i (size c)) refl, h.of_negated (lit c i) (lit_mem c i r.0 r.1), ap (λ (x : ℤ). w (neg_ℤ x)) r.2, ap w (neg_ℤ-neg_ℤ m))

  pub replaced_weight : (u : ℕ) (d : Clause) → weight u w (replaced c d) ≤ weight u w d
  unfolding weight replaced instead
  replaced_weight u d = omega (arith, sum_for_each w d instead, sum-≤ (λ m. sum_of w (instead m)) w d (λ m _. instead_weight m))
