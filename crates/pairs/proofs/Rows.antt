-- The definition's pairs by the places of their literals, row by row. Assumes nothing.
use mathlib.Core.Path.{◌≡◌, refl, sym, ap, ap₂, ◌∙◌}
use mathlib.Core.List.Memᴰ
use mathlib.Core.List.Memᴰ.{head as here}
use mathlib.Core.List.{[], ◌∷◌, ◌++◌, map, Memᴰ}
use Prim.Native.Nat.{ℕ, suc, ◌-◌, ◌<◌}
use native.Mathlib.Omega.{arith}
use lib.IntN.{ℤ, neg_ℤ}
use lib.ListN.{length}
use Rattle.definition.specs.Lists.{for_from}
use Rattle.definition.specs.Literals.{Clause, Formula}
use Rattle.definition.specs.Counter.{pairs}
use Rattle.theory_base.proofs.Loops.{for_from_mem, for_from_same, for_from_lower, mem_for_from}
use Rattle.pairs.specs.Pairs.{literal_at}
use Rattle.pairs.proofs.Slots.{pair_of}

by_place : (a : ℤ) (l : Clause) → for_from 0 (length l) (λ j. (neg_ℤ a ∷ neg_ℤ (literal_at l j) ∷ []) ∷ []) ≡ map (λ b. neg_ℤ a ∷ neg_ℤ b ∷ []) l
unfolding for_from
by_place a [] = refl
by_place a (b ∷ l) =
    ap (λ (r : Formula). (neg_ℤ a ∷ neg_ℤ b ∷ []) ∷ r)
    (for_from_lower 0 (length l) (λ j. (neg_ℤ a ∷ neg_ℤ (literal_at (b ∷ l) j) ∷ []) ∷ []) ∙ by_place a l)

-- the pairs of the literal at a place with those behind it
abbrev pub row : Clause → ℕ → Formula
row l i = for_from (suc i) (length l - suc i) (λ j. pair_of l i j ∷ [])

first_row : (a : ℤ) (l : Clause) → row (a ∷ l) 0 ≡ map (λ b. neg_ℤ a ∷ neg_ℤ b ∷ []) l
first_row a l =
    let e : suc (length l) - 1 ≡ length l = omega arith in
    ap (λ (n : ℕ). for_from 1 n (λ j. pair_of (a ∷ l) 0 j ∷ [])) e ∙ for_from_lower 0 (length l) (λ j. pair_of (a ∷ l) 0 j ∷ []) ∙ by_place a l

later_row : (a : ℤ) (l : Clause) (i : ℕ) → row (a ∷ l) (suc i) ≡ row l i
later_row a l i =
    let e : suc (length l) - suc (suc i) ≡ length l - suc i = omega arith in
    ap (λ (n : ℕ). for_from (suc (suc i)) n (λ j. pair_of (a ∷ l) (suc i) j ∷ [])) e ∙ for_from_lower (suc i) (length l - suc i) (λ j. pair_of (a ∷ l) (suc i) j ∷ [])

pub pairs_by_place : (l : Clause) → pairs l ≡ for_from 0 (length l) (row l)
unfolding pairs for_from
pairs_by_place [] = refl
pairs_by_place (a ∷ l) =
    ap₂ (λ (u v : Formula). u ++ v) (sym (first_row a l))
    (pairs_by_place l ∙ sym (for_from_lower 0 (length l) (row (a ∷ l)) ∙ for_from_same 0 (length l) (λ i. row (a ∷ l) (suc i)) (row l) (λ i h k. later_row a l i)))

pub pair_there : (l : Clause) (i j : ℕ) → i < j → j < length l → Memᴰ (pair_of l i j) (pairs l)
pair_there l i j a b =
    rw (pairs_by_place l)
    (mem_for_from 0 (length l) i (row l) (pair_of l i j) (omega arith) (omega arith)
    (mem_for_from (suc i) (length l - suc i) j (λ k. pair_of l i k ∷ []) (pair_of l i j) (omega arith) (omega arith) (here refl)))

-- a pair and the places of its literals
pub record PairAt (l p : Clause) : Type 0 where
  pub i : ℕ
  pub j : ℕ
  pub less : i < j
  pub within : j < length l
  pub is : p ≡ pair_of l i j

pub pair_places : (l p : Clause) → Memᴰ p (pairs l) → PairAt l p
pair_places l p m =
    let r = for_from_mem 0 (length l) (row l) p (rw (pairs_by_place l) at m) in
    let s = for_from_mem (suc r.0) (length l - suc r.0) (λ k. pair_of l r.0 k ∷ []) p r.3 in
    record { i = r.0; j = s.0; less = omega (arith, s.1); within = omega (arith, s.2, r.2); is = Memᴰ.eq_of_singleton s.3 }
