-- The deletions by the table of counts are those of the copies that stand, pair by pair. Assumes nothing.
use mathlib.Core.Path.{◌≡◌, refl, sym, ap, ap₂, ◌∙◌}
use mathlib.Core.List.{List, [], ◌∷◌, ◌++◌, map, map-append, append-nil}
use Prim.Native.Nat.{ℕ, zero, suc, ◌+◌, ◌-◌, ◌*◌, ◌≤◌, ◌<◌}
use native.Mathlib.Omega.{arith}
use lib.IntN.{ℤ, pos, neg_ℤ}
use lib.ListN.{length, get_or, replicate}
use Rattle.definition.specs.Lists.{count, for_each}
use Rattle.definition.specs.Literals.{Clause, Formula, same_set}
use Rattle.definition.specs.Standing.{Line, deletion}
use Rattle.definition.specs.Counter.{pairs, copies}
use Rattle.theory_base.proofs.Loops.{getD_mem, for_from_same, for_each_from}
use Rattle.theory_base.specs.Clauses.{FitAll}
use Rattle.literals.specs.Literal.{negation}
use Rattle.literals.proofs.Laws.{negation_small}
use Rattle.tables.specs.Sizes.{input_reach}
use Rattle.pairs.specs.Pairs.{literal_at, cell_lines, row_lines, pair_lines}
use Rattle.pairs.proofs.Slots.{pair_of}
use Rattle.pairs.proofs.Rows.{row, pairs_by_place}

map_replicate : (n : ℕ) (p : Clause) → map deletion (replicate n p) ≡ replicate n (deletion p)
map_replicate zero p = refl
map_replicate (suc n) p = ap (λ (r : List Line). deletion p ∷ r) (map_replicate n p)

module _ (F : Formula) where
  -- the deletions of the copies of a clause
  abbrev deletions : Clause → List Line
  deletions p = replicate (count (same_set p) F) (deletion p)

  deletions_are : (ps : Formula) → for_each ps deletions ≡ map deletion (for_each ps (λ p. replicate (count (same_set p) F) p))
  unfolding for_each
  deletions_are [] = refl
  deletions_are (p ∷ ps) =
      ap₂ (λ (u v : List Line). u ++ v) (sym (map_replicate (count (same_set p) F) p)) (deletions_are ps)
      ∙ sym (map-append deletion (replicate (count (same_set p) F) p) (for_each ps (λ x. replicate (count (same_set x) F) x)))

  pub pair_lines_are : (l : Clause) (counts : List ℕ) → FitAll input_reach l → ((i j : ℕ) → i < j → j < length l → get_or counts (i * 64 + j) 0 ≡ count (same_set (pair_of l i j)) F) →
      pair_lines counts l ≡ map deletion (copies F l)
  unfolding for_each copies
  pair_lines_are l counts h e =
      for_from_same 0 (length l) (row_lines counts l) (λ i. for_each (row l i) deletions) rows
      ∙ sym (for_each_from 0 (length l) (row l) deletions)
      ∙ ap (λ (ps : Formula). for_each ps deletions) (sym (pairs_by_place l))
      ∙ deletions_are (pairs l)
    where
      negated : (i : ℕ) → i < length l → negation (literal_at l i) ≡ neg_ℤ (literal_at l i)
      negated i b = negation_small (literal_at l i) (omega (arith, (h (literal_at l i) (getD_mem l i (pos 0) b)).1))

      cells : (i j : ℕ) → i < j → j < length l → cell_lines counts l i j ≡ for_each (pair_of l i j ∷ []) deletions
      cells i j a b =
          ap₂ (λ (n : ℕ) (p : Clause). replicate n (deletion p)) (e i j a b) (ap₂ (λ (x y : ℤ). x ∷ y ∷ []) (negated i (omega arith)) (negated j b))
          ∙ sym (append-nil (deletions (pair_of l i j)))

      rows : (i : ℕ) → 0 ≤ i → i < 0 + length l → row_lines counts l i ≡ for_each (row l i) deletions
      rows i a b =
          for_from_same (suc i) (length l - suc i) (cell_lines counts l i) (λ j. for_each (pair_of l i j ∷ []) deletions) (λ j x y. cells i j (omega arith) (omega arith))
          ∙ sym (for_each_from (suc i) (length l - suc i) (λ j. pair_of l i j ∷ []) deletions)
