-- The pass over the clauses before a choice's counter clauses.
use Rattle.std.specs.Prelude.{◌≡◌, ℤ, not}
use mathlib.Core.List.{[], ◌∷◌, Memᴰ}
use Rattle.definition.specs.Lists.{for_each, those, only_if}
use Rattle.definition.specs.Literals.{Clause, Formula, opposes, opposed}
use Rattle.definition.specs.Events.{Choice}
use Rattle.definition.specs.Clearing.{times}
use Rattle.theory_base.specs.Clauses.{Fits}
use Rattle.theory_counter.specs.Ready.{WellFormed}
use Rattle.definition.specs.Order.{replaced}

-- what stands before the counter clauses: no new variable, no literal of the choice
pub record Before (E : Formula) (k : Choice) : Type 0 where
  pub well_formed : WellFormed k
  pub fits : Fits k.below E
  pub absent : (x : ℤ) → Memᴰ x k.literals → times x E ≡ 0

-- what the pass leaves of the clauses gone through, and what it adds
module _ (k : Choice) where
  abbrev pub kept : Formula → Formula
  kept F = those (λ d. not (opposes k.literals d)) F

  abbrev pub results : Clause → Formula
  results d = only_if (opposes k.literals d) (only_if (not (opposed (replaced k d))) (replaced k d ∷ []))

  abbrev pub added : Formula → Formula
  added F = for_each F results
