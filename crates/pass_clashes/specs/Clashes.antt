-- The clauses of a clash, in a store.
use Rattle.std.specs.Prelude.{◌≡◌, List, ℕ, ℤ, pos}
use Rattle.std.proofs.Math.Option.{some}
use Rattle.definition.specs.Events.{Clash}
use Rattle.definition.specs.Clearing.{clash_at}
use Rattle.store.specs.Store.{stored, clause_at}
use Rattle.index.specs.Reading.{StandsAt}

-- the clash of v whose clauses are at x and y
abbrev pub clash_there : List ℤ → ℕ → ℕ → ℕ → Clash
clash_there s v x y = record { v = pos v; one = clause_at s x; other = clause_at s y }

-- it is the clash of v in the store
pub record Clashing (s : List ℤ) (v x y : ℕ) : Type 0 where
  pub one_stands : StandsAt s x
  pub other_stands : StandsAt s y
  pub clash : clash_at (stored s) v ≡ some (clash_there s v x y)
