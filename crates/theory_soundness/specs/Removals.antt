-- Several deletions one after another.
use Rattle.std.specs.Prelude.{[], ◌∷◌}
use Rattle.definition.specs.Literals.{Formula}
use Rattle.definition.specs.Standing.{take_out}

-- what is left after taking the clauses out
abbrev pub take_all : Formula → Formula → Formula
take_all F [] = F
take_all F (d ∷ D) = take_all (take_out d F) D
