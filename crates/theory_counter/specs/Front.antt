-- What stands before the counter clauses after stage 4 of a choice.
use Rattle.std.specs.Prelude.{not, [], ◌∷◌}
use Rattle.definition.specs.Lists.{those}
use Rattle.definition.specs.Literals.{Clause, Formula, same_set}
use Rattle.definition.specs.Standing.{take_out}
use Rattle.definition.specs.Events.{Choice}
use Rattle.definition.specs.Counter.{pairs}

-- without the copies of a clause
abbrev pub drop_copies : Clause → Formula → Formula
drop_copies p F = those (λ d. not (same_set p d)) F

-- without the copies of several clauses
abbrev pub drop_all : Formula → Formula → Formula
drop_all F [] = F
drop_all F (p ∷ ps) = drop_all (drop_copies p F) ps

unfoldable pub front : Formula → Choice → Formula
front F k = drop_all (take_out k.literals F) (pairs k.literals)
