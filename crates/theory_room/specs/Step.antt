-- The room that a run makes before each clash and each choice: enough for all that is added until the next.
use Rattle.std.specs.Prelude.{ℕ, ◌+◌, ◌*◌, length}
use Rattle.definition.specs.Literals.{literals_of}
use Rattle.definition.specs.Reading.{Input}

-- a clash adds a resolvent; a choice of 64 adds counter clauses of 2,520 cells at most, and in order form a clause for each that it replaces
abbrev pub step_of : Input → ℕ
step_of i = 6 * literals_of i.formula + length i.formula + 2_520
