-- How much of a workspace clauses take: a clause its header and its literals, and each literal two more for its node in the index.
use Rattle.std.specs.Prelude.{ℕ, ◌+◌, ◌*◌}
use Rattle.definition.specs.Literals.{Formula, literals_of}
use Rattle.definition.specs.Calls.{numbers_of}

abbrev pub cells_of : Formula → ℕ
cells_of f = numbers_of f + 2 * literals_of f
