-- The most that a text may have.
use Rattle.std.specs.Prelude.{◌≤◌}
use Rattle.definition.specs.Reading.{Limits as DefinitionLimits}
use Rattle.dimacs.specs.declared.Limits.{Limits}

-- as the definition names it
abbrev pub limits_of : Limits → DefinitionLimits
limits_of m = record { variables = m.variables; clauses = m.clauses; literals = m.literals }

-- limits that the reader's numbers can tell
pub record Countable (m : Limits) : Type 0 where
  pub variables : m.variables ≤ 70_000
  pub clauses : m.clauses ≤ 1_000_000
  pub literals : m.literals ≤ 1_000_000
