-- What reading ensures of a formula that it accepts.
use Rattle.std.specs.Prelude.{◌≤◌, length}
use Rattle.definition.specs.Literals.{literals_of}
use Rattle.definition.specs.Reading.{Limits, Input}
use Rattle.theory_base.specs.Clauses.{ProperAll, Fits}

-- ---- the whole text
pub record Accepted (most : Limits) (i : Input) : Type 0 where
  pub variables_few : i.variables ≤ i.highest
  pub highest_few : i.highest ≤ most.variables
  pub clauses_few : i.clauses ≤ most.clauses
  pub formula_few : length i.formula ≤ i.clauses
  pub literals_few : literals_of i.formula ≤ most.literals
  pub fits : Fits i.highest i.formula
  pub proper : ProperAll i.formula
