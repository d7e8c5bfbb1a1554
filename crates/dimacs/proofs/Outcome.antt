-- What a result of the whole reading says of the outcome. Assumes nothing.
use mathlib.Core.Path.{◌≡◌}
use Rattle.std.proofs.Common.{ap, Result, Ok, Err}
use Rattle.definition.specs.Checked.{Checked, fault, value}
use Rattle.definition.specs.Literals.{literals_of}
use Rattle.definition.specs.Reading.{Input}
use Rattle.definition.specs.Calls.{numbers_of}
use Rattle.refusals.specs.declared.Refusal.{Refusal}
use Rattle.refusals.specs.Numbers.{number}
use Rattle.refusals.specs.Outcomes.{outcome, showing}
use Rattle.refusals.proofs.Laws.{ok_shows, err_faults}
use Rattle.dimacs.specs.declared.Formula.{Formula}
use Rattle.dimacs.specs.Outcome.{summary}

-- the formula that is told, field by field
pub record FormulaIs (o : Checked Input) (f : Formula) : Type 0 where
  pub input : Input
  pub is : o ≡ value input
  pub variables : f.variables ≡ input.variables
  pub clauses : f.clauses ≡ input.clauses
  pub literals : f.literals ≡ literals_of input.formula
  pub filled : f.filled ≡ numbers_of input.formula

module _ (o : Checked Input) {r : Result Formula Refusal} where
  pub formula_told : {f : Formula} → r ≡ Ok f → outcome r ≡ showing summary o → FormulaIs o f
  formula_told e h =
      let s = ok_shows summary o e h in record {
        input = s.it;
        is = s.is;
        variables = ap (λ (f : Formula). f.variables) s.shows;
        clauses = ap (λ (f : Formula). f.clauses) s.shows;
        literals = ap (λ (f : Formula). f.literals) s.shows;
        filled = ap (λ (f : Formula). f.filled) s.shows;
      }

  pub formula_refused : {e : Refusal} → r ≡ Err e → outcome r ≡ showing summary o → o ≡ fault (number e)
  formula_refused = err_faults summary o
