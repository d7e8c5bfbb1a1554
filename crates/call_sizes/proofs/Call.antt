-- The answer of a run is that of its sizes.
use Rattle.std.proofs.Common.{Result, ◌≡◌, List, ℤ}
use Rattle.definition.specs.Checked.{Checked, fault, value, ◌>>=◌}
use Rattle.definition.specs.Text.{Bytes}
use Rattle.definition.specs.Calls.{Reencoded, sizes}
use Rattle.run.specs.declared.Settings as CodeSettings
use Rattle.refusals.specs.declared.Refusal.{Refusal}
use Rattle.refusals.specs.Outcomes.{outcome as outcome_said, showing}
use Rattle.formula_run.specs.declared.Tally as Code
use Rattle.formula_run.specs.Outcome.{run_outcome, tally_of, result_of}
use Rattle.call_sizes.specs.Outcome.{outcome}

result_alone : (o : Checked Reencoded) (a : Result Code.Tally Refusal) → outcome_said a ≡ showing result_of o → outcome_said a ≡ showing tally_of (o >>= λ r. value r.tally)
unfolding ◌>>=◌
result_alone (fault n) a e = e
result_alone (value r) a e = e

pub sizes_told : (s : CodeSettings.Settings) (t : Bytes) (work : List ℤ) (a : Result Code.Tally Refusal) → outcome_said a ≡ showing result_of (run_outcome s t work) → outcome_said a ≡ showing tally_of (outcome s t work)
unfolding sizes
sizes_told s t work a e = result_alone (run_outcome s t work) a e
