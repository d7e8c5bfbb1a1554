-- Both texts, read back, say what was written, and what stands fits the workspace.
use native.Mathlib.Omega.{arith}
use Prim.Native.Nat.{◌≤◌}
use lib.ListN.{length}
use Rattle.definition.specs.Literals.{literals_of}
use Rattle.definition.specs.Reading.{input_limits, read_back_limits}
use Rattle.definition.specs.Reencoding.{log, result, highest_used}
use Rattle.theory_text.proofs.Accepted.{input_accepted}
use Rattle.theory_text.specs.Accepted.{Accepted}
use Rattle.theory_text.proofs.FormulaText.{formula_read_back}
use Rattle.theory_text.proofs.LogText as LogText
use Rattle.theory_room.proofs.Runs.{Run, log_proper}
use Rattle.theory_run.proofs.Room.{room}
use Rattle.theory_room.proofs.Limits.{result_proper, result_fits, log_line_limit, clauses_limit, literals_limit}
use Rattle.theorems.specs.Demand3.{standing}
use Rattle.theorems.specs.Texts.{TextsHold}
use Rattle.theory_run.proofs.LogSound.{accepted_run}

pub texts : TextsHold
unfolding TextsHold standing input_limits read_back_limits
texts t i e s = record {
  formula_read = λ h. formula_read_back read_back_limits (highest_used s i) (result s i) h (clauses_limit s i run v c l) (literals_limit s i run v c l) (result_fits s i run) (result_proper s i run);
  log_read = λ h j b. LogText.log_read (log s i) j b (λ x m. (log_proper s i run x m, log_line_limit s i run 70_000 h x m));
  room = room i a s;
}
  where
    a : Accepted input_limits i
    a = input_accepted t i e

    run : Run s i
    run = accepted_run s i a

    v : i.highest ≤ 8_000
    v = a.highest_few

    c : length i.formula ≤ 20_000
    c = omega (arith, a.formula_few, a.clauses_few)

    l : literals_of i.formula ≤ 60_000
    l = a.literals_few
