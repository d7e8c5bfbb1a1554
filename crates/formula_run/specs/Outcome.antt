-- What a run answers: the definition's outcome, and the values of its result.
use Rattle.std.specs.Prelude.{List, ℤ, length}
use Rattle.definition.specs.Checked.{Checked}
use Rattle.definition.specs.Text.{Bytes}
use Rattle.definition.specs.Calls.{Tally, Reencoded, run}
use Rattle.run.specs.declared.Settings.{Settings}
use Rattle.run.specs.Settings.{settings_of}
use Rattle.formula_run.specs.declared.Tally as CodeTally

-- the outcome of a run: settings, text and workspace
abbrev pub run_outcome : Settings → Bytes → List ℤ → Checked Reencoded
run_outcome s text work = run (settings_of s) (length work) text

-- the result carries choices, H, M, log lines and both byte lengths
abbrev pub tally_of : Tally → CodeTally.Tally
tally_of x = record {
  choices = x.choices;
  highest = x.highest;
  clauses = x.clauses;
  lines = x.lines;
  log_bytes = x.log_bytes;
  formula_bytes = x.formula_bytes;
}

-- of a run with its texts, the result alone
abbrev pub result_of : Reencoded → CodeTally.Tally
result_of r = tally_of r.tally
