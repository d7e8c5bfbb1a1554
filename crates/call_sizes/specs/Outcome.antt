-- What the call answers: the definition's outcome. The values of its result are `formula_run`'s `tally_of`, the numbers `refusals`'.
use Rattle.std.specs.Prelude.{List, ℤ, length}
use Rattle.definition.specs.Checked.{Checked}
use Rattle.definition.specs.Text.{Bytes}
use Rattle.definition.specs.Calls.{Tally, sizes}
use Rattle.run.specs.declared.Settings.{Settings}
use Rattle.run.specs.Settings.{settings_of}

-- the outcome of a call: settings, text and workspace
abbrev pub outcome : Settings → Bytes → List ℤ → Checked Tally
outcome s text work = sizes (settings_of s) (length work) text
