-- What the call answers: the definition's outcome. The values of its result are `formula_run`'s `result_of`, the numbers `refusals`'.
use Rattle.std.specs.Prelude.{List, map, ℕ, ℤ, length}
use Rattle.definition.specs.Checked.{Checked}
use Rattle.definition.specs.Text.{Bytes}
use Rattle.definition.specs.Calls.{Reencoded, reencode}
use Rattle.records.specs.declared.ChoiceRecord.{ChoiceRecord}
use Rattle.records.specs.Rows.{shown_record}
use Rattle.run.specs.declared.Settings.{Settings}
use Rattle.run.specs.Settings.{settings_of}

-- the outcome of a call: settings, text, workspace, both buffers and the number of the table's records
abbrev pub outcome : Settings → Bytes → List ℤ → Bytes → Bytes → ℕ → Checked Reencoded
outcome s text work log formula room = reencode (settings_of s) (length work) (length log) (length formula) room text

-- the records that are written
abbrev pub shown_table : Reencoded → List ChoiceRecord
shown_table r = map shown_record r.table
