-- The answer by the room for a result, and what is promised before the buffers are made zero.
use Rattle.std.specs.Prelude.{Result, Ok, Err, ◌≡◌, cond, List, ◌++◌, ℕ, ◌≤◌, ltb, length, drop}
use Rattle.std.proofs.lemmas.List.Edits.{sets}
use Rattle.definition.specs.Checked.{Checked}
use Rattle.definition.specs.Text.{Bytes}
use Rattle.definition.specs.Calls.{Reencoded}
use Rattle.records.specs.declared.ChoiceRecord.{ChoiceRecord}
use Rattle.records.specs.Rows.{rows_of}
use Rattle.formula_run.specs.declared.Tally.{Tally}
use Rattle.refusals.specs.declared.Refusal.{Refusal}
use Rattle.refusals.specs.declared.Refusal.TheVariants.{ShortLogBuffer, ShortFormulaBuffer, ShortTable}
use Rattle.formula_run.specs.Result.{AnswersAs}

-- the answer by the sizes of the table and the buffers and those of the result: 17, 12, 13
abbrev pub answer_by : ℕ → ℕ → ℕ → Tally → Result Tally Refusal
answer_by table_room log_room formula_room t =
    cond (ltb table_room t.choices) (Err ShortTable)
    (cond (ltb log_room t.log_bytes) (Err ShortLogBuffer)
    (cond (ltb formula_room t.formula_bytes) (Err ShortFormulaBuffer)
    (Ok t)))

-- both texts and the rows of the table are written; there is a record for each choice, and the table has room for them
pub record Written (r : Reencoded) (room : ℕ) (log formula : Bytes) (rows : List ChoiceRecord) (new_log new_formula : Bytes) (new_rows : List ChoiceRecord) : Type 0 where
  pub log_written : new_log ≡ r.log ++ drop (length r.log) log
  pub formula_written : new_formula ≡ r.formula ++ drop (length r.formula) formula
  pub rows_written : new_rows ≡ sets rows 0 (rows_of r.table)
  pub records_counted : length r.table ≡ r.tally.choices
  pub rows_fit : length r.table ≤ length rows
  pub records_fit : r.tally.choices ≤ room

-- the answer is that of an outcome, and where it is a result, all is written
abbrev pub Answers : Checked Reencoded → ℕ → Bytes → Bytes → List ChoiceRecord → Result Tally Refusal → Bytes → Bytes → List ChoiceRecord → Type 0
Answers o room log formula rows a new_log new_formula new_rows = AnswersAs (λ r. Written r room log formula rows new_log new_formula new_rows) o a
