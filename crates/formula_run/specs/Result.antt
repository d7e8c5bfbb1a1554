-- From a run to the answer, whatever the sizes of the buffers.
use Rattle.std.specs.Prelude.{Result, ◌≡◌, true, List, ℕ, ◌*◌, ◌≤◌, ◌<◌, ◌^◌, ℤ, length, take}
use Rattle.std.proofs.lemmas.List.Edits.{sets}
use Rattle.definition.specs.Checked.{Checked, value}
use Rattle.definition.specs.Text.{Bytes}
use Rattle.definition.specs.Log.{formula_text}
use Rattle.definition.specs.Calls.{Reencoded, step_allowed}
use Rattle.records.specs.declared.ChoiceRecord.{ChoiceRecord}
use Rattle.records.specs.Rows.{rows_of}
use Rattle.text.specs.Output.{Put}
use Rattle.store.specs.Store.{Formed}
use Rattle.progress.specs.Progress.{standing}
use Rattle.run.specs.declared.Reached.{Reached}
use Rattle.formula_run.specs.declared.Tally as CodeTally
use Rattle.refusals.specs.declared.Refusal.{Refusal}
use Rattle.refusals.specs.Outcomes.{outcome, showing}
use Rattle.formula_run.specs.Outcome.{result_of}

-- a store that a run has left
pub record Left (work : List ℤ) (r : Reached) : Type 0 where
  pub small : length work < 2 ^ 31
  pub inside : r.progress.end ≤ length work
  pub formed : Formed (take r.progress.end work)

-- the result by how far the run came, and what is written
abbrev pub tally_by : Reached → ℕ → ℕ → CodeTally.Tally
tally_by r clauses bytes = record {
  choices = r.choices;
  highest = r.highest;
  clauses = clauses;
  lines = r.progress.lines;
  log_bytes = r.progress.at;
  formula_bytes = bytes;
}

-- the formula that stands is written
pub record Finishes (work : List ℤ) (formula : Bytes) (r : Reached) (t : CodeTally.Tally) (new_formula : Bytes) : Type 0 where
  pub bytes : ℕ
  pub written : Put formula 0 (formula_text r.highest (standing work r.progress)) bytes new_formula
  pub tally : t ≡ tally_by r (length (standing work r.progress)) bytes

-- a step that is allowed
abbrev pub Stepped : ℕ → Type 0
Stepped g = step_allowed g ≡ true

-- both texts are written as far as they fit, and counted; so are the rows of the table, a record for each choice
pub record Written (r : Reencoded) (log formula : Bytes) (rows : List ChoiceRecord) (new_log new_formula : Bytes) (new_rows : List ChoiceRecord) : Type 0 where
  pub log_put : Put log 0 r.log r.tally.log_bytes new_log
  pub formula_put : Put formula 0 r.formula r.tally.formula_bytes new_formula
  pub rows_written : new_rows ≡ sets rows 0 (rows_of r.table)
  pub records_counted : length r.table ≡ r.tally.choices
  pub rows_fit : length r.table ≤ length rows

-- the answer is that of an outcome, and a result is as it is asked to be
pub record AnswersAs (Asked : Reencoded → Type 0) (o : Checked Reencoded) (a : Result CodeTally.Tally Refusal) : Type 0 where
  pub answer : outcome a ≡ showing result_of o
  pub written : (r : Reencoded) → o ≡ value r → Asked r

-- where it is a result, all is written
abbrev pub Answers : Checked Reencoded → Bytes → Bytes → List ChoiceRecord → Result CodeTally.Tally Refusal → Bytes → Bytes → List ChoiceRecord → Type 0
Answers o log formula rows a new_log new_formula new_rows = AnswersAs (λ r. Written r log formula rows new_log new_formula new_rows) o a
