-- Demand 2's second half, and what the workspace holds: the two texts, read back, say what was written, and what stands fits.
use Rattle.std.specs.Prelude.{◌≡◌, ℕ, ◌≤◌, length, take}
use Rattle.definition.specs.Checked.{value}
use Rattle.definition.specs.Reading.{Input, as_read, read_back_limits, read_formula}
use Rattle.definition.specs.Text.{Bytes}
use Rattle.definition.specs.Log.{log_text, formula_text}
use Rattle.definition.specs.LogReading.{read_log}
use Rattle.definition.specs.Reencoding.{Settings, log, result, highest_used}
use Rattle.definition.specs.Calls.{read_input, workspace_need}
use Rattle.theory_base.specs.Cells.{cells_of}
use Rattle.theorems.specs.Demand3.{standing}

pub record Texts (s : Settings) (i : Input) : Type 0 where
  -- where 16 does not refuse the run, so that its texts are written,
  -- the new formula's text, read under the read-back limits, gives H and the standing clauses in order
  pub formula_read : highest_used s i ≤ 70_000 → read_formula read_back_limits (formula_text (highest_used s i) (result s i)) ≡ value (as_read (highest_used s i) (length (result s i)) (result s i))
  -- the log's text, read with j lines kept, gives these lines
  pub log_read : highest_used s i ≤ 70_000 → (j : ℕ) → j ≤ length (log s i) → read_log j (log_text (log s i)) ≡ value (take j (log s i))
  -- at every line, what stands fits the workspace with its index: an element for each clause and three for each literal
  pub room : (j : ℕ) → cells_of (standing s i j) ≤ workspace_need i

-- the theorem, proved as `texts` in proofs/Texts
unfoldable pub TextsHold : Type 0
TextsHold = (t : Bytes) (i : Input) → read_input t ≡ value i → (s : Settings) → Texts s i
