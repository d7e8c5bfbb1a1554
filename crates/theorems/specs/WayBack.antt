-- The loop closed, in bytes: a plan for the new formula, walked back over any number of lines of our own log, is never refused and is a plan for the formula handed in.
use Rattle.std.specs.Prelude.{◌≡◌, ◌++◌, ℕ, ◌≤◌, T, length, take}
use Rattle.definition.specs.Checked.{value}
use Rattle.definition.specs.Literals.{Clause}
use Rattle.definition.specs.Reading.{Input}
use Rattle.definition.specs.Text.{Bytes, bytes}
use Rattle.definition.specs.Assignments.{satisfies, carried_back}
use Rattle.definition.specs.Log.{log_text}
use Rattle.definition.specs.Answer.{read_answer}
use Rattle.definition.specs.Reencoding.{Settings, log, highest_used}
use Rattle.definition.specs.Calls.{read_input, assigned, answer_text, highest_allowed, log_workspace_need, walk_back}
use Rattle.theorems.specs.Demand3.{standing}

-- a call of walk-back on the log that reencoding writes for the formula, with j lines kept and an answer u
pub record Walk (s : Settings) (t : Bytes) (i : Input) (workspace room j : ℕ) (u : Bytes) (named : Clause) : Type 0 where
  -- the formula is accepted, and the log has that many lines
  pub accepted : read_input t ≡ value i
  pub kept : j ≤ length (log s i)
  -- it was written: H does not pass 70,000, where 16 refuses
  pub low : highest_used s i ≤ 70_000
  -- the answer is in the layout, and satisfies what stands
  pub answered : read_answer (highest_allowed i (take j (log s i))) u ≡ value named
  pub satisfied : T (satisfies (assigned named) (standing s i j))
  -- there is room
  pub workspace_enough : log_workspace_need i (take j (log s i)) (highest_allowed i (take j (log s i))) ≤ workspace
  pub room_enough : length (answer_text i.variables (carried_back (assigned named) (take j (log s i)))) ≤ room

pub record Walked (s : Settings) (t : Bytes) (i : Input) (workspace room j : ℕ) (u : Bytes) : Type 0 where
  -- the call gives a line,
  pub line : Bytes
  pub given : walk_back workspace room j t (log_text (log s i)) u ≡ value line
  -- which, read as an answer, names literals
  pub plan : Clause
  pub readable : read_answer i.variables (bytes "s SATISFIABLE\n" ++ line) ≡ value plan
  -- that satisfy the formula handed in
  pub satisfying : T (satisfies (assigned plan) i.formula)

-- the theorem, proved as `walked` in proofs/WayBack
unfoldable pub WayBackHolds : Type 0
WayBackHolds = (s : Settings) (t : Bytes) (i : Input) (workspace room j : ℕ) (u : Bytes) (named : Clause) → Walk s t i workspace room j u named → Walked s t i workspace room j u
