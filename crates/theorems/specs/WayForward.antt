-- M-121, in bytes: a plan for the formula handed in, carried forward over any number of lines of our own log, is refused neither by a line nor by what stands, its line
-- satisfies what stands there, and that line walked back over the same lines is a plan for the formula again.
use Rattle.std.specs.Prelude.{◌≡◌, List, [], ◌∷◌, ◌++◌, ℕ, ◌≤◌, T, length, take}
use Rattle.definition.specs.Checked.{value}
use Rattle.definition.specs.Literals.{Clause}
use Rattle.definition.specs.Reading.{Input}
use Rattle.definition.specs.Text.{Bytes, bytes}
use Rattle.definition.specs.Assignments.{Assignment, satisfies, carried_back, carried_forward}
use Rattle.definition.specs.Log.{log_text}
use Rattle.definition.specs.Answer.{read_answer}
use Rattle.definition.specs.Reencoding.{Settings, log, highest_used}
use Rattle.definition.specs.Calls.{read_input, assigned, answer_text, highest_allowed, log_workspace_need, carry_forward}
use Rattle.theorems.specs.Demand3.{standing}
use Rattle.theorems.specs.Refusals.{Listed, answer_numbers}
use Rattle.theorems.specs.WayBack.{Walked}

-- a formula that is accepted, with j lines kept of the log that reencoding writes for it: H does not pass 70,000, where 16 refuses
pub record Own (s : Settings) (t : Bytes) (i : Input) (j : ℕ) : Type 0 where
  pub accepted : read_input t ≡ value i
  pub kept : j ≤ length (log s i)
  pub low : highest_used s i ≤ 70_000

-- what can still be refused: the plan by itself, the room, and a plan that fails the formula
unfoldable pub own_numbers : List ℕ
own_numbers = answer_numbers ++ (11 ∷ 45 ∷ 14 ∷ [])

-- a plan u for the formula, and room
pub record Plan (s : Settings) (i : Input) (workspace room j : ℕ) (u : Bytes) (named : Clause) : Type 0 where
  -- the plan is in the layout, and satisfies the formula
  pub planned : read_answer i.variables u ≡ value named
  pub satisfied : T (satisfies (assigned named) i.formula)
  -- there is room
  pub workspace_enough : log_workspace_need i (take j (log s i)) (highest_allowed i (take j (log s i))) ≤ workspace
  pub room_enough : length (answer_text (highest_allowed i (take j (log s i))) (carried_forward (assigned named) (take j (log s i)))) ≤ room

pub record Carried (s : Settings) (t : Bytes) (i : Input) (workspace room j : ℕ) (u : Bytes) : Type 0 where
  -- the call gives a line,
  pub line : Bytes
  pub given : carry_forward workspace room j t (log_text (log s i)) u ≡ value line
  -- which, read as an answer, names literals
  pub plan : Clause
  pub readable : read_answer (highest_allowed i (take j (log s i))) (bytes "s SATISFIABLE\n" ++ line) ≡ value plan
  -- that satisfy the clauses standing there;
  pub satisfying : T (satisfies (assigned plan) (standing s i j))
  -- there and back: walked back over the same lines, with room for what comes, it is a plan for the formula again
  pub back : (back_room : ℕ) → length (answer_text i.variables (carried_back (assigned plan) (take j (log s i)))) ≤ back_room → Walked s t i workspace back_room j (bytes "s SATISFIABLE\n" ++ line)

pub record WayForward (s : Settings) (t : Bytes) (i : Input) (j : ℕ) : Type 0 where
  -- every assignment that satisfies the formula, carried forward over the kept lines, satisfies the clauses standing there
  pub forward : (a : Assignment) → T (satisfies a i.formula) → T (satisfies (carried_forward a (take j (log s i))) (standing s i j))
  -- never 32, never 46, whatever the plan and the room
  pub never : (workspace room : ℕ) (u : Bytes) → Listed own_numbers (carry_forward workspace room j t (log_text (log s i)) u)
  pub carried : (workspace room : ℕ) (u : Bytes) (named : Clause) → Plan s i workspace room j u named → Carried s t i workspace room j u

-- the theorem, proved as `way_forward` in proofs/WayForward
unfoldable pub WayForwardHolds : Type 0
WayForwardHolds = (s : Settings) (t : Bytes) (i : Input) (j : ℕ) → Own s t i j → WayForward s t i j
