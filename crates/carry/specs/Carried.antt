-- What testing an assignment and carrying it over lines answer, beside the definition's outcome; and what they ask of a workspace.
use Rattle.std.specs.Prelude.{◌≡◌, Bool, not, ◌||◌, List, ℕ, ◌≤◌, ◌<◌, ◌^◌, ℤ, length, Result, Ok, Err}
use Rattle.definition.specs.Checked.{Checked, fault, value, ◌>>=◌, refuse_if}
use Rattle.definition.specs.Literals.{Formula}
use Rattle.definition.specs.Text.{Bytes}
use Rattle.definition.specs.Standing.{Line, highest_in, replay}
use Rattle.definition.specs.Assignments.{Assignment, has_true, satisfies, carried_back, carried_forward}
use Rattle.definition.specs.Calls.{fitting_line}
use Rattle.theory_base.specs.Slices.{between}
use Rattle.store.specs.Store.{deleted_at, clause_at}
use Rattle.text.specs.Output.{Put}
use Rattle.drat.specs.Loaded.{lines_in}
use Rattle.replay.specs.Replayed.{Replayable}
use Rattle.refusals.specs.declared.Refusal.{Refusal}
use Rattle.refusals.specs.Numbers.{number}
use Rattle.carry.specs.declared.Direction.{Direction}
use Rattle.carry.specs.declared.Direction.TheVariants.{Back, Forward}

-- the clause at a place of a store is deleted or has a true literal
abbrev pub holds_at : Assignment → List ℤ → ℕ → Bool
holds_at a s at = deleted_at s at || has_true a (clause_at s at)

-- ---- the outcome, from its last part to the whole

-- an assignment is tested against a formula, where it may fail under a number, and its line for the variables 1 to v must fit: the number, 14
unfoldable pub tested_text : ℕ → ℕ → ℕ → Formula → Assignment → Checked Bytes
tested_text number room v f a = refuse_if (not (satisfies a f)) number (fitting_line room v a)

-- an answer is tested against what stands, then carried back over the lines: 44, 33, 14
unfoldable pub carried_answer : ℕ → ℕ → Formula → List Line → Formula → Assignment → Checked Bytes
carried_answer room v f ss standing a =
    refuse_if (not (satisfies a standing)) 44 (tested_text 33 room v f (carried_back a ss))

-- a plan is carried forward over the lines, then tested against what stands: 46, 14
unfoldable pub carried_plan : ℕ → ℕ → List Line → Formula → Assignment → Checked Bytes
carried_plan room x ss standing a = tested_text 46 room x standing (carried_forward a ss)

-- forward or back
abbrev pub carried_over : Direction → ℕ → ℕ → Formula → List Line → Formula → Assignment → Checked Bytes
carried_over Forward room v f ss standing a = carried_plan room v ss standing a
carried_over Back room v f ss standing a = carried_answer room v f ss standing a

-- the lines are replayed over the formula before that: 32
unfoldable pub replayed_text : Direction → ℕ → ℕ → Formula → List Line → Assignment → Checked Bytes
replayed_text direction room v f ss a = replay f ss >>= λ standing. carried_over direction room v f ss standing a

-- ---- what the code answers

-- the text written, which fits, or a fault, whose number f tells
abbrev pub CarriesBy : {E : Type 0} → (E → ℕ) → Checked Bytes → Bytes → Result ℕ E → Bytes → Type 0
CarriesBy f o old (Ok n) new = (t : Bytes) × (o ≡ value t) × Put old 0 t n new × (n ≤ length old)
CarriesBy f o old (Err e) new = o ≡ fault (f e)

-- the same of a refusal
abbrev pub Carries : Checked Bytes → Bytes → Result ℕ Refusal → Bytes → Type 0
Carries o old r new = CarriesBy number o old r new

-- ---- what is asked of a workspace

-- the formula lies before n, the lines at n..m, with room for a replay, and the table has every variable of the lines
pub record Carryable (work : List ℤ) (n m v : ℕ) (marks : Bytes) : Type 0 where
  pub replayable : Replayable work n m
  pub few : v < 2 ^ 31
  pub named : highest_in (lines_in (between n m work)) < length marks
