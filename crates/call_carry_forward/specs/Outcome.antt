-- What the call answers.
use Rattle.std.specs.Prelude.{not, List, ℕ, ℤ, length}
use Rattle.definition.specs.Checked.{Checked, refuse_if}
use Rattle.definition.specs.Literals.{Formula}
use Rattle.definition.specs.Text.{Bytes}
use Rattle.definition.specs.Standing.{Line}
use Rattle.definition.specs.Assignments.{Assignment, satisfies}
use Rattle.definition.specs.Calls.{carry_forward}
use Rattle.carry.specs.declared.Direction.TheVariants.{Forward}
use Rattle.carry.specs.Carried.{replayed_text}

-- the call's outcome, by what it is lent
abbrev pub outcome : List ℤ → Bytes → ℕ → Bytes → Bytes → Bytes → Checked Bytes
outcome work out kept formula log plan = carry_forward (length work) (length out) kept formula log plan

-- the plan is tested against the formula, then carried forward: 45, 32, 46, 14
unfoldable pub plan_text : ℕ → ℕ → Formula → List Line → Assignment → Checked Bytes
plan_text room x f ss a = refuse_if (not (satisfies a f)) 45 (replayed_text Forward room x f ss a)
