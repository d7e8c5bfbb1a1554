-- What the call answers.
use Rattle.std.specs.Prelude.{List, ℕ, ℤ, length}
use Rattle.definition.specs.Checked.{Checked}
use Rattle.definition.specs.Text.{Bytes}
use Rattle.definition.specs.Calls.{walk_back}

-- the call's outcome, by what it is lent
abbrev pub outcome : List ℤ → Bytes → ℕ → Bytes → Bytes → Bytes → Checked Bytes
outcome work out kept formula log answer = walk_back (length work) (length out) kept formula log answer
