-- M-112: a unique literal clause of 5 to 64 literals that stands when no clash is left is not deleted for a pure literal, and is taken as a choice.
use mathlib.Core.List.{Memᴰ}
use Rattle.std.specs.Prelude.{T}
use Rattle.definition.specs.Literals.{Clause}
use Rattle.definition.specs.Reading.{Input}
use Rattle.definition.specs.Events.{Choice}
use Rattle.definition.specs.Clearing.{unique, choice_size}
use Rattle.definition.specs.Reencoding.{Settings, unclashed, cleared, events, GoesInto}

pub record Taken (s : Settings) (i : Input) (c : Clause) : Type 0 where
  -- it is not deleted for a pure literal
  pub stays : Memᴰ c (cleared i.formula)
  -- and goes into a choice, so that the exactly-one half of demand 3 speaks of it
  pub choice : Choice
  pub goes : GoesInto choice (events s i) c

-- the theorem, proved as `choices_taken` in proofs/Choices: of every input, whatever literals of the clause are pure
unfoldable pub ChoicesTaken : Type 0
ChoicesTaken = (s : Settings) (i : Input) (c : Clause) → Memᴰ c (unclashed i.formula) → T (unique (unclashed i.formula) c) → T (choice_size c) → Taken s i c
