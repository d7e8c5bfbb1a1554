-- The records of choices one after another.
use Rattle.std.specs.Prelude.{List, [], ◌∷◌, ℕ, ◌+◌, length}
use Rattle.definition.specs.Literals.{Clause}
use Rattle.definition.specs.Events.{TableRecord}
use Rattle.definition.specs.Counter.{last_new}
use Rattle.theory_room.specs.Choices.{as_choice}

-- with the step g, literals in the order in which they are taken, where n is the highest variable used; `count` gives the input clauses
unfoldable pub taken_records : ℕ → (Clause → Clause) → (Clause → ℕ) → ℕ → List Clause → List TableRecord
taken_records g order count n [] = []
taken_records g order count n (c ∷ cs) =
    let k = as_choice g n order c in
    record { first = k.below + 1; length = length k.literals; clauses = count c } ∷ taken_records g order count (last_new k) cs
