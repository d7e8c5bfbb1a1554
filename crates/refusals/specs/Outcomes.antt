-- What a call's result says of the definition's outcome: the same number, or what is shown of the value.
use Rattle.std.specs.Prelude.{Result, Ok, Err}
use Rattle.definition.specs.Checked.{Checked, fault, value}
use Rattle.refusals.specs.declared.Refusal.{Refusal}
use Rattle.refusals.specs.Numbers.{number}

-- the outcome of a result
abbrev pub outcome : {A : Type 0} → Result A Refusal → Checked A
outcome (Ok a) = value a
outcome (Err e) = fault (number e)

-- an outcome of which f shows the value
abbrev pub showing : {A B : Type 0} → (A → B) → Checked A → Checked B
showing f (fault n) = fault n
showing f (value a) = value (f a)
