-- What the call answers: a refusal, or V, the clauses and the literals.
use Rattle.std.specs.Prelude.{Result, Ok, Err, ◌≡◌, List, ◌++◌, ℤ, length, drop}
use Rattle.definition.specs.Checked.{Checked, fault, value}
use Rattle.definition.specs.Literals.{literals_of}
use Rattle.definition.specs.Text.{Bytes}
use Rattle.definition.specs.Reading.{Input}
use Rattle.definition.specs.Calls.{read_back}
use Rattle.dimacs.specs.Entries.{entries_of}
use Rattle.refusals.specs.declared.Refusal.{Refusal}
use Rattle.refusals.specs.Numbers.{number}
use Rattle.call_read_back.specs.declared.ReadBack.{ReadBack}

-- the call's outcome, by the store and the text that it is lent
abbrev pub outcome : List ℤ → Bytes → Checked Input
outcome store t = read_back (length store) t

-- what is told of the formula read back
abbrev pub told_of : Input → ReadBack
told_of i = record { variables = i.variables; clauses = length i.formula; literals = literals_of i.formula }

-- a refusal, or the formula, whose clauses fill the store from its start
abbrev pub Reads : Checked Input → List ℤ → Result ReadBack Refusal → List ℤ → Type 0
Reads o old (Err e) new = o ≡ fault (number e)
Reads o old (Ok r) new = (i : Input) × (o ≡ value i) × (r ≡ told_of i) × (new ≡ entries_of i ++ drop (length (entries_of i)) old)
