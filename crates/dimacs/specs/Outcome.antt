-- What the whole reading gives: V, C, L and the elements that the clauses fill in a store; and the store then.
use Rattle.std.specs.Prelude.{◌≡◌, List, ℤ}
use Rattle.std.proofs.lemmas.List.Edits.{sets}
use Rattle.definition.specs.Checked.{Checked, value}
use Rattle.definition.specs.Literals.{literals_of}
use Rattle.definition.specs.Text.{Bytes, words}
use Rattle.definition.specs.Reading.{Header, Input}
use Rattle.definition.specs.Calls.{numbers_of}
use Rattle.dimacs.specs.Entries.{entries_of}
use Rattle.dimacs.specs.declared.Counts.{Counts}
use Rattle.dimacs.specs.declared.Formula.{Formula}

-- a header before a text
abbrev pub header_of : Counts → Bytes → Header
header_of c t = record { variables = c.variables; clauses = c.clauses; after = words t }

-- what is told of an accepted formula
abbrev pub summary : Input → Formula
summary i = record { variables = i.variables; clauses = i.clauses; literals = literals_of i.formula; filled = numbers_of i.formula }

-- the clauses of an accepted formula fill the store from its start, as far as it goes; what lies past them is as it was
abbrev pub Filled : Checked Input → List ℤ → List ℤ → Type 0
Filled o old new = (i : Input) → o ≡ value i → new ≡ sets old 0 (entries_of i)
