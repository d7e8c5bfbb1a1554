-- A clause's text in parts.
use Rattle.std.specs.Prelude.{◌++◌}
use Rattle.definition.specs.Lists.{for_each}
use Rattle.definition.specs.Literals.{Clause}
use Rattle.definition.specs.Text.{Bytes, bytes, literal_text}

-- the literals, a blank after each; a clause's line without its LF
unfoldable pub literals_text : Clause → Bytes
literals_text c = for_each c (λ l. literal_text l ++ bytes " ")

unfoldable pub clause_line : Clause → Bytes
clause_line c = literals_text c ++ bytes "0"
