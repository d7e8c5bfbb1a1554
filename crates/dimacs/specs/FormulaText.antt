-- The new formula's text in parts.
use Rattle.std.specs.Prelude.{◌≡◌, refl, ◌++◌, ℕ}
use Rattle.definition.specs.Text.{Bytes, bytes, digits}
use Rattle.definition.specs.Text as Text

-- the header line of a formula
unfoldable pub header_text : ℕ → ℕ → Bytes
header_text h m = bytes "p cnf " ++ digits h ++ bytes " " ++ digits m ++ bytes "\n"

example : header_text 10 8 ≡ bytes "p cnf 10 8\n"
unfolding header_text Text.computing
example = refl
