-- The header line in parts.
use Rattle.std.specs.Prelude.{◌≡◌, refl, ◌||◌, [], ◌∷◌, ℕ, ltb}
use Rattle.std.proofs.Math.Option.{Option, some, none}
use Rattle.definition.specs.Checked.{Checked, fault, value, refuse_if}
use Rattle.definition.specs.Text.{Bytes, bytes, words}
use Rattle.definition.specs.Reading.{Limits, Header}

-- `p cnf `
abbrev pub marker : Bytes
marker = 112 ∷ 32 ∷ 99 ∷ 110 ∷ 102 ∷ 32 ∷ []

-- V and C, where they are numbers
abbrev pub read_counts : Limits → Option ℕ → Option ℕ → Bytes → Checked Header
read_counts most none c after = fault 1
read_counts most (some v) none after = fault 1
read_counts most (some v) (some c) after = refuse_if (ltb most.variables v || ltb most.clauses c) 2 (value (record { variables = v; clauses = c; after = words after }))

example : marker ≡ bytes "p cnf "
unfolding bytes
example = refl
