-- Texts without some bytes.
use Rattle.std.specs.Prelude.{◌≡◌, Bool, false, [], ◌∷◌, ℕ}
use Rattle.definition.specs.Text.{Bytes}

-- no byte passes the test
abbrev pub Free : (ℕ → Bool) → Bytes → Type 0
Free p [] = Unit {0}
Free p (b ∷ t) = (p b ≡ false) × Free p t
