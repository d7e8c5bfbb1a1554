-- Writing at a place that may lie past the buffer's end.
use Rattle.std.specs.Prelude.{◌≡◌, ℕ, ◌+◌, length}
use Rattle.std.proofs.lemmas.List.Edits.{sets}
use Rattle.definition.specs.Text.{Bytes}

-- bytes are written into old from at on, as far as there is room, which gives new; r is the place past them
pub record Put (old : Bytes) (at : ℕ) (bytes : Bytes) (r : ℕ) (new : Bytes) : Type 0 where
  pub next : r ≡ at + length bytes
  pub kept : new ≡ sets old at bytes
