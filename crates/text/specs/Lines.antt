-- What an answer says of the lines of the rest of a text.
use Rattle.std.specs.Prelude.{◌≡◌, refl, true, [], ℕ, drop, Option, Some, None}
use Rattle.std.proofs.Common.{arith}
use Rattle.definition.specs.Text.{Bytes, bytes, text_lines}
use Rattle.definition.specs.Text as Text
use Rattle.theory_text.specs.TextLines.{FirstLine}
use Rattle.text.specs.declared.Line.{Line}

abbrev pub LineSays : Bytes → ℕ → Option Line → Type 0
LineSays t at (Some l) = FirstLine t at l.start l.end l.next
LineSays t at None = text_lines (drop at t) ≡ []

example : LineSays (bytes "c\r\nv") 0 (Some (record { start = 0; end = 1; next = 3 }))
unfolding Text.computing
example = record {
  line = record { text = bytes "c\r"; ended = true };
  lines = refl;
  text = refl;
  rest = refl;
  ordered = omega arith;
  before = omega arith;
  forward = omega arith;
  within = omega arith;
}
