-- The first line of the rest of a text.
use Rattle.std.specs.Prelude.{◌≡◌, ◌∷◌, ℕ, suc, ◌≤◌, ◌<◌, length, get_or, drop}
use Prim.Native.Char.{code}
use Rattle.definition.specs.Text.{Bytes, is, TextLine, text_lines, without_last_cr, line_text}
use Rattle.theory_base.specs.Slices.{between}
use Rattle.theory_text.specs.Words.{Free}

-- the first LF at a place or after it, or the text's end
pub record LineEnd (t : Bytes) (at end : ℕ) : Type 0 where
  pub after : at ≤ end
  pub within : end ≤ length t
  pub no_newline : Free (is "\n") (between at end t)
  pub stops : end < length t → get_or t end 0 ≡ code "\n"

-- the bytes up to end without a CR at their end
pub record Trimmed (t : Bytes) (start end trimmed : ℕ) : Type 0 where
  pub after : start ≤ trimmed
  pub before : trimmed ≤ end
  pub text : between start trimmed t ≡ without_last_cr (between start end t)

-- the rest of t from a place on begins with a line that the bytes from start to end are the text of, and next is past it
pub record FirstLine (t : Bytes) (at start end next : ℕ) : Type 0 where
  pub line : TextLine
  pub lines : text_lines (drop at t) ≡ line ∷ text_lines (drop next t)
  pub text : line_text line ≡ between start end t
  pub rest : drop (suc (length line.text)) (drop at t) ≡ drop next t
  pub ordered : start ≤ end
  pub before : end ≤ next
  pub forward : at < next
  pub within : next ≤ length t
