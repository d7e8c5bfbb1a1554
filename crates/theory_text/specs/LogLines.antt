-- A log as it is read: the first line of a text, and what is left of a line after some of its literals.
use Rattle.std.specs.Prelude.{◌≡◌, refl, Bool, false, ◌&&◌, cond, List, [], ◌∷◌, ◌++◌, ℕ, ◌+◌, pos, negsuc, length}
use Rattle.std.proofs.Math.Option.{Option, some, none}
use Rattle.definition.specs.Lists as Lists
use Rattle.definition.specs.Checked.{Checked, fault, value, ◌>>=◌}
use Rattle.definition.specs.Checked as Checked
use Rattle.definition.specs.Literals.{Clause}
use Rattle.definition.specs.Literals as Literals
use Rattle.definition.specs.Text.{Bytes, TextLine, bytes, is, text_lines, fields}
use Rattle.definition.specs.Text as Text
use Rattle.definition.specs.Standing.{Line, deletion}
use Rattle.definition.specs.LogReading.{read_line_clause, allowed_clause, read_line_fields}
use Rattle.definition.specs.LogReading as LogReading

-- the first line if an LF ends it, without the LF
abbrev pub first_ended : List TextLine → Option Bytes
first_ended [] = none
first_ended (l ∷ ls) = cond l.ended (some l.text) none

-- ---- the first line of a text: its bytes with the LF, and what it says

abbrev pub ended_line : Option Bytes → Checked (ℕ × Line)
ended_line none = fault 31
ended_line (some u) = read_line_fields (fields u) >>= λ s. value (length u + 1, s)

unfoldable pub first_read : Bytes → Checked (ℕ × Line)
first_read t = ended_line (first_ended (text_lines t))

-- a text begins with `d` and a blank
unfoldable pub begins_deletion : Bytes → Bool
begins_deletion [] = false
begins_deletion (b ∷ []) = false
begins_deletion (b ∷ c ∷ t) = is "d" b && is " " c

-- ---- the rest of a line whose literals c are read up to a place: the place past the line, and its clause

-- an allowed clause, and a place
abbrev pub allowed_at : ℕ → Option Clause → Checked (ℕ × Clause)
allowed_at next o = allowed_clause o >>= λ c. value (next, c)

abbrev pub after_literals : Clause → Option Clause → Option Clause
after_literals c none = none
after_literals c (some d) = some (c ++ d)

abbrev pub ended_rest : ℕ → Clause → Option Bytes → Checked (ℕ × Clause)
ended_rest at c none = fault 31
ended_rest at c (some u) = allowed_at (at + (length u + 1)) (after_literals c (read_line_clause (fields u)))

unfoldable pub rest_read : ℕ → Clause → Bytes → Checked (ℕ × Clause)
rest_read at c t = ended_rest at c (first_ended (text_lines t))

examples : (first_read (bytes "d -12 0\n1 0\n") ≡ value (8, deletion (negsuc 11 ∷ []))) × (first_read (bytes "1 0") ≡ fault 31) × (rest_read 2 (pos 1 ∷ []) (bytes "-12 0\n") ≡ value (8, pos 1 ∷ negsuc 11 ∷ [])) × (rest_read 2 (pos 1 ∷ []) (bytes "-1 0\n") ≡ fault 31)
unfolding first_read rest_read LogReading.computing Checked.computing Literals.computing Text.computing Lists.computing
examples = (refl, refl, refl, refl)
