-- One line, forward or back; and the last of loaded lines, from which they are walked back.
use Rattle.std.specs.Prelude.{◌≡◌, Bool, not, List, [], ◌∷◌, ◌++◌, ℕ, ℤ, take}
use Rattle.definition.specs.Standing.{Line}
use Rattle.definition.specs.Assignments.{Assignment, carried, forwarded}
use Rattle.carry.specs.declared.Direction.{Direction}
use Rattle.carry.specs.declared.Direction.TheVariants.{Back, Forward}
use Rattle.drat.specs.Loaded.{Loaded, lines_in, line_at, past_line}

-- whether a line is repaired, by whether it deletes its clause: forward an addition, back a deletion
abbrev pub repairs : Direction → Bool → Bool
repairs Forward d = not d
repairs Back d = d

-- an assignment carried over a line, forward or back
abbrev pub over : Direction → Assignment → Line → Assignment
over Forward = forwarded
over Back = carried

-- the last line before a place, and where it starts
pub record LastLine (s : List ℤ) (end start : ℕ) : Type 0 where
  pub ends : past_line s start ≡ end
  pub before : Loaded (take start s)
  pub lines : lines_in (take end s) ≡ lines_in (take start s) ++ (line_at s start ∷ [])
