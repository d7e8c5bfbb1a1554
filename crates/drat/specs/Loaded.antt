-- The lines of a log in a lent slice: the entry of a line is its header, its literals and their number once more, so that the lines can be walked
-- from either end. The header n of n literals is an addition, -1 - n a deletion.
use Rattle.std.specs.Prelude.{◌≡◌, refl, Bool, true, false, List, [], ◌∷◌, ◌++◌, ℕ, zero, suc, ◌+◌, ℤ, pos, negsuc, length, take}
use Rattle.definition.specs.Lists.{for_each}
use Rattle.definition.specs.Literals.{Clause}
use Rattle.definition.specs.Standing.{Line, addition, deletion}
use Rattle.literals.specs.Literal.{negative, header_of, flip, header_literals}
use Rattle.store.specs.Store.{size_at, deleted_at, clause_at}
use Rattle.drat.specs.Lines.{line_of}

-- the header of a line, by whether it is a deletion, and its number of literals
abbrev pub line_header : Bool → ℕ → ℤ
line_header true n = flip (header_of n)
line_header false n = header_of n

-- literals and their number
abbrev pub closed : Clause → List ℤ
closed c = c ++ (header_of (length c) ∷ [])

abbrev pub line_entry : Line → List ℤ
line_entry (addition c) = line_header false (length c) ∷ closed c
line_entry (deletion c) = line_header true (length c) ∷ closed c

abbrev pub line_entries : List Line → List ℤ
line_entries ss = for_each ss line_entry

-- ---- the lines that a list holds

-- the lines fill the list, of which the first k elements belong to the line before
abbrev pub LoadedFrom : ℕ → List ℤ → Type 0
LoadedFrom zero [] = Unit {0}
LoadedFrom (suc k) [] = ⊥
LoadedFrom zero (h ∷ s) = (size_at s (header_literals h) ≡ header_literals h) × LoadedFrom (suc (header_literals h)) s
LoadedFrom (suc k) (x ∷ s) = LoadedFrom k s

-- the lines fill the list
abbrev pub Loaded : List ℤ → Type 0
Loaded s = LoadedFrom 0 s

-- the lines in order, where the first k elements belong to the line before
unfoldable pub lines_from : ℕ → List ℤ → List Line
lines_from k [] = []
lines_from zero (h ∷ s) = line_of (negative h) (take (header_literals h) s) ∷ lines_from (suc (header_literals h)) s
lines_from (suc k) (x ∷ s) = lines_from k s

-- the lines of a list
abbrev pub lines_in : List ℤ → List Line
lines_in s = lines_from 0 s

-- ---- the line at a place

abbrev pub line_at : List ℤ → ℕ → Line
line_at s at = line_of (deleted_at s at) (clause_at s at)

-- the place past it
abbrev pub past_line : List ℤ → ℕ → ℕ
past_line s at = at + (size_at s at + 2)

-- the addition of 1 -2 and the deletion of 3
sample : List ℤ
sample = pos 2 ∷ pos 1 ∷ negsuc 1 ∷ pos 2 ∷ negsuc 1 ∷ pos 3 ∷ pos 1 ∷ []

examples : (lines_in sample ≡ addition (pos 1 ∷ negsuc 1 ∷ []) ∷ deletion (pos 3 ∷ []) ∷ []) × Loaded sample × (sample ≡ line_entries (lines_in sample))
unfolding sample lines_from for_each
examples = (refl, (refl, (refl, tt)), refl)
