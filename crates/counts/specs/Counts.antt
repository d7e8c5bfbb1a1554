-- Counts written over what a tally held.
use Rattle.std.specs.Prelude.{List, [], ◌∷◌, ℕ}

-- as many of the counts as fit, then what lay past them
unfoldable pub overwritten : List ℕ → List ℕ → List ℕ
overwritten [] before = before
overwritten (n ∷ ns) [] = []
overwritten (n ∷ ns) (b ∷ bs) = n ∷ overwritten ns bs
