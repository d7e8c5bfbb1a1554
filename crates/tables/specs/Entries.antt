-- A table has an entry at each literal's index. Past its end it reads 0, and nothing is stored there.
use Rattle.std.specs.Prelude.{List, [], ◌∷◌, ℕ, ◌+◌, min, ℤ, get_or, set}
use Rattle.definition.specs.Literals.{Clause, Formula}
use Rattle.literals.specs.Literal.{index_of}

abbrev pub entry_of : List ℕ → ℤ → ℕ
entry_of t l = get_or t (index_of l) 0

-- the entry of each literal of a clause set to v
unfoldable pub with_entries : List ℕ → Clause → ℕ → List ℕ
with_entries t [] v = t
with_entries t (l ∷ c) v = with_entries (set t (index_of l) v) c v

-- ---- counting

-- the largest u32
abbrev pub most : ℕ
most = 4294967295

-- one more at an index, up to the largest u32
abbrev pub counted_at : List ℕ → ℕ → List ℕ
counted_at t i = set t i (min (get_or t i 0 + 1) most)

-- one more for each literal of a clause, of a formula
unfoldable pub tallied : List ℕ → Clause → List ℕ
tallied t [] = t
tallied t (l ∷ c) = tallied (counted_at t (index_of l)) c

unfoldable pub tallied_all : List ℕ → Formula → List ℕ
tallied_all t [] = t
tallied_all t (c ∷ f) = tallied_all (tallied t c) f
