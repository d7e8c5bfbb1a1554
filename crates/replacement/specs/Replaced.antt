-- The result of a clause: its negated choice literals replaced, by the table of the choice's places.
use Rattle.std.specs.Prelude.{Bool, true, false, ◌&&◌, cond, List, [], ◌∷◌, ◌++◌, ℕ, ◌+◌, ◌-◌, ltb, ℤ, pos, neg_ℤ, get_or, set, replicate}
use Rattle.std.specs.List.{list_any}
use Rattle.definition.specs.Lists.{only_if}
use Rattle.definition.specs.Literals.{Clause}
use Rattle.definition.specs.Events.{Choice, choice_of}
use Rattle.tables.specs.Places.{place_in, Places, Small}
use Rattle.replacement.specs.declared.Placed.{Placed}

-- ---- whether the result holds a literal and its negation

-- marks at the places of the negated choice literals of a clause
unfoldable pub with_place_marks : List ℕ → List Bool → Clause → List Bool
with_place_marks t w [] = w
with_place_marks t w (m ∷ d) = with_place_marks t (set w (place_in t m) true) d

-- m is a negated choice literal, and the next place is marked
abbrev pub next_in : List ℕ → List Bool → ℤ → Bool
next_in t w m = ltb 0 (place_in t m) && get_or w (place_in t m + 1) false

abbrev pub opposed_by : List ℕ → Clause → Bool
opposed_by t d = list_any (next_in t (with_place_marks t (replicate 66 false) d)) d

-- ---- what stands for a literal whose negation has place p, in a choice of n literals
abbrev pub instead_by : ℕ → ℕ → ℤ → ℕ → Clause
instead_by n below m p =
    cond (ltb 0 p)
    (only_if (ltb 1 p) (pos (below + (p - 1)) ∷ []) ++ only_if (ltb p n) (neg_ℤ (pos (below + p)) ∷ []))
    (m ∷ [])

-- ---- a choice and the table of its places

abbrev pub choice_in : Placed → Choice
choice_in c = choice_of c.literals.now c.below

-- the table is the choice's, which is small
abbrev pub PlacedWell : Placed → Type 0
PlacedWell c = Places c.places.now c.literals.now × Small c.literals.now c.below
