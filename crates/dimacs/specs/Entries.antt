-- The clauses of a formula in a store: each its length and its literals, one after the other.
use Rattle.std.specs.Prelude.{◌≡◌, refl, List, [], ◌∷◌, ℤ, pos, negsuc, length}
use Rattle.definition.specs.Lists as Lists
use Rattle.definition.specs.Lists.{for_each}
use Rattle.definition.specs.Literals.{Clause, Formula}
use Rattle.definition.specs.Reading.{Input}

abbrev pub entry : Clause → List ℤ
entry c = pos (length c) ∷ c

unfoldable pub entries : Formula → List ℤ
entries f = for_each f entry

abbrev pub entries_of : Input → List ℤ
entries_of i = entries i.formula

example : entries ((pos 1 ∷ negsuc 1 ∷ []) ∷ [] ∷ []) ≡ pos 2 ∷ pos 1 ∷ negsuc 1 ∷ pos 0 ∷ []
unfolding entries Lists.computing
example = refl
