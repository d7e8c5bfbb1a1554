-- An assignment as a table of bytes with an entry for each variable: 0 not named, 1 named true, 2 named false.
use Rattle.std.specs.Prelude.{◌≡◌, refl, true, false, [], ◌∷◌, ℕ, ◌≤◌, eqb, ℤ, pos, negsuc, nat_abs, get_or, set}
use Rattle.definition.specs.Text.{Bytes}
use Rattle.definition.specs.Literals.{Clause, holds}
use Rattle.definition.specs.Assignments.{Assignment}

-- the entry that names a literal
abbrev pub entry_of : ℤ → ℕ
entry_of (pos n) = 1
entry_of (negsuc n) = 2

-- the literals named are those that the table names: v where entry v is 1, -v where it is 2; past its end no variable is named
pub record Table (named : Clause) (marks : Bytes) : Type 0 where
  pub names : (l : ℤ) → holds l named ≡ eqb (get_or marks (nat_abs l) 0) (entry_of l)
  pub at_most : (v : ℕ) → get_or marks v 0 ≤ 2

-- the assignment of a table: a variable not named is false
unfoldable pub marked : Bytes → Assignment
marked marks v = eqb (get_or marks v 0) 1

-- the table with a literal named
abbrev pub naming : ℤ → Bytes → Bytes
naming l marks = set marks (nat_abs l) (entry_of l)

examples : (marked (naming (negsuc 1) (naming (pos 3) (0 ∷ 0 ∷ 0 ∷ 0 ∷ []))) 3 ≡ true) × (marked (naming (negsuc 1) (0 ∷ 0 ∷ 1 ∷ [])) 2 ≡ false)
unfolding marked
examples = (refl, refl)
