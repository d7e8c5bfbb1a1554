-- Marking the variables that clash, in one pass over the store. A table has an entry for each literal: not 0 if the literal stands in one of the unique literal clauses taken in. A variable is marked when the table has it with both signs.
use Rattle.std.specs.Prelude.{◌≡◌, Bool, true, false, not, cond, ◌&&◌, ◌||◌, List, [], ℕ, ◌≤◌, ltb, ℤ, pos, neg_ℤ, nat_abs}
use Rattle.definition.specs.Lists.{bit}
use Rattle.definition.specs.Literals.{Clause, Formula}
use Rattle.theory_clearing.specs.Clashing.{clashes, in_ulc, mentions}
use Rattle.literals.specs.Literal.{signed_of}
use Rattle.marks.specs.Marks.{marked}
use Rattle.tables.specs.Sizes.{input_reach}
use Rattle.tables.specs.Entries.{entry_of}
use Rattle.tables.specs.Counts.{unique_by}

-- the marks are exactly the variables that clash
abbrev pub MarksClashes : Formula → List ℕ → Type 0
MarksClashes F m = (v : ℕ) → marked m v ≡ clashes F v

-- ---- a clause taken in

-- the table has a variable and its negation
abbrev pub both : List ℕ → ℕ → Bool
both t v = ltb 0 (entry_of t (signed_of false v)) && ltb 0 (entry_of t (signed_of true v))

-- those variables of a clause that the table has with both signs are marked too
abbrev pub MarkedBoth : List ℕ → List ℕ → Clause → List ℕ → Type 0
MarkedBoth m t c new = (v : ℕ) → marked new v ≡ ((mentions c v && both t v) || marked m v)

-- the literals of a clause if it is a unique literal clause by the table of counts, else none
abbrev pub unique_part : List ℕ → Clause → Clause
unique_part counts c = cond (unique_by counts c) c []

-- table and marks where the clauses G of F are taken in
pub record TakenIn (F G : Formula) (t m : List ℕ) : Type 0 where
  pub table : (l : ℤ) → nat_abs l ≤ input_reach → entry_of t l ≡ bit (in_ulc F G l)
  pub marks : (v : ℕ) → marked m v ≡ (in_ulc F G (pos v) && in_ulc F G (neg_ℤ (pos v)))

-- ---- the marks of a clause's variables cleared
abbrev pub Unmarked : List ℕ → Clause → List ℕ → Type 0
Unmarked m c new = (v : ℕ) → marked new v ≡ (not (mentions c v) && marked m v)
