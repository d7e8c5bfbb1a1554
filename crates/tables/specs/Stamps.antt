-- The literals of the clause or line being read, as marks in a table: each literal's entry holds the stamp of the clause or line in which it was last read.
use Rattle.std.specs.Prelude.{◌≡◌, true, false, List, [], ◌∷◌, ◌++◌, ℕ, ◌≤◌, ◌<◌, eqb, ℤ, neg_ℤ, nat_abs, get_or}
use Rattle.definition.specs.Literals.{Clause, holds}
use Rattle.tables.specs.Sizes.{log_reach}
use Rattle.tables.specs.Entries.{entry_of}
use Rattle.tables.specs.declared.Marked.{Marked}

-- no entry is above the stamp
abbrev pub AtMost : List ℕ → ℕ → Type 0
AtMost table stamp = (i : ℕ) → get_or table i 0 ≤ stamp

-- an entry is the stamp exactly if its literal is in here; none is above
pub record Marks (table : List ℕ) (stamp : ℕ) (here : Clause) : Type 0 where
  pub told : (l : ℤ) → nat_abs l ≤ log_reach → eqb (entry_of table l) stamp ≡ holds l here
  pub below : AtMost table stamp

-- all entries are below the stamp
pub record Fresh (table : List ℕ) (stamp : ℕ) : Type 0 where
  pub below : (i : ℕ) → get_or table i 0 < stamp

-- what an answer says of a literal after those in here, and of the table
abbrev pub MarkPost : Clause → ℤ → List ℕ → ℕ → Marked → Type 0
MarkPost here l table stamp Marked.Repeated = (holds l here ≡ true) × Marks table stamp here
MarkPost here l table stamp Marked.Opposed = (holds l here ≡ false) × (holds (neg_ℤ l) here ≡ true) × Marks table stamp here
MarkPost here l table stamp Marked.New = (holds l here ≡ false) × (holds (neg_ℤ l) here ≡ false) × Marks table stamp (here ++ (l ∷ []))
