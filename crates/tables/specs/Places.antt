-- The table of a choice: the place of each literal there, from 1 on; 0 for a literal that it does not hold.
use Rattle.std.specs.Prelude.{◌≡◌, List, [], ◌∷◌, ℕ, ◌+◌, ◌≤◌, ℤ, neg_ℤ, length, set}
use Rattle.std.proofs.Math.Option.{Option, some, none}
use Rattle.definition.specs.Literals.{Clause}
use Rattle.definition.specs.Order.{place_from}
use Rattle.literals.specs.Literal.{index_of, negation}
use Rattle.theory_base.specs.Clauses.{FitAll}
use Rattle.tables.specs.Sizes.{input_reach, log_reach}
use Rattle.tables.specs.Entries.{entry_of}

-- the literals' places set, from i on
unfoldable pub with_numbers : List ℕ → ℕ → Clause → List ℕ
with_numbers t i [] = t
with_numbers t i (l ∷ c) = with_numbers (set t (index_of l) i) (i + 1) c

-- the place of m's negation
abbrev pub place_in : List ℕ → ℤ → ℕ
place_in t m = entry_of t (negation m)

abbrev pub number_of : Option ℕ → ℕ
number_of none = 0
number_of (some i) = i

-- t is the table of the literals l
pub record Places (t : List ℕ) (l : Clause) : Type 0 where
  pub told : (m : ℤ) → place_in t m ≡ number_of (place_from 1 (neg_ℤ m) l)

-- the literals l are few, and their variables and the new ones after `below` are within reach
pub record Small (l : Clause) (below : ℕ) : Type 0 where
  pub few : length l ≤ 64
  pub old : FitAll input_reach l
  pub new : below + length l ≤ log_reach + 1
