-- Sets of literals, proper clauses, and the variables that clauses may have.
use Rattle.std.specs.Prelude.{◌≢◌, ℕ, ◌≤◌, ℤ, pos, neg_ℤ, nat_abs}
use mathlib.Core.List.{List, [], ◌∷◌, Memᴰ}
use Rattle.definition.specs.Literals.{Clause, Formula}

-- every literal of c is in d
abbrev pub Within : Clause → Clause → Type 0
Within c d = (l : ℤ) → Memᴰ l c → Memᴰ l d

-- two clauses with the same set of literals
abbrev pub Same : Clause → Clause → Type 0
Same c d = Within c d × Within d c

-- ---- a proper clause: no literal is 0, repeated or opposed
abbrev pub Proper : Clause → Type 0
Proper [] = Unit {0}
Proper (l ∷ c) = (l ≢ pos 0) × (Memᴰ l c → ⊥) × (Memᴰ (neg_ℤ l) c → ⊥) × Proper c

-- no variable in common
abbrev pub Disjoint : Clause → Clause → Type 0
Disjoint c d = (x : ℤ) → Memᴰ x c → (y : ℤ) → Memᴰ y d → nat_abs x ≢ nat_abs y

abbrev pub Parted : List Clause → Type 0
Parted [] = Unit {0}
Parted (c ∷ cs) = ((d : Clause) → Memᴰ d cs → Disjoint c d) × Parted cs

-- every clause of the formula is proper
abbrev pub ProperAll : Formula → Type 0
ProperAll f = (d : Clause) → Memᴰ d f → Proper d

-- a literal of 1 to h; a formula of such literals
abbrev pub Fit : ℕ → ℤ → Type 0
Fit h x = (x ≢ pos 0) × (nat_abs x ≤ h)

abbrev pub Fits : ℕ → Formula → Type 0
Fits h f = (d : Clause) → Memᴰ d f → (x : ℤ) → Memᴰ x d → Fit h x

-- no clause holds the literal
abbrev pub Absent : ℤ → Formula → Type 0
Absent l F = (d : Clause) → Memᴰ d F → Memᴰ l d → ⊥

-- every literal of a clause is one of 1 to h
abbrev pub FitAll : ℕ → Clause → Type 0
FitAll h c = (x : ℤ) → Memᴰ x c → Fit h x
