-- The table of a formula: in how many clauses each literal stands. And the definition's tests by such a table.
use Rattle.std.specs.Prelude.{◌≡◌, Bool, not, ◌&&◌, List, ℕ, ◌≤◌, eqb, ltb, ℤ, nat_abs, length}
use Rattle.definition.specs.Lists.{all}
use Rattle.definition.specs.Literals.{Clause, Formula}
use Rattle.definition.specs.Clearing.{times, choice_size}
use Rattle.literals.specs.Literal.{negation}
use Rattle.tables.specs.Entries.{entry_of}

-- t is the table of F for the variables up to h
abbrev pub Counts : ℕ → List ℕ → Formula → Type 0
Counts h t F = (l : ℤ) → nat_abs l ≤ h → entry_of t l ≡ times l F

-- l stands in one clause
abbrev pub once_in : List ℕ → ℤ → Bool
once_in t l = eqb (entry_of t l) 1

-- l's negation stands nowhere
abbrev pub pure_in : List ℕ → ℤ → Bool
pure_in t l = eqb (entry_of t (negation l)) 0

-- c is a unique literal clause
abbrev pub unique_by : List ℕ → Clause → Bool
unique_by t c = ltb 0 (length c) && all (once_in t) c

-- c is a choice
abbrev pub choice_by : List ℕ → Clause → Bool
choice_by t c = choice_size c && unique_by t c

-- c is deleted if it has a pure literal
abbrev pub deletable_by : List ℕ → Clause → Bool
deletable_by t c = unique_by t c && not (choice_size c)
