-- What is asked of a choice, and literals of other variables.
use Rattle.std.specs.Prelude.{◌≡◌, ◌≤◌, ℤ, neg_ℤ, nat_abs, length}
use mathlib.Core.List.{Memᴰ}
use Rattle.definition.specs.Literals.{Formula, Clause}
use Rattle.definition.specs.Events.{Choice}
use Rattle.definition.specs.Clearing.{times}
use Rattle.theory_base.specs.Clauses.{Same, Proper, FitAll}

-- a choice of two or more literals, all of its variables before the new ones
pub record WellFormed (k : Choice) : Type 0 where
  pub proper : Proper k.literals
  pub long : 2 ≤ length k.literals
  pub fit : FitAll k.below k.literals

-- the clause c can be taken as the choice k where F stands: it stands, its literals in some order are those of k, and each stands in c only
pub record Ready (F : Formula) (c : Clause) (k : Choice) : Type 0 where
  pub proper : Proper k.literals
  pub proper_clause : Proper c
  pub long : 2 ≤ length k.literals
  pub standing : Memᴰ c F
  pub same : Same k.literals c
  pub alone : (x : ℤ) → Memᴰ x k.literals → times x F ≡ 1

-- a literal of another variable than those of the choice, old and new
pub record Other (k : Choice) (x : ℤ) : Type 0 where
  pub small : nat_abs x ≤ k.below
  pub not_in : Memᴰ x k.literals → ⊥
  pub not_negated : Memᴰ (neg_ℤ x) k.literals → ⊥
