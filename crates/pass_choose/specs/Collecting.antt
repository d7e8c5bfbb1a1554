-- Collecting the choices of a store.
use Rattle.std.specs.Prelude.{◌≡◌, cond, List, [], ◌∷◌, ◌++◌, ℕ, ◌+◌, ◌≤◌, ℤ, length, take}
use Rattle.definition.specs.Literals.{Clause}
use Rattle.definition.specs.Calls.{numbers_of}
use Rattle.store.specs.Store.{Formed, stored}
use Rattle.tables.specs.Counts.{choice_by}

-- ---- one clause

-- the clause, if it is a choice
abbrev pub if_choice : List ℕ → Clause → List Clause
if_choice t c = cond (choice_by t c) (c ∷ []) []

-- the clauses cs stand behind what was filled up to `end`
pub record Joined (cs : List Clause) (old : List ℤ) (end r : ℕ) (new : List ℤ) : Type 0 where
  pub next : r ≡ end + numbers_of cs
  pub inside : r ≤ length new
  pub formed : Formed (take end old) → Formed (take r new)
  pub stands : Formed (take end old) → stored (take r new) ≡ stored (take end old) ++ cs

-- ---- the whole store

-- the clauses cs fill the first r elements
pub record Collected (cs : List Clause) (size r : ℕ) (chosen : List ℤ) : Type 0 where
  pub same_size : length chosen ≡ size
  pub inside : r ≤ length chosen
  pub formed : Formed (take r chosen)
  pub stands : stored (take r chosen) ≡ cs
