-- The pass over the clauses before the counter clauses.
use Rattle.std.specs.Prelude.{◌≡◌, not, List, [], ◌∷◌, ◌++◌, ℕ, ◌+◌, ◌<◌, ℤ, length, take}
use Rattle.definition.specs.Lists.{only_if}
use Rattle.definition.specs.Literals.{Clause, Formula, opposed, literals_of}
use Rattle.definition.specs.Text.{Bytes}
use Rattle.definition.specs.Events.{Choice, choice_of}
use Rattle.definition.specs.Order.{replaced, replacement_lines}
use Rattle.definition.specs.Calls.{numbers_of}
use Rattle.theory_base.specs.Clauses.{Proper, FitAll}
use Rattle.theory_base.specs.Cells.{cells_of}
use Rattle.theory_counter.specs.Ready.{WellFormed}
use Rattle.tables.specs.Places.{Places, Small}
use Rattle.replacement.specs.declared.Placed.{Placed}
use Rattle.store.specs.Store.{Formed, stored, clause_at, marked, Place}
use Rattle.index.specs.Index.{nodes, Indexed, Roomy}
use Rattle.progress.specs.declared.Progress.{Progress}
use Rattle.progress.specs.Progress.{Written, LogRoom}
use Rattle.progress.specs.Growth.{entries}

-- the result of a clause, unless it holds a literal and its negation
abbrev pub result_of : Choice → Clause → Formula
result_of k d = only_if (not (opposed (replaced k d))) (replaced k d ∷ [])

-- a choice, and the table of its places
pub record Tabled (t : List ℕ) (l : Clause) (below : ℕ) : Type 0 where
  pub places : Places t l
  pub small : Small l below
  pub well_formed : WellFormed (choice_of l below)

abbrev pub TabledIn : Placed → Type 0
TabledIn c = Tabled c.places.now c.literals.now c.below

-- what replacing d needs
pub record Replaceable (k : Choice) (d : Clause) (work : List ℤ) (newest : List ℕ) (p : Progress) : Type 0 where
  pub proper : Proper d
  pub fit : FitAll k.below d
  pub space : Roomy (cells_of (result_of k d)) work p.end newest
  pub room : LogRoom (replacement_lines d (replaced k d)) p

-- what a step needs
pub record StepReady (t : List ℕ) (l : Clause) (below : ℕ) (work : List ℤ) (newest : List ℕ) (at : ℕ) (p : Progress) : Type 0 where
  pub table : Tabled t l below
  pub indexed : Indexed work p.end newest
  pub place : Place (take p.end work) at
  pub inside : at < p.end
  pub replaceable : Replaceable (choice_of l below) (clause_at work at) work newest p

-- the clause c at a place is deleted, and its result added
pub record ReplacedAt (k : Choice) (c : Clause) (work : List ℤ) (newest : List ℕ) (at : ℕ) (log : Bytes) (p : Progress) (new : List ℤ) (new_newest : List ℕ) (new_log : Bytes) (q : Progress) : Type 0 where
  pub size : length new ≡ length work
  pub next : q.end ≡ p.end + numbers_of (result_of k c)
  pub filled : take q.end new ≡ marked (take p.end work) at ++ entries (result_of k c)
  pub formed : Formed (entries (result_of k c))
  pub stands : stored (entries (result_of k c)) ≡ result_of k c
  pub written : Written (replacement_lines c (replaced k c)) log p new_log q
  pub indexed : Indexed new q.end new_newest
  pub nodes_are : nodes new_newest ≡ nodes newest + literals_of (result_of k c)
