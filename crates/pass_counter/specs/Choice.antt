-- A choice that is taken out of a store.
use Rattle.std.specs.Prelude.{◌≡◌, List, [], ◌∷◌, ℕ, ◌+◌, ◌≤◌, ℤ, length, take, drop}
use Rattle.definition.specs.Literals.{Clause, literals_of}
use Rattle.definition.specs.Text.{Bytes}
use Rattle.definition.specs.Events as Events
use Rattle.definition.specs.Events.{choice_of}
use Rattle.definition.specs.Counter.{counter, take_choice}
use Rattle.definition.specs.Calls.{numbers_of}
use Rattle.theory_base.specs.Cells.{cells_of}
use Rattle.theory_counter.specs.Ready.{Ready}
use Rattle.theory_counter.specs.Front.{front}
use Rattle.tables.specs.Places.{Small}
use Rattle.store.specs.Store.{stored, Place}
use Rattle.index.specs.Index.{nodes, Indexed, Roomy}
use Rattle.progress.specs.declared.Progress.{Progress}
use Rattle.pass_counter.specs.declared.Choice.{Choice}
use Rattle.progress.specs.Progress.{standing, Good, Runs}

-- what the taking of a choice needs
pub record ChoiceReady (work : List ℤ) (newest : List ℕ) (p : Progress) (l : Clause) (below : ℕ) : Type 0 where
  pub good : Good below (take_choice (standing work p) l (choice_of l below) ∷ []) work p
  -- l are the literals of a standing clause; which one it is does not matter to the lines
  pub clause : Clause
  pub ready : Ready (standing work p) clause (choice_of l below)
  pub small : Small l below
  -- the counter clauses and their nodes fit beside the store and its nodes
  pub indexed : Indexed work p.end newest
  pub space : Roomy (cells_of (counter (choice_of l below))) work p.end newest

-- what it gives
pub record Taken (work : List ℤ) (newest : List ℕ) (l : Clause) (below : ℕ) (log : Bytes) (p : Progress) (new_work : List ℤ) (new_newest : List ℕ) (new_log : Bytes) (r : Progress) : Type 0 where
  pub ran : Runs (take_choice (standing work p) l (choice_of l below) ∷ []) work log p new_work new_log r
  -- up to the store's old end stands what is before the counter clauses, and these follow it
  pub place : Place (take r.end new_work) p.end
  pub front_stands : stored (take p.end new_work) ≡ front (standing work p) (choice_of l below)
  pub counter_stands : stored (drop p.end (take r.end new_work)) ≡ counter (choice_of l below)
  -- they fill what was added to the store (the order form's room needs this)
  pub filled : r.end ≡ p.end + numbers_of (counter (choice_of l below))
  pub indexed : Indexed new_work r.end new_newest
  pub nodes_are : nodes new_newest ≡ nodes newest + literals_of (counter (choice_of l below))

-- ---- a choice as the code has it

abbrev pub choice_in : Choice → Events.Choice
choice_in c = choice_of c.literals.now c.below

abbrev pub SmallChoice : Choice → Type 0
SmallChoice c = Small c.literals.now c.below × (2 ≤ length c.literals.now)
