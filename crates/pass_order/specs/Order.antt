-- The order form of one choice over the store.
use Rattle.std.specs.Prelude.{◌≡◌, List, [], ◌∷◌, ◌++◌, map, ℕ, ◌+◌, ◌-◌, ltb, ℤ, pos, neg_ℤ, length, take, drop}
use Rattle.definition.specs.Lists.{for_each, only_if}
use Rattle.definition.specs.Literals.{Clause, Formula}
use Rattle.definition.specs.Text.{Bytes}
use Rattle.definition.specs.Standing.{deletion}
use Rattle.definition.specs.Events.{Choice, choice_of}
use Rattle.definition.specs.Counter.{counter, last_new}
use Rattle.definition.specs.Order.{replace, order_events}
use Rattle.definition.specs.Reencoding.{lines}
use Rattle.theory_base.specs.Cells.{cells_of}
use Rattle.theory_soundness.specs.Removals.{take_all}
use Rattle.theory_order.specs.Pass.{kept, added, Before}
use Rattle.tables.specs.Places.{Small}
use Rattle.store.specs.Store.{Formed, stored, Place}
use Rattle.index.specs.Index.{Indexed, Roomy}
use Rattle.progress.specs.declared.Progress.{Progress}
use Rattle.progress.specs.Progress.{Written, LogRoom, standing, Good}

-- what stands before a place
abbrev pub front : List ℤ → ℕ → Formula
front work start = stored (take start work)

-- what the order form needs
pub record OrderReady (work : List ℤ) (newest : List ℕ) (p : Progress) (start : ℕ) (l : Clause) (below : ℕ) : Type 0 where
  pub good : Good (last_new (choice_of l below)) (order_events (choice_of l below) (standing work p)) work p
  pub indexed : Indexed work p.end newest
  -- from `start` on stand the counter clauses, the last in the store
  pub place : Place (take p.end work) start
  pub counter_stands : stored (drop start (take p.end work)) ≡ counter (choice_of l below)
  pub before : Before (front work start) (choice_of l below)
  pub small : Small l below
  -- the results fit behind the store
  pub space : Roomy (cells_of (added (choice_of l below) (front work start))) work p.end newest

-- ---- after the pass: the clauses left of E, then the rest of the store as it was, then the results

pub record Passed (k : Choice) (E : Formula) (middle : List ℤ) (start : ℕ) (old : List ℤ) (old_log : Bytes) (p : Progress) (work : List ℤ) (newest : List ℕ) (log : Bytes) (q : Progress) : Type 0 where
  pub left : List ℤ
  pub results : List ℤ
  pub size : length work ≡ length old
  pub parts : take q.end work ≡ left ++ (middle ++ results)
  pub left_size : length left ≡ start
  pub left_formed : Formed left
  pub left_stands : stored left ≡ kept k E
  pub results_formed : Formed results
  pub results_stand : stored results ≡ added k E
  pub written : Written (lines (for_each E (replace k))) old_log p log q
  pub indexed : Indexed work q.end newest

-- ---- deletions recorded and carried out

-- li, -si, s(i-1), where each exists
abbrev pub first_deletion : ℤ → ℕ → ℕ → ℕ → Clause
first_deletion l i n below = (l ∷ only_if (ltb i n) (neg_ℤ (pos (below + i)) ∷ [])) ++ only_if (ltb 1 i) (pos (below + (i - 1)) ∷ [])

pub record Deletable (D : List Clause) (work : List ℤ) (newest : List ℕ) (p : Progress) : Type 0 where
  pub indexed : Indexed work p.end newest
  pub room : LogRoom (map deletion D) p

pub record Deletes (D : List Clause) (work : List ℤ) (newest : List ℕ) (log : Bytes) (p : Progress) (new : List ℤ) (new_log : Bytes) (q : Progress) : Type 0 where
  pub size : length new ≡ length work
  pub end : q.end ≡ p.end
  pub indexed : Indexed new q.end newest
  pub stands : stored (take q.end new) ≡ take_all (stored (take p.end work)) D
  pub written : Written (map deletion D) log p new_log q
