-- "Order form".
use Rattle.std.specs.Prelude.{not, cond, List, [], ◌∷◌, ◌++◌, map, ℕ, suc, ◌-◌, ltb, ℤ, neg_ℤ, length, take}
use Rattle.std.proofs.Math.Option.{Option, some, none}
use Rattle.definition.specs.Lists.{for_each, for_from, only_if}
use Rattle.definition.specs.Literals.{Clause, Formula, same, opposes, opposed}
use Rattle.definition.specs.Standing.{Line, addition, deletion}
use Rattle.definition.specs.Events.{Choice, Event, clause_replaced, literals_deleted}
use Rattle.definition.specs.Counter.{size, lit, new, counter}

-- the place, counted from i, of a literal in a list
unfoldable pub place_from : ℕ → ℤ → Clause → Option ℕ
place_from i m [] = none
place_from i m (a ∷ l) = cond (same m a) (some i) (place_from (suc i) m l)

-- the result is added, unless it holds a literal and its negation; then the old clause is deleted, its literals in order
unfoldable pub replacement_lines : Clause → Clause → List Line
replacement_lines old result = only_if (not (opposed result)) (addition result ∷ []) ++ (deletion old ∷ [])

module _ (c : Choice) where
  -- s(i-1), where it exists
  unfoldable pub previous : ℕ → Clause
  previous i = only_if (ltb 1 i) (new c (i - 1) ∷ [])

  -- -si, where it exists
  unfoldable pub negated_new : ℕ → Clause
  negated_new i = only_if (ltb i (size c)) (neg_ℤ (new c i) ∷ [])

  -- what stands for a literal: -l1 becomes -s1, -li becomes s(i-1) -si, -lk becomes s(k-1)
  unfoldable pub instead_of : ℤ → Option ℕ → Clause
  instead_of m none = m ∷ []
  instead_of m (some i) = previous i ++ negated_new i

  -- in place
  unfoldable pub replaced : Clause → Clause
  replaced d = for_each d (λ m. instead_of m (place_from 1 (neg_ℤ m) c.literals))

  -- a clause that holds negated choice literals
  unfoldable pub replace : Clause → List Event
  replace d = only_if (opposes c.literals d) (clause_replaced d (replaced d) ∷ [])

  -- through the clauses standing after stage 4, except the choice's own counter clauses, which are the last; then the choice's literals are deleted
  unfoldable pub order_events : Formula → List Event
  order_events f = for_each (take (length f - length (counter c)) f) replace ++ (literals_deleted c ∷ [])

  -- the clause with li, li first; then those with -li, -li first: -li si, then -li -s(i-1), where each exists
  unfoldable pub deletions_of : ℕ → List Clause
  deletions_of i =
      ((lit c i ∷ negated_new i ++ previous i) ∷ [])
      ++ only_if (ltb i (size c)) ((neg_ℤ (lit c i) ∷ new c i ∷ []) ∷ [])
      ++ only_if (ltb 1 i) ((neg_ℤ (lit c i) ∷ neg_ℤ (new c (i - 1)) ∷ []) ∷ [])

  -- for i = 1..k
  unfoldable pub literal_deletions : List Line
  literal_deletions = map deletion (for_from 1 (size c) deletions_of)

-- all of this file, for a proof that computes: `unfolding computing` opens every name of the next line
unfoldable pub computing : Unit {0}
unfolding place_from replacement_lines previous negated_new instead_of replaced replace order_events deletions_of literal_deletions
computing = tt
