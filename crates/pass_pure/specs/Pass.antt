-- The pass over a store: the literal for which a clause is deleted, by a table of counts, and what happens at a place.
use Rattle.std.specs.Prelude.{◌≡◌, cond, List, [], ◌∷◌, ℕ, ℤ, length, Option, Some, None}
use Rattle.std.specs.List.{find}
use Rattle.definition.specs.Literals.{Clause, with_first}
use Rattle.definition.specs.Text.{Bytes}
use Rattle.definition.specs.Standing.{deletion}
use Rattle.definition.specs.Clearing.{clear_pure}
use Rattle.theory_clearing.specs.Clashes.{ClashFree}
use Rattle.tables.specs.Sizes.{input_reach}
use Rattle.tables.specs.Counts.{Counts, pure_in, deletable_by}
use Rattle.store.specs.Store.{deleted_at, clause_at, marked}
use Rattle.progress.specs.declared.Progress.{Progress}
use Rattle.progress.specs.Progress.{Written, standing, Good}

-- the literal for which a clause is deleted, if it is
abbrev pub pure_by : List ℕ → Clause → Option ℤ
pure_by t c = cond (deletable_by t c) (find (pure_in t) c) None

-- the same of the clause at a place
abbrev pub pure_at : List ℕ → List ℤ → ℕ → Option ℤ
pure_at t s at = cond (deleted_at s at) None (pure_by t (clause_at s at))

-- nothing happens, or the clause is deleted for a literal
abbrev pub Step : Option ℤ → List ℤ → ℕ → Bytes → Progress → List ℤ → Bytes → Progress → Type 0
Step None s at log p new_s new_log q = (new_s ≡ s) × (new_log ≡ log) × (q ≡ p)
Step (Some l) s at log p new_s new_log q =
    (new_s ≡ marked s at) × Written (deletion (with_first l (clause_at s at)) ∷ []) log p new_log q × (q.end ≡ p.end)

-- a good workspace that is all store, without a clash, and the table of its counts
pub record Passable (work : List ℤ) (t : List ℕ) (p : Progress) : Type 0 where
  pub good : Good input_reach (clear_pure (standing work p)) work p
  pub free : ClashFree (standing work p)
  pub table : Counts input_reach t (standing work p)
  pub whole : length work ≡ p.end
