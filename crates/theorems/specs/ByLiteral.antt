-- M-152: "Keep beside the list, for each literal, the places of its standing clauses in list order. After every line the table equals what a walk over the list finds."
-- `Indexed work end newest` says that nodes and table are those of the store, the first `end` elements of the workspace. Three functions change what stands: `index::enter` (a clause is added), `store::mark_deleted` (one is deleted)
-- and `index::compact` (the standing clauses are slid down). The contracts of the first and the last give `Indexed` again; a deletion leaves it as it is.
use Rattle.std.specs.Prelude.{◌≡◌, List, ℕ, ◌<◌, ℤ, take}
use Rattle.literals.specs.Literal.{index_of}
use Rattle.tables.specs.Sizes.{log_size}
use Rattle.store.specs.Store.{Place, marked}
use Rattle.index.specs.Index.{Indexed, table_places, holding}

-- for every workspace, proved as `by_literal` in proofs/ByLiteral
pub record ByLiteral : Type 0 where
  -- for each literal that the table reaches, the table, read, is what a walk over the list finds
  pub table_is_walk : (work : List ℤ) (end : ℕ) (newest : List ℕ) → Indexed work end newest → (l : ℤ) → index_of l < log_size → table_places work newest l ≡ holding l (take end work)
  -- a clause deleted
  pub deletion_keeps : (work : List ℤ) (end : ℕ) (newest : List ℕ) → Indexed work end newest → (at : ℕ) → Place (take end work) at → at < end → Indexed (marked work at) end newest
