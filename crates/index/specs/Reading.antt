-- Reading the clauses of one literal, from the last one to the first.
use Rattle.std.specs.Prelude.{◌≡◌, false, ℕ, ◌≤◌, ◌<◌, ℤ, length, take}
use mathlib.Core.List.{List, ◌++◌, Memᴰ}
use Rattle.store.specs.Store.{Place, deleted_at, clause_at}
use Rattle.index.specs.Index.{nodes, Chain, entered}

-- the node t is where ps, the places not yet read, begin
pub record Reading (work : List ℤ) (end : ℕ) (newest : List ℕ) (l : ℤ) (t : ℕ) (ps : List ℕ) : Type 0 where
  pub bound : t ≤ nodes newest
  pub chain : Chain work t ps
  pub read : List ℕ
  pub split : entered l (take end work) ≡ read ++ ps

-- an entry with the literal, standing or deleted
pub record EntryWith (l : ℤ) (s : List ℤ) (at : ℕ) : Type 0 where
  pub inside : at < length s
  pub place : Place s at
  pub with_literal : Memᴰ l (clause_at s at)

-- ---- a clause that stands
pub record StandsAt (s : List ℤ) (at : ℕ) : Type 0 where
  pub inside : at < length s
  pub place : Place s at
  pub stands : deleted_at s at ≡ false

-- and holds a literal
pub record FoundWith (l : ℤ) (s : List ℤ) (at : ℕ) : Type 0 where
  pub standing : StandsAt s at
  pub with_literal : Memᴰ l (clause_at s at)
