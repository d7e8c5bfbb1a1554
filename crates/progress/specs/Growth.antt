-- Clauses added at the end of a store, entered in its index, and recorded.
use Rattle.std.specs.Prelude.{◌≡◌, List, map, ◌++◌, ℕ, ◌+◌, ◌-◌, ◌<◌, ℤ, length, take}
use Rattle.definition.specs.Lists.{for_each}
use Rattle.definition.specs.Literals.{Formula, literals_of}
use Rattle.definition.specs.Text.{Bytes}
use Rattle.definition.specs.Standing.{addition}
use Rattle.definition.specs.Calls.{numbers_of}
use Rattle.theory_base.specs.Cells.{cells_of}
use Rattle.literals.specs.Literal.{header_of}
use Rattle.store.specs.Store.{Formed, stored, entry, header_at}
use Rattle.index.specs.Index.{nodes, Indexed, Roomy}
use Rattle.progress.specs.declared.Progress.{Progress}
use Rattle.progress.specs.Progress.{Written, LogRoom}

-- clauses as they stand in a store
abbrev pub entries : Formula → List ℤ
entries f = for_each f entry

-- a standing clause's entry is written from `end` up to `next`
pub record EntryThere (work : List ℤ) (end next : ℕ) : Type 0 where
  pub longer : end < next
  pub header : header_at work end ≡ header_of (next - (end + 1))

-- the workspace, indexed, and the log have room for some clauses
pub record GrowRoom (f : Formula) (work : List ℤ) (newest : List ℕ) (p : Progress) : Type 0 where
  pub indexed : Indexed work p.end newest
  pub space : Roomy (cells_of f) work p.end newest
  pub log : LogRoom (map addition f) p

-- the clauses stand behind what was filled, are entered and recorded
pub record Grown (f : Formula) (work : List ℤ) (newest : List ℕ) (log : Bytes) (p : Progress) (new_work : List ℤ) (new_newest : List ℕ) (new_log : Bytes) (r : Progress) : Type 0 where
  pub size : length new_work ≡ length work
  pub next : r.end ≡ p.end + numbers_of f
  pub filled : take r.end new_work ≡ take p.end work ++ entries f
  pub formed : Formed (entries f)
  pub stands : stored (entries f) ≡ f
  pub written : Written (map addition f) log p new_log r
  pub indexed : Indexed new_work r.end new_newest
  pub nodes_are : nodes new_newest ≡ nodes newest + literals_of f
