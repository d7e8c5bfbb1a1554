-- What a replay wants and answers, beside the definition's outcome.
use Rattle.std.specs.Prelude.{◌≡◌, List, ◌++◌, ℕ, ◌+◌, ◌-◌, ◌*◌, ◌≤◌, ℤ, length, take, Option, Some, None}
use Rattle.definition.specs.Checked.{Checked, fault, value}
use Rattle.definition.specs.Literals.{Clause, Formula}
use Rattle.definition.specs.LogReading.{numbers_in}
use Rattle.store.specs.Store.{Formed, stored, entry}
use Rattle.theory_base.specs.Slices.{between}
use Rattle.drat.specs.Loaded.{Loaded, lines_in}
use Rattle.replay.specs.declared.Layout.{Layout}
use Rattle.replay.specs.Index.{store_in}

-- the formula lies before n, the lines at n..m, with room behind them for a copy of the formula and what the lines add, and for as many links
pub record Replayable (work : List ℤ) (n m : ℕ) : Type 0 where
  pub before : n ≤ m
  pub room : m + 2 * (n + numbers_in (lines_in (between n m work))) ≤ length work
  pub formed : Formed (take n work)
  pub loaded : Loaded (between n m work)

-- the lines lie before a store, whose clauses they change, with room for what the lines add, and for as many links
pub record LaidOut (work : List ℤ) (lines : ℕ) (l : Layout) : Type 0 where
  pub before : lines ≤ l.store
  pub behind : l.store ≤ l.end
  pub room : l.store + 2 * ((l.end - l.store) + numbers_in (lines_in (between lines l.store work))) ≤ length work
  pub loaded : Loaded (between lines l.store work)
  pub formed : Formed (store_in l work)

-- the entries between `store` and `end` hold what stands; they end before a bound
pub record Stands (f : Formula) (store bound end : ℕ) (work : List ℤ) : Type 0 where
  pub order : store ≤ end
  pub small : end ≤ bound
  pub formed : Formed (between store end work)
  pub same : stored (between store end work) ≡ f

-- a clause added behind what stands
pub record ClauseAdded (old : List ℤ) (l : Layout) (c : Clause) (r : ℕ) (new : List ℤ) : Type 0 where
  pub next : r ≡ l.end + (length c + 1)
  pub filled : between l.store r new ≡ store_in l old ++ entry c
  pub kept : take l.store new ≡ take l.store old

-- a deletion without its clause, or what stands
abbrev pub Replays : Checked Formula → ℕ → ℕ → Option ℕ → List ℤ → Type 0
Replays o store bound (Some end) work = (f : Formula) × (o ≡ value f) × Stands f store bound end work
Replays o store bound None work = o ≡ fault 32
