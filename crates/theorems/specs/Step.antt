-- M-118: "A choice's first new variable is then the least number above all used that is 1 more than a multiple of g. .. g = 1 gives today's bytes."; the table has a record for each choice; and "Skipped numbers stand in no clause".
use Rattle.std.specs.Prelude.{◌≡◌, ◌⊎◌, ℕ, ◌+◌, ◌*◌, ◌≤◌, ◌<◌, ℤ, nat_abs, length}
use mathlib.Core.List.{List, [], ◌∷◌, ◌++◌, Memᴰ}
use Rattle.definition.specs.Checked.{value}
use Rattle.definition.specs.Literals.{Clause, Formula}
use Rattle.definition.specs.Text.{Bytes}
use Rattle.definition.specs.Reading.{Input}
use Rattle.definition.specs.Standing.{Line, literals, after}
use Rattle.definition.specs.Calls.{read_input}
use Rattle.definition.specs.Events.{Event, TableRecord, choice_of}
use Rattle.definition.specs.Clearing.{clear_clashes, clear_pure}
use Rattle.definition.specs.Counter.{below_new, last_new}
use Rattle.definition.specs.Alignment.{arranged}
use Rattle.definition.specs.Reencoding.{Form, Settings, lines, choice_events, unclashed, cleared, chosen, events, log, table}
use Rattle.theorems.specs.Demand3.{standing}

-- 1 more than a multiple of g
abbrev pub Stepped : ℕ → ℕ → Type 0
Stepped g m = (q : ℕ) × (m ≡ q * g + 1)

-- where n is the highest variable used
pub record FirstNew (g n : ℕ) : Type 0 where
  pub above : n < below_new g n + 1
  pub stepped : Stepped g (below_new g n + 1)
  pub least : (m : ℕ) → n < m → Stepped g m → below_new g n + 1 ≤ m

-- the choices without a step: new variables are the next numbers above all used
unfoldable pub unstepped : Form → (Clause → Clause) → ℕ → Formula → List Clause → List Event
unstepped form order n f [] = []
unstepped form order n f (c ∷ cs) =
    let k = choice_of (order c) n in
    let es = choice_events form f c k in
    es ++ unstepped form order (last_new k) (after f (lines es)) cs

pub record Stepping (s : Settings) (i : Input) : Type 0 where
  -- the first new variable of a choice, whatever is used
  pub first_new : 1 ≤ s.step → (n : ℕ) → FirstNew s.step n
  -- with the step 1 the events, and so log, new formula and result, are those without a step
  pub as_before : s.step ≡ 1 → let f = i.formula in
      events s i ≡ clear_clashes f ++ clear_pure (unclashed f) ++ unstepped s.form (arranged s.arrangement (cleared f) (chosen s i)) i.highest (cleared f) (chosen s i)
  -- the table has a record for each choice
  pub one_each : length (table s i) ≡ length (chosen s i)

-- the theorem, proved as `stepping` in proofs/Step: of every input, whatever the settings
unfoldable pub SteppingHolds : Type 0
SteppingHolds = (s : Settings) (i : Input) → Stepping s i

-- a new variable of the choice with this record: s1 to s(k-1)
abbrev pub NewIn : TableRecord → ℕ → Type 0
NewIn r v = (r.first ≤ v) × (v + 2 ≤ r.first + r.length)

-- "Skipped numbers stand in no clause": what is not skipped is a variable of the input, or a new one of a choice, as its record in the table says
abbrev pub NotSkipped : Settings → Input → ℕ → Type 0
NotSkipped s i v = (v ≤ i.highest) ⊎ ((r : TableRecord) × Memᴰ r (table s i) × NewIn r v)

pub record NoneSkipped (s : Settings) (i : Input) : Type 0 where
  -- every variable of a log line,
  pub in_lines : (x : Line) → Memᴰ x (log s i) → (l : ℤ) → Memᴰ l (literals x) → NotSkipped s i (nat_abs l)
  -- and of a clause that stands, whatever number j of log lines is kept
  pub in_clauses : (j : ℕ) (c : Clause) → Memᴰ c (standing s i j) → (l : ℤ) → Memᴰ l c → NotSkipped s i (nat_abs l)

-- the theorem, proved as `none_skipped` in proofs/Step: of every formula that reading accepts
unfoldable pub NoneSkippedHolds : Type 0
NoneSkippedHolds = (t : Bytes) (i : Input) → read_input t ≡ value i → (s : Settings) → NoneSkipped s i
