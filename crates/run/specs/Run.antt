-- A run over the store: clashes, pure literals, choices.
use Rattle.std.specs.Prelude.{Result, Ok, Err, ◌≡◌, List, [], ◌∷◌, ◌++◌, ℕ, ◌+◌, ◌*◌, ◌≤◌, ◌<◌, ◌^◌, ℤ, length, take}
use Rattle.std.proofs.lemmas.List.Edits.{sets}
use Rattle.definition.specs.Text.{Bytes}
use Rattle.definition.specs.Reading.{Input, as_read, input_limits}
use Rattle.definition.specs.Standing.{after}
use Rattle.definition.specs.Events.{Clash, Event, clash_cleared}
use Rattle.definition.specs.Clearing.{resolvent, clear_clashes}
use Rattle.definition.specs.Reencoding.{lines, Settings, chosen, events, table, highest_used}
use Rattle.definition.specs.Calls.{workspace_need, numbers_of}
use Rattle.theory_base.specs.Cells.{cells_of}
use Rattle.theory_text.specs.Accepted.{Accepted}
use Rattle.theory_room.specs.Choices.{clearing}
use Rattle.tables.specs.Sizes.{input_reach}
use Rattle.store.specs.Store.{Formed, stored}
use Rattle.progress.specs.declared.Progress.{Progress}
use Rattle.progress.specs.Progress.{standing, Good, Runs}
use Rattle.records.specs.declared.ChoiceRecord.{ChoiceRecord}
use Rattle.records.specs.Rows.{rows_of}
use Rattle.run.specs.declared.Reached.{Reached}
use Rattle.refusals.specs.declared.Refusal.{Refusal}
use Rattle.refusals.specs.declared.Refusal.TheVariants.{TooManyVariables}

-- what clearing needs: a good workspace, and room for a step, into which each resolvent fits, beside what stands
pub record ClearReady (step : ℕ) (work : List ℤ) (p : Progress) : Type 0 where
  pub good : Good input_reach (clearing (standing work p)) work p
  pub space : (xs ys : List Event) → clear_clashes (standing work p) ≡ xs ++ ys → cells_of (after (standing work p) (lines xs)) + step ≤ length work
  pub cells : (xs ys : List Event) (c : Clash) → clear_clashes (standing work p) ≡ xs ++ (clash_cleared c ∷ ys) → cells_of (resolvent c ∷ []) ≤ step

-- the input that a store holds; a run asks for its formula and its highest variable alone
abbrev pub input_in : List ℤ → ℕ → ℕ → Input
input_in work end highest = as_read highest (length (stored (take end work))) (stored (take end work))

-- before the first line
abbrev pub start_at : ℕ → Progress
start_at end = record { end = end; at = 0; lines = 0 }

-- as many choices as an input can have
abbrev pub most_choices : ℕ
most_choices = 1600

-- what a run asks for, with the step g
pub record RunReady (work : List ℤ) (end highest g : ℕ) (rows : List ChoiceRecord) : Type 0 where
  pub small : length work < 2 ^ 31
  pub inside : end ≤ length work
  pub formed : Formed (take end work)
  pub accepted : Accepted input_limits (input_in work end highest)
  pub enough : workspace_need (input_in work end highest) ≤ length work
  -- nothing is deleted yet
  pub whole : end ≡ numbers_of (stored (take end work))
  pub step_least : 1 ≤ g
  pub step_most : g ≤ 100
  pub row_room : length rows ≡ most_choices

-- the events of the input, its choices counted, and its highest variable
pub record Reaches (s : Settings) (i : Input) (work : List ℤ) (log : Bytes) (end : ℕ) (new_work : List ℤ) (new_log : Bytes) (r : Reached) : Type 0 where
  pub runs : Runs (events s i) work log (start_at end) new_work new_log r.progress
  pub choices : r.choices ≡ length (chosen s i)
  pub highest : r.highest ≡ highest_used s i

-- 16 where H would pass 70,000; else the whole run; and the rows of its table
pub record RanAll (s : Settings) (i : Input) (work : List ℤ) (log : Bytes) (end : ℕ) (rows : List ChoiceRecord) (new_work : List ℤ) (new_log : Bytes) (new_rows : List ChoiceRecord) (r : Result Reached Refusal) : Type 0 where
  pub high : 70_000 < highest_used s i → r ≡ Err TooManyVariables
  pub done : highest_used s i ≤ 70_000 → (q : Reached) × (r ≡ Ok q) × Reaches s i work log end new_work new_log q
  pub written : new_rows ≡ sets rows 0 (rows_of (table s i))
  pub row_room : length (chosen s i) ≤ length rows
