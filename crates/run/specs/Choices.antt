-- The choices of a store: collected, arranged, and taken one after another.
use Rattle.std.specs.Prelude.{Result, Ok, Err, ◌≡◌, false, cond, List, [], map, ℕ, ◌+◌, ◌≤◌, ◌<◌, ◌^◌, ℤ, length, take, drop, replicate}
use Rattle.std.proofs.lemmas.List.Edits.{sets}
use Rattle.definition.specs.Literals.{Clause, Formula}
use Rattle.definition.specs.Text.{Bytes}
use Rattle.definition.specs.Events.{Event, choice_of}
use Rattle.definition.specs.Counter.{choices, below_new, last_new}
use Rattle.definition.specs.Alignment.{Arrangement, arranged}
use Rattle.definition.specs.Reencoding.{Form, choice_events}
use Rattle.definition.specs.Calls.{numbers_of}
use Rattle.theory_base.specs.Clauses.{Parted}
use Rattle.theory_room.specs.Choices.{used_after}
use Rattle.theory_run.specs.Choices.{Takeable, AllTakeable, taken_events}
use Rattle.store.specs.Store.{Formed, stored, deleted_at, clause_at}
use Rattle.progress.specs.declared.Progress.{Progress}
use Rattle.progress.specs.Progress.{standing, Good, Runs}
use Rattle.tables.specs.Sizes.{input_reach, input_size}
use Rattle.index.specs.Index.{Indexed, Roomy}
use Rattle.pairs.specs.Pairs.{slots}
use Rattle.theory_run.specs.Table.{taken_records}
use Rattle.records.specs.declared.ChoiceRecord.{ChoiceRecord}
use Rattle.records.specs.Rows.{rows_of}
use Rattle.pass_number.specs.Numbering as Numbering
use Rattle.pass_number.specs.Numbering.{weighed}
use Rattle.run.specs.declared.Reached.{Reached}
use Rattle.refusals.specs.declared.Refusal.{Refusal}
use Rattle.refusals.specs.declared.Refusal.TheVariants.{TooManyVariables}

-- ---- chosen

-- a good store, of whose choices no two have a variable in common, and room for them
pub record Choosable (work : List ℤ) (p : Progress) (chosen : List ℤ) : Type 0 where
  pub good : Good input_reach [] work p
  pub parted : Parted (choices (standing work p))
  pub space : numbers_of (choices (standing work p)) ≤ length chosen
  pub few : length chosen < 2 ^ 31

-- the choices of F fill the first r elements
pub record Chosen (a : Arrangement) (F : Formula) (size r : ℕ) (chosen : List ℤ) : Type 0 where
  pub inside : r ≤ size
  pub same_size : length chosen ≡ size
  pub formed : Formed (take r chosen)
  pub stands : stored (take r chosen) ≡ map (arranged a F (choices F)) (choices F)

-- ---- one choice taken

pub record OneReady (form : Form) (step : ℕ) (work : List ℤ) (p : Progress) (l : Clause) (below : ℕ) : Type 0 where
  pub good : Good below (choice_events form (standing work p) l (choice_of l below)) work p
  pub clause : Clause
  pub takeable : Takeable (length work) step (standing work p) clause (choice_of l below)
  pub new_few : below + length l ≤ 70_001

-- the same in an indexed workspace with room for the step
pub record PlacedReady (form : Form) (work : List ℤ) (newest : List ℕ) (p : Progress) (l : Clause) (below : ℕ) : Type 0 where
  pub step : ℕ
  pub ready : OneReady form step work p l below
  pub indexed : Indexed work p.end newest
  pub roomy : Roomy step work p.end newest

-- the lent tables between choices: places and counts are zeros
abbrev pub list_size : ℕ
list_size = 20000

pub record Lent (places counts list : List ℕ) : Type 0 where
  pub places_zero : places ≡ replicate input_size 0
  pub counts_zero : counts ≡ replicate slots 0
  pub long : length list ≡ list_size

-- ---- the choice at a place of the store of choices, with the step g, where n is the highest variable used

-- its events, if it stands
abbrev pub events_at : Form → ℕ → Formula → List ℤ → ℕ → ℕ → List Event
events_at form g F s at n = cond (deleted_at s at) [] (choice_events form F (clause_at s at) (choice_of (clause_at s at) (below_new g n)))

-- the highest variable used after it
abbrev pub used_at : ℕ → List ℤ → ℕ → ℕ → ℕ
used_at g s at n = cond (deleted_at s at) n (last_new (choice_of (clause_at s at) (below_new g n)))

-- how many choices it is
abbrev pub count_at : List ℤ → ℕ → ℕ
count_at s at = cond (deleted_at s at) 0 1

pub record AtReady (form : Form) (g step : ℕ) (work : List ℤ) (r : Reached) (chosen : List ℤ) (at : ℕ) : Type 0 where
  pub inside : r.progress.end ≤ length work
  pub formed : Formed (take r.progress.end work)
  pub at_inside : at < length chosen
  pub rest : Formed (drop at chosen)
  pub few : r.choices < 2 ^ 31
  pub step_least : 1 ≤ g
  pub step_most : g ≤ 100
  pub low : r.highest ≤ 70_000
  pub one : deleted_at chosen at ≡ false → OneReady form step work r.progress (clause_at chosen at) (below_new g r.highest)

pub record TakenAt (form : Form) (g : ℕ) (work : List ℤ) (log : Bytes) (r : Reached) (chosen : List ℤ) (at : ℕ) (new_work : List ℤ) (new_log : Bytes) (q : Reached) : Type 0 where
  pub runs : Runs (events_at form g (standing work r.progress) chosen at r.highest) work log r.progress new_work new_log q.progress
  pub choices : q.choices ≡ r.choices + count_at chosen at
  pub highest : q.highest ≡ used_at g chosen at r.highest

-- ---- all choices taken, literals in the order in which they are taken

pub record AllReady (form : Form) (g step : ℕ) (work : List ℤ) (p : Progress) (chosen : List ℤ) (n : ℕ) : Type 0 where
  pub good : Good n (taken_events form g n (standing work p) (stored chosen)) work p
  pub few : length chosen < 2 ^ 31
  pub chosen_formed : Formed chosen
  pub takeable : AllTakeable form g (length work) step n (standing work p) (stored chosen)
  pub step_least : 1 ≤ g
  pub step_most : g ≤ 100
  -- no variable passes 70,000
  pub low : used_after g (λ l. l) n (stored chosen) ≤ 70_000

pub record TakenAll (form : Form) (g : ℕ) (work : List ℤ) (log : Bytes) (p : Progress) (ls : List Clause) (n : ℕ) (new_work : List ℤ) (new_log : Bytes) (r : Reached) : Type 0 where
  pub runs : Runs (taken_events form g n (standing work p) ls) work log p new_work new_log r.progress
  pub choices : r.choices ≡ length ls
  pub highest : r.highest ≡ used_after g (λ l. l) n ls

-- ---- all choices numbered, then taken

pub record TakeReady (form : Form) (g step : ℕ) (work : List ℤ) (p : Progress) (chosen : List ℤ) (n : ℕ) (w : List ℕ) (rows : List ChoiceRecord) : Type 0 where
  pub good : Good n (taken_events form g n (standing work p) (stored chosen)) work p
  pub few : length chosen < 2 ^ 31
  pub takeable : AllTakeable form g (length work) step n (standing work p) (stored chosen)
  pub number_ready : Numbering.AllReady g chosen w rows n

-- 16 where H would pass 70,000; else they are taken; and their rows are written
pub record TookAll (form : Form) (g : ℕ) (work : List ℤ) (log : Bytes) (p : Progress) (ls : List Clause) (n : ℕ) (w : List ℕ) (rows : List ChoiceRecord) (new_work : List ℤ) (new_log : Bytes) (new_rows : List ChoiceRecord) (r : Result Reached Refusal) : Type 0 where
  pub high : 70_000 < used_after g (λ l. l) n ls → r ≡ Err TooManyVariables
  pub taken : used_after g (λ l. l) n ls ≤ 70_000 → (q : Reached) × (r ≡ Ok q) × TakenAll form g work log p ls n new_work new_log q
  pub written : new_rows ≡ sets rows 0 (rows_of (taken_records g (λ l. l) (weighed w) n ls))
