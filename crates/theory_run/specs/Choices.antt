-- What is known where a choice is taken; proved as `choices_taken` in proofs/Choices, for a formula that was accepted and any settings.
use Rattle.std.specs.Prelude.{◌≡◌, List, [], ◌∷◌, ◌++◌, ◌+◌, ◌≤◌, ℕ, length}
use Rattle.definition.specs.Lists.{count}
use Rattle.definition.specs.Literals.{Clause, Formula, opposes}
use Rattle.definition.specs.Reading.{Input}
use Rattle.definition.specs.Standing.{after}
use Rattle.definition.specs.Events.{Event, Choice, choice_of}
use Rattle.definition.specs.Clearing.{clear_clashes, clear_pure}
use Rattle.definition.specs.Counter.{counter, last_new, below_new}
use Rattle.definition.specs.Reencoding.{lines, Settings, choice_events, unclashed, cleared, chosen, events, result, Form, choices_events}
use Rattle.definition.specs.Calls.{workspace_need}
use Rattle.theory_base.specs.Clauses.{ProperAll, Fits, FitAll}
use Rattle.theory_base.specs.Cells.{cells_of}
use Rattle.theory_counter.specs.Ready.{Ready}
use Rattle.theory_counter.specs.Front.{front}
use Rattle.theory_order.specs.Pass.{Before, added}
use Rattle.theory_room.specs.Step.{step_of}
use Rattle.theory_room.specs.Choices.{clearing, events_of_first, standing_after_first, next_choice, used_after, order_of}

-- the events of the clearing and of the choices cs
unfoldable pub events_up_to : Settings → Input → List Clause → List Event
events_up_to s i cs = clearing i.formula ++ events_of_first s i cs

-- the clause c can be taken as the choice k where F stands, in a workspace of some size where room is made for a step
pub record Takeable (size step : ℕ) (F : Formula) (c : Clause) (k : Choice) : Type 0 where
  pub proper : ProperAll F
  pub fits : Fits k.below F
  pub ready : Ready F c k
  pub least : 5 ≤ length k.literals
  pub most : length k.literals ≤ 64
  pub reach : FitAll 8_000 k.literals
  -- what stands leaves room for a step
  pub space : cells_of F + step ≤ size
  -- into which the counter clauses fit, and with them the clauses that replace others in order form
  pub step_cells : cells_of (counter k) + cells_of (added k (front F k)) ≤ step
  -- so many are replaced at most
  pub touched_few : count (opposes k.literals) (front F k) ≤ 20_000
  -- what stands before the counter clauses then
  pub before : Before (front F k) k
  pub front_proper : ProperAll (front F k)

-- choices whose literals stand in the order in which they are taken: each can be taken at its turn, as some clause
pub data AllTakeable (form : Form) (g size step : ℕ) : ℕ → Formula → List Clause → Type 0 where
  finished : {n : ℕ} {F : Formula} → AllTakeable form g size step n F []
  at_choice : {n : ℕ} {F : Formula} {l : Clause} {ls : List Clause} (c : Clause) → Takeable size step F c (choice_of l (below_new g n)) →
      AllTakeable form g size step (last_new (choice_of l (below_new g n))) (after F (lines (choice_events form F l (choice_of l (below_new g n))))) ls → AllTakeable form g size step n F (l ∷ ls)

-- their events, with the literals in the place of the clause
abbrev pub taken_events : Form → ℕ → ℕ → Formula → List Clause → List Event
taken_events form g n F ls = choices_events form g (λ l. l) n F ls

-- the choice c, taken after the choices cs
pub record AtChoice (s : Settings) (i : Input) (cs : List Clause) (c : Clause) (F : Formula) (k : Choice) : Type 0 where
  pub takeable : Takeable (workspace_need i) (step_of i) F c k
  -- its new variables are the next numbers above all used
  pub below : k.below ≡ below_new s.step (used_after s.step (order_of s i) i.highest cs)
  pub next_below : last_new k ≡ used_after s.step (order_of s i) i.highest (cs ++ (c ∷ []))
  -- what stands, and the events up to it
  pub stands : after i.formula (lines (events_up_to s i cs)) ≡ F
  pub next_stands : standing_after_first s i (cs ++ (c ∷ [])) ≡ after F (lines (choice_events s.form F c k))
  pub next_events : events_up_to s i (cs ++ (c ∷ [])) ≡ events_up_to s i cs ++ choice_events s.form F c k
  -- the events that follow it
  pub rest : List Event
  pub split : events s i ≡ events_up_to s i cs ++ (choice_events s.form F c k ++ rest)

-- the choices of a run, one after another
pub record ChoicesTaken (s : Settings) (i : Input) : Type 0 where
  pub at : (cs ds : List Clause) (c : Clause) → chosen s i ≡ cs ++ (c ∷ ds) → AtChoice s i cs c (standing_after_first s i cs) (next_choice s i cs c)
  -- before the first
  pub start_below : used_after s.step (order_of s i) i.highest [] ≡ i.highest
  pub start_stands : standing_after_first s i [] ≡ cleared i.formula
  pub start_events : events_up_to s i [] ≡ clear_clashes i.formula ++ clear_pure (unclashed i.formula)
  -- after the last
  pub end_stands : standing_after_first s i (chosen s i) ≡ result s i
  pub end_events : events_up_to s i (chosen s i) ≡ events s i
