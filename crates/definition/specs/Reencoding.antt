-- The events of a whole run, its log and what stands at its end; "a clause goes into a choice".
use Rattle.std.specs.Prelude.{◌≡◌, false, cond, List, [], ◌∷◌, ◌++◌, ℕ, ◌+◌, max, length}
use Rattle.definition.specs.Lists.{for_each}
use Rattle.definition.specs.Literals.{Clause, Formula, same_set, opposed}
use Rattle.definition.specs.Reading.{Input}
use Rattle.definition.specs.Standing.{Line, after, highest_in}
use Rattle.definition.specs.Events.{Clash, Choice, TableRecord, choice_of, Event, clash_cleared, pure_deleted, choice_taken, clause_replaced, literals_deleted}
use Rattle.definition.specs.Clearing.{clash_lines, pure_lines, resolvent, clear_clashes, clear_pure}
use Rattle.definition.specs.Counter.{choices, below_new, last_new, take_choice, choice_lines}
use Rattle.definition.specs.Order.{replacement_lines, order_events, literal_deletions}
use Rattle.definition.specs.Alignment.{Arrangement, arranged}

-- the log lines of an event
unfoldable pub lines_of : Event → List Line
lines_of (clash_cleared c) = clash_lines c
lines_of (pure_deleted l c) = pure_lines l c
lines_of (choice_taken c k copies) = choice_lines k copies
lines_of (clause_replaced old result) = replacement_lines old result
lines_of (literals_deleted c) = literal_deletions c

unfoldable pub lines : List Event → List Line
lines es = for_each es lines_of

-- the form that the caller names
pub data Form : Type 0 where
  counter_form : Form
  order_form : Form

-- what the caller asks for; M-118: the step is from 1 to 100
pub record Settings : Type 0 where
  pub form : Form
  pub arrangement : Arrangement
  pub step : ℕ

-- one choice; the order form follows directly after its stage 4
unfoldable pub choice_events : Form → Formula → Clause → Choice → List Event
choice_events counter_form f c k = take_choice f c k ∷ []
choice_events order_form f c k = let e = take_choice f c k in e ∷ order_events k (after f (lines_of e))

-- the choices in list order, with the step g, where f stands and n is the highest variable used
unfoldable pub choices_events : Form → ℕ → (Clause → Clause) → ℕ → Formula → List Clause → List Event
choices_events form g order n f [] = []
choices_events form g order n f (c ∷ cs) =
    let k = choice_of (order c) (below_new g n) in
    let es = choice_events form f c k in
    es ++ choices_events form g order (last_new k) (after f (lines es)) cs

-- M-118: the number of input clauses resolved into a clause d in the course of the events, where `count` says it before them: a resolvent has those of A and of B
unfoldable pub count_after : Event → (Clause → ℕ) → Clause → ℕ
count_after (clash_cleared c) count d = cond (same_set d (resolvent c)) (count c.one + count c.other) (count d)
count_after (pure_deleted l c) count d = count d
count_after (choice_taken c k copies) count d = count d
count_after (clause_replaced old result) count d = count d
count_after (literals_deleted c) count d = count d

unfoldable pub resolved_into : (Clause → ℕ) → List Event → Clause → ℕ
resolved_into count [] d = count d
resolved_into count (e ∷ es) d = resolved_into (count_after e count) es d

-- the record of an event that takes a choice
unfoldable pub record_of : (Clause → ℕ) → Event → List TableRecord
record_of count (clash_cleared c) = []
record_of count (pure_deleted l c) = []
record_of count (choice_taken c k copies) = record { first = k.below + 1; length = length k.literals; clauses = count c } ∷ []
record_of count (clause_replaced old result) = []
record_of count (literals_deleted c) = []

-- what stands when no clash is left
unfoldable pub unclashed : Formula → Formula
unclashed f = after f (lines (clear_clashes f))

-- what stands when the pure clauses are deleted too
unfoldable pub cleared : Formula → Formula
cleared f = after (unclashed f) (lines (clear_pure (unclashed f)))

module _ (s : Settings) (i : Input) where
  -- the choices then standing, and none is added later
  unfoldable pub chosen : List Clause
  chosen = choices (cleared i.formula)

  unfoldable pub events : List Event
  events =
      clear_clashes i.formula
      ++ clear_pure (unclashed i.formula)
      ++ choices_events s.form s.step (arranged s.arrangement (cleared i.formula) chosen) i.highest (cleared i.formula) chosen

  unfoldable pub log : List Line
  log = lines events

  -- M-118: the table, a record for each choice in the order taken; an input clause is 1 itself
  unfoldable pub table : List TableRecord
  table = for_each events (record_of (resolved_into (λ d. 1) (clear_clashes i.formula)))

  -- what stands with all lines kept
  unfoldable pub result : Formula
  result = after i.formula log

  -- H, the highest variable used (at least V)
  unfoldable pub highest_used : ℕ
  highest_used = max i.highest (highest_in log)

-- "Standing and carried back": the clause goes into the choice, in the course of the events
pub data GoesInto (k : Choice) : List Event → Clause → Type 0 where
  -- if it is taken as that choice,
  taken : {c : Clause} {copies : List Clause} {es : List Event} → GoesInto k (choice_taken c k copies ∷ es) c
  -- if it is A or B of a clash whose resolvent is added and goes into that choice,
  as_one : {c : Clash} {es : List Event} → opposed (resolvent c) ≡ false → GoesInto k es (resolvent c) → GoesInto k (clash_cleared c ∷ es) c.one
  as_other : {c : Clash} {es : List Event} → opposed (resolvent c) ≡ false → GoesInto k es (resolvent c) → GoesInto k (clash_cleared c ∷ es) c.other
  -- or if the order form replaces it by a clause that goes into that choice
  as_old : {old result : Clause} {es : List Event} → opposed result ≡ false → GoesInto k es result → GoesInto k (clause_replaced old result ∷ es) old
  -- in a later event
  later : {e : Event} {es : List Event} {c : Clause} → GoesInto k es c → GoesInto k (e ∷ es) c

-- all of this file, for a proof that computes: `unfolding computing` opens every name of the next line
unfoldable pub computing : Unit {0}
unfolding lines_of lines choice_events choices_events count_after resolved_into record_of unclashed cleared chosen events log table result highest_used
computing = tt
