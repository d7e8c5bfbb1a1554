-- M-130: the log is short. A choice of k literals writes exactly 4(k-1) + 1 + p lines, p being the copies of its pairs that stand where it is taken; and a log in counter form
-- has at most as many lines as these make together, with three for each clash and one for each pure clause.
use Rattle.std.specs.Prelude.{◌≡◌, List, [], ◌∷◌, ◌++◌, ℕ, ◌+◌, ◌-◌, ◌*◌, ◌≤◌, length}
use Rattle.definition.specs.Lists.{any, count}
use Rattle.definition.specs.Checked.{value}
use Rattle.definition.specs.Literals.{Clause, Formula, same_set}
use Rattle.definition.specs.Reading.{Input}
use Rattle.definition.specs.Text.{Bytes}
use Rattle.definition.specs.Standing.{after}
use Rattle.definition.specs.Events.{Choice, Event, clash_cleared, pure_deleted, choice_taken, clause_replaced, literals_deleted}
use Rattle.definition.specs.Counter.{pairs}
use Rattle.definition.specs.Calls.{read_input}
use Rattle.definition.specs.Reencoding.{Settings, counter_form, lines_of, lines, events, log}

-- p, where f stands: the clauses of f that are copies of one of the pairs
unfoldable pub pair_copies : Formula → Choice → ℕ
pair_copies f k = count (λ d. any (λ p. same_set p d) (pairs k.literals)) f

-- 4(k-1) + 1 + p
unfoldable pub choice_length : Formula → Choice → ℕ
choice_length f k = 4 * (length k.literals - 1) + 1 + pair_copies f k

-- the most lines of an event where f stands; the last two do not occur in counter form
unfoldable pub most : Formula → Event → ℕ
most f (clash_cleared c) = 3
most f (pure_deleted l c) = 1
most f (choice_taken c k copies) = choice_length f k
most f (clause_replaced old result) = 0
most f (literals_deleted k) = 0

-- of events one after another
unfoldable pub most_of : Formula → List Event → ℕ
most_of f [] = 0
most_of f (e ∷ es) = most f e + most_of (after f (lines_of e)) es

pub record ShortLog (s : Settings) (i : Input) : Type 0 where
  -- in both forms: where a choice is taken, its stages have so many lines
  pub exact : (before later : List Event) (c : Clause) (k : Choice) (copies : List Clause) → events s i ≡ before ++ (choice_taken c k copies ∷ later) →
      length (lines_of (choice_taken c k copies)) ≡ choice_length (after i.formula (lines before)) k
  -- in counter form: the whole log
  pub at_most : s.form ≡ counter_form → length (log s i) ≤ most_of i.formula (events s i)

-- the theorem, proved as `short_log` in proofs/ShortLog
unfoldable pub ShortLogHolds : Type 0
ShortLogHolds = (t : Bytes) (i : Input) → read_input t ≡ value i → (s : Settings) → ShortLog s i
