-- The loop closed: our own log's way back is never refused, and its line is a plan for the formula handed in. Every test of the call passes: our own texts are read, and
-- Demand 3 says the rest.
use mathlib.Core.Path.{◌≡◌}
use mathlib.Core.Bool.{true}
use mathlib.Core.List.{List}
use Prim.Native.Nat.{ℕ, ◌≤◌}
use native.Mathlib.Omega.{arith}
use lib.Dec.{ltb}
use lib.ListN.{length, take}
use borrow.Author.Tests.{le-ltb}
use Rattle.definition.specs.Checked.{value, ◌>>=◌, refuse_if}
use Rattle.definition.specs.Literals.{Clause}
use Rattle.definition.specs.Reading.{Input}
use Rattle.definition.specs.Text.{Bytes}
use Rattle.definition.specs.Standing.{Line}
use Rattle.definition.specs.Assignments.{Assignment, satisfies, carried_back}
use Rattle.definition.specs.Log.{log_text}
use Rattle.definition.specs.Answer.{read_answer}
use Rattle.definition.specs.Reencoding.{Settings, log}
use Rattle.definition.specs.Calls.{assigned, answer_text, fitting_line, highest_allowed, log_workspace_need, read_texts, carry_answer, walk_back}
use Rattle.theory_base.proofs.Tests.{to_true, of_true}
use Rattle.theory_text.proofs.Accepted.{input_accepted, input_highest}
use Rattle.theory_text.proofs.AnswerText.{Answered, answer_read}
use Rattle.theorems.specs.Demand3.{standing, Demand3, Demand3Holds}
use Rattle.theorems.specs.Texts.{TextsHold}
use Rattle.theorems.specs.WayBack.{WayBackHolds}
use Rattle.theorems.specs.WayForward.{Own}
use Rattle.theorems.proofs.Demand3.{demand_3}
use Rattle.theorems.proofs.Texts.{texts}

-- a line that fits
pub line_written : (room v : ℕ) (a : Assignment) → length (answer_text v a) ≤ room → fitting_line room v a ≡ value (answer_text v a)
unfolding fitting_line refuse_if
line_written room v a b = rw (le-ltb room (length (answer_text v a)) b)

-- a call on our own log, whatever variables its answer may have: the formula and the log are read
module _ {s : Settings} {t : Bytes} {i : Input} {j : ℕ} (o : Own s t i j) (most : Input → List Line → ℕ) (workspace : ℕ) (u : Bytes) where
  -- so what is left to read is the answer, and 11
  pub own_texts : let ss = take j (log s i) in
      read_texts most workspace j t (log_text (log s i)) u ≡
      (read_answer (most i ss) u >>= λ named. refuse_if (ltb workspace (log_workspace_need i ss (highest_allowed i ss))) 11 (value (record { input = i; lines = ss; named = named })))
  unfolding read_texts ◌>>=◌ TextsHold
  own_texts = rw (o.accepted, (texts t i o.accepted s).log_read o.low j o.kept)

  pub own_read : {named : Clause} → let ss = take j (log s i) in
      read_answer (most i ss) u ≡ value named → log_workspace_need i ss (highest_allowed i ss) ≤ workspace →
      read_texts most workspace j t (log_text (log s i)) u ≡ value (record { input = i; lines = ss; named = named })
  unfolding ◌>>=◌ refuse_if
  own_read e b = let ss = take j (log s i) in rw (own_texts, e, le-ltb workspace (log_workspace_need i ss (highest_allowed i ss)) b)

pub walked : WayBackHolds
unfolding WayBackHolds Demand3Holds walk_back carry_answer ◌>>=◌ refuse_if
walked s t i workspace room j u named w = record {
  line = answer_text i.variables back;
  given = rw (own_read own highest_allowed workspace u w.answered w.workspace_enough, promised.found j, passed, satisfied) (line_written room i.variables back w.room_enough);
  plan = answered.named;
  readable = answered.reads;
  satisfying = rw (answered.satisfying i.formula (rw (input_highest t i w.accepted) at (input_accepted t i w.accepted).fits)) (of_true satisfied);
}
  where
    own : Own s t i j
    own = record { accepted = w.accepted; kept = w.kept; low = w.low }

    back : Assignment
    back = carried_back (assigned named) (take j (log s i))

    promised : Demand3 s i
    promised = demand_3 t i w.accepted s

    passed : satisfies (assigned named) (standing s i j) ≡ true
    passed = to_true w.satisfied

    satisfied : satisfies back i.formula ≡ true
    satisfied = to_true (promised.back j (assigned named) w.satisfied)

    answered : Answered i.variables i.variables back
    answered = answer_read i.variables i.variables back (omega arith)
