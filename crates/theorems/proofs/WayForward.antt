-- The way forward holds. Our own log is sound, so a plan for the formula is carried forward to one for what stands: 46 never occurs, as 32 never does. The line that comes
-- names every variable that may stand, so read as an answer it satisfies the same, and walk-back takes it.
use mathlib.Core.Path.{◌≡◌, sym, ◌∙◌, subst}
use mathlib.Core.Bool.{true}
use mathlib.Core.List.Memᴰ
use mathlib.Core.List.{List, ◌++◌}
use Prim.Native.Nat.{ℕ}
use native.Mathlib.Omega.{arith}
use lib.Dec.{T}
use lib.ListN.{take, drop, take-append-drop}
use Rattle.definition.specs.Lists.{any, all}
use Rattle.definition.specs.Checked.{◌>>=◌, refuse_if}
use Rattle.definition.specs.Literals.{Clause}
use Rattle.definition.specs.Reading.{Input}
use Rattle.definition.specs.Text.{Bytes, bytes}
use Rattle.definition.specs.Standing.{Line, replay}
use Rattle.definition.specs.Assignments.{Assignment, satisfies, carried_forward}
use Rattle.definition.specs.Log.{log_text}
use Rattle.definition.specs.Reencoding.{Settings, log}
use Rattle.definition.specs.Calls.{assigned, answer_text, fitting_line, highest_allowed, carry_plan, carry_forward}
use Rattle.theory_base.specs.Clauses.{Fits}
use Rattle.theory_base.proofs.Tests.{to_true}
use Rattle.theory_base.proofs.Outcomes.{bind_bind, refuse_bind}
use Rattle.theory_base.proofs.Fitting.{after_fits}
use Rattle.theory_text.proofs.Accepted.{input_accepted}
use Rattle.theory_text.proofs.AnswerText.{Answered, answer_read}
use Rattle.theory_room.proofs.Runs.{log_proper}
use Rattle.theory_run.proofs.LogSound.{accepted_run}
use Rattle.theorems.specs.Demand3.{standing, Demand3Holds}
use Rattle.theorems.specs.Refusals.{Listed, answer_numbers}
use Rattle.theorems.specs.WayBack.{WayBackHolds}
use Rattle.theorems.specs.WayForward.{Own, own_numbers, Plan, Carried, WayForwardHolds}
use Rattle.theorems.proofs.Demand3.{demand_3, carries_forward}
use Rattle.theorems.proofs.Refusals.{refuse_listed, unless_listed, bind_listed, listed_among, answer_listed, fitting_listed}
use Rattle.theorems.proofs.WayBack.{line_written, own_texts, own_read, walked}

module _ (s : Settings) (t : Bytes) (i : Input) (j : ℕ) (o : Own s t i j) where
  abbrev kept : List Line
  kept = take j (log s i)

  -- where the plan satisfies the formula, all that is left to test is the room
  plan_carried : (room : ℕ) (a : Assignment) → T (satisfies a i.formula) → (replay i.formula kept >>= λ f. carry_plan room i kept f a) ≡ fitting_line room (highest_allowed i kept) (carried_forward a kept)
  unfolding carry_plan ◌>>=◌ refuse_if Demand3Holds
  plan_carried room a q =
      let e : satisfies (carried_forward a kept) (standing s i j) ≡ true = to_true (carries_forward t i o.accepted s j a q) in
      rw ((demand_3 t i o.accepted s).found j, e)

  never : (workspace room : ℕ) (u : Bytes) → Listed own_numbers (carry_forward workspace room j t (log_text (log s i)) u)
  unfolding carry_forward ◌>>=◌ own_numbers answer_numbers any all
  never workspace room u =
      rw (own_texts o (λ i ss. i.variables) workspace u, bind_bind)
      (bind_listed (listed_among tt (answer_listed i.variables u)) (λ named.
      rw refuse_bind
      (refuse_listed 11 _ tt
      (unless_listed 45 (satisfies (assigned named) i.formula) tt (λ q.
      subst (Listed own_numbers) (sym (plan_carried room (assigned named) q)) (listed_among tt (fitting_listed room _ _)))))))

  standing_fits : Fits (highest_allowed i kept) (standing s i j)
  unfolding standing highest_allowed
  standing_fits =
      let a = input_accepted t i o.accepted in
      after_fits i.highest i.formula kept a.fits
      (λ x m. log_proper s i (accepted_run s i a) x (rw (take-append-drop j (log s i)) at (Memᴰ.append_left (drop j (log s i)) m)))

  carried : (workspace room : ℕ) (u : Bytes) (named : Clause) → Plan s i workspace room j u named → Carried s t i workspace room j u
  unfolding carry_forward ◌>>=◌ refuse_if WayBackHolds
  carried workspace room u named p = record {
    line = line;
    given = rw (own_read o (λ i ss. i.variables) workspace u p.planned p.workspace_enough, planned) (plan_carried room (assigned named) p.satisfied ∙ line_written room most forth p.room_enough);
    plan = answered.named;
    readable = answered.reads;
    satisfying = satisfying;
    back = λ back_room b. walked s t i workspace back_room j (bytes "s SATISFIABLE\n" ++ line) answered.named (record {
      accepted = o.accepted;
      kept = o.kept;
      low = o.low;
      answered = answered.reads;
      satisfied = satisfying;
      workspace_enough = p.workspace_enough;
      room_enough = b;
    });
  }
    where
      most : ℕ
      most = highest_allowed i kept

      forth : Assignment
      forth = carried_forward (assigned named) kept

      line : Bytes
      line = answer_text most forth

      planned : satisfies (assigned named) i.formula ≡ true
      planned = to_true p.satisfied

      answered : Answered most most forth
      answered = answer_read most most forth (omega arith)

      satisfying : T (satisfies (assigned answered.named) (standing s i j))
      satisfying = rw (answered.satisfying (standing s i j) standing_fits) (carries_forward t i o.accepted s j (assigned named) p.satisfied)

pub way_forward : WayForwardHolds
unfolding WayForwardHolds
way_forward s t i j o = record { forward = carries_forward t i o.accepted s j; never = never s t i j o; carried = carried s t i j o }
