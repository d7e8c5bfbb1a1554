-- The call's outcome, by what the code does once the texts are read; and the test of the plan.
use mathlib.Core.Path.{◌≡◌, refl}
use mathlib.Core.Bool.{true, false}
use Rattle.carry.specs.declared.Direction.TheVariants.{Forward}
use mathlib.Core.List.{List}
use Prim.Native.Nat.{ℕ}
use Rattle.definition.specs.Checked.{fault, refuse_if}
use Rattle.definition.specs.Literals.{Formula}
use Rattle.definition.specs.Text.{Bytes}
use Rattle.definition.specs.Standing.{Line}
use Rattle.definition.specs.Assignments.{Assignment, satisfies}
use Rattle.definition.specs.Calls.{carry_plan, carry_forward}
use Rattle.carry.specs.Carried.{tested_text, carried_plan, replayed_text}
use Rattle.log_texts.proofs.Called.{after_texts}
use Rattle.call_carry_forward.specs.Outcome.{plan_text}

pub carry_forward_is : (size room kept : ℕ) (formula log plan : Bytes) → carry_forward size room kept formula log plan ≡ after_texts Forward size kept formula log plan (plan_text room)
unfolding carry_forward carry_plan plan_text replayed_text carried_plan tested_text after_texts
carry_forward_is size room kept formula log plan = refl

module _ (room x : ℕ) (f : Formula) (ss : List Line) (a : Assignment) where
  pub plan_holds : satisfies a f ≡ true → plan_text room x f ss a ≡ replayed_text Forward room x f ss a
  unfolding plan_text refuse_if
  plan_holds e = rw e

  pub plan_fails : satisfies a f ≡ false → plan_text room x f ss a ≡ fault 45
  unfolding plan_text refuse_if
  plan_fails e = rw e
