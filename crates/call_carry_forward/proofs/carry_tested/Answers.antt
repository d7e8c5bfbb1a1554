use mathlib.Core.Path.{sym, ◌∙◌}
use Rattle.call_carry_forward.proofs.Outcome.{plan_holds, plan_fails}
use Rattle.call_carry_forward.proofs.carry_tested.Goals as goal

pub returns-then-not-satisfied_before : goal.returns-then-not-satisfied_before
returns-then-not-satisfied_before c = plan_fails _ _ _ _ _ (sym c.satisfied_before.ensures ∙ c.if-not-satisfied_before.true)

pub returns : goal.returns
returns c = rw (plan_holds _ _ _ _ _ (sym c.satisfied_before.ensures ∙ c.if-not-satisfied_before.false)) c.replay_and_carry.ensures
