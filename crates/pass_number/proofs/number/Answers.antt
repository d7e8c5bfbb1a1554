use Rattle.pass_number.proofs.Turns.{one_ready, turns_next, turns_end}
use Rattle.pass_number.proofs.number.Goals as goal

pub number_one-m-requires : goal.number_one-m-requires
number_one-m-requires c = one_ready c.loop-literals.invariant c.in-Some.ensures.steps

pub loop-literals-preserved : goal.loop-literals-preserved
loop-literals-preserved c = turns_next c.loop-literals.invariant c.in-Some.ensures.steps c.number_one-m.ensures

pub returns : goal.returns
returns c = turns_end c.loop-literals.invariant c.in-None.ensures.steps.0
