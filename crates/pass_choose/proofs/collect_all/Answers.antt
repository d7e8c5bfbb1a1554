use Rattle.pass_choose.proofs.Laws.{collecting_start, collecting_room, collecting_step, collecting_end}
use Rattle.pass_choose.proofs.collect_all.Goals as goal

pub collect_one-end-requires : goal.collect_one-end-requires
collect_one-end-requires c = collecting_room c.requires.0 c.loop-clause.invariant c.in-Some.ensures.steps c.requires.1

pub loop-clause-preserved : goal.loop-clause-preserved
loop-clause-preserved c = collecting_step c.requires.0 c.loop-clause.invariant c.in-Some.ensures.steps c.collect_one-end.auto.chosen c.collect_one-end.ensures

pub returns : goal.returns
returns c = collecting_end c.loop-clause.invariant c.in-None.ensures.steps.0

pub loop-clause-init : goal.loop-clause-init
loop-clause-init c = rw (c.into_iter-clause-iterator.ensures.into_iter_gives, c.standing-clause-items.ensures) (collecting_start c.args.chosen.now)
