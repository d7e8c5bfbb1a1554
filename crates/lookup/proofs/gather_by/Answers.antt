use mathlib.Core.Path.{refl, ◌∙◌}
use native.Mathlib.Omega.{arith}
use Rattle.lookup.proofs.Gathering.{gathered_start, gathered_room, gathered_falls, gathered_more, gathered_all}
use Rattle.lookup.proofs.gather_by.Goals as goal

pub loop-next-init : goal.loop-next-init
loop-next-init c = gathered_start c.requires.gatherable (c.start_cursors.auto.cursors ∙ c.requires.one_each) c.start_cursors.ensures c.latest-next.ensures

pub overflow_sub-to : goal.overflow_sub-to
overflow_sub-to c = gathered_room c.loop-next.invariant c.loop-next-test.true

pub bounds-list-to : goal.bounds-list-to
bounds-list-to c = omega (arith, gathered_room c.loop-next.invariant c.loop-next-test.true, c.loop-next.invariant.within)

pub loop-next-smaller : goal.loop-next-smaller
loop-next-smaller c = gathered_falls c.loop-next.invariant c.loop-next-test.true refl c.step_cursors.ensures c.step_cursors.auto.cursors c.latest-next-in-loop-next.ensures

pub loop-next-preserved : goal.loop-next-preserved
loop-next-preserved c = gathered_more c.loop-next.invariant c.loop-next-test.true refl c.step_cursors.ensures c.step_cursors.auto.cursors c.latest-next-in-loop-next.ensures

pub returns : goal.returns
returns c = gathered_all c.loop-next.invariant (omega (arith, c.loop-next-test.false))
