use Rattle.store.proofs.Sliding.{sliding_start, sliding_turn, sliding_end}
use Rattle.store.proofs.compact.Goals as goal

pub loop-from-init : goal.loop-from-init
loop-from-init c = sliding_start _ c.requires

pub loop-from-preserved : goal.loop-from-preserved
loop-from-preserved c = sliding_turn _ _ _ _ c.loop-from.invariant c.loop-from-test.true _ _ _ c.slide-to.ensures.moved c.slide-to.ensures.next c.next_at-next.ensures

pub returns : goal.returns
returns c = sliding_end _ _ _ _ c.loop-from.invariant c.loop-from-test.false
