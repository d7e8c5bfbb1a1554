use Rattle.index.proofs.Filling.{filling_start, filling_inside, filling_room, filling_step, filling_end}
use Rattle.index.proofs.enter_all.Goals as goal

pub loop-at-init : goal.loop-at-init
loop-at-init c =
    filling_start c.args.work.now c.args.end c.requires.formed.0 c.requires.formed.1
    c.args.newest.now c.requires.formed.2 c.requires.at_most.0 c.requires.at_most.1

pub next_at-next-requires : goal.next_at-next-requires
next_at-next-requires c =
    filling_inside c.args.work.now c.args.end c.requires.formed.0 c.requires.formed.1 c.loop-at.work
    c.loop-at.newest c.loop-at.at c.loop-at.invariant c.loop-at-test.true

pub enter-requires : goal.enter-requires
enter-requires c =
    record {
      indexed_2 = (c.loop-at.invariant.indexed, c.next_at-next.ensures);
      at_in_bounds = filling_room c.args.work.now c.args.end c.requires.formed.0 c.requires.formed.1 c.loop-at.work
          c.loop-at.newest c.loop-at.at c.loop-at.invariant c.loop-at-test.true c.next_at-next.result c.next_at-next.ensures;
    }

pub loop-at-preserved : goal.loop-at-preserved
loop-at-preserved c =
    filling_step c.args.work.now c.args.end c.requires.formed.0 c.requires.formed.1 c.loop-at.work
    c.loop-at.newest c.loop-at.at c.loop-at.invariant c.loop-at-test.true c.next_at-next.result c.next_at-next.ensures _ _ c.enter.auto.work
    c.enter.ensures.indexed c.enter.ensures.nodes c.enter.ensures.below

pub returns : goal.returns
returns c =
    let done = filling_end c.args.work.now c.args.end c.requires.formed.0 c.requires.formed.1 c.loop-at.work
    c.loop-at.newest c.loop-at.at c.loop-at.invariant c.loop-at-test.false in record { indexed = done.0; kept = done.1 }
