use borrow.Author.Rules.{rules}
use mir.Syntax.{w32}
use mir.Val.{SFits, of_z, to_z}
use lib.IntN.{pos}
use lib.ListN.{get_or}
use Rattle.progress.proofs.Writing.{others_start, others_step, others_end}
use Rattle.progress.proofs.put_others.Goals as goal

pub loop-l-init : goal.loop-l-init
loop-l-init c = others_start c.args.log.now c.args.at (to_z w32 (of_z w32 c.args.first)) c.args.clause.now

pub loop-l-preserved : goal.loop-l-preserved
loop-l-preserved c =
    let f : SFits w32 (get_or c.args.clause.now c.loop-l.l-index (pos 0)) = search rules in
    others_step c.loop-l.invariant c.loop-l-test.true f c.put_other-end.ensures.written c.put_other-end.ensures.within

pub returns : goal.returns
returns c = let done = others_end c.ranges.first c.loop-l.invariant c.loop-l-test.false in record { written = done.0; within = done.1 }
