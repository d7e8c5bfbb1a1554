use mir.Syntax.{w32}
use mir.ValLaws.{to_z-of_z}
use Rattle.pass_clashes.proofs.Copying.{copying_start, copying_room, copying_step}
use Rattle.pass_clashes.proofs.copy_without.Goals as goal

pub loop-i-init : goal.loop-i-init
loop-i-init c = copying_start c.args.work.now c.args.to c.args.part.from _

pub copy_one-end-requires : goal.copy_one-end-requires
copy_one-end-requires c =
    let e = to_z-of_z w32 c.args.gone c.ranges.gone in
    let k = rw e at c.loop-i.invariant in
    rw e (copying_room k c.loop-i-test.true c.requires.0 c.requires.1)

pub loop-i-preserved : goal.loop-i-preserved
loop-i-preserved c =
    let e = to_z-of_z w32 c.args.gone c.ranges.gone in
    let k = rw e at c.loop-i.invariant in
    rw e (copying_step k c.loop-i-test.true c.requires.0 c.requires.1 (rw e at c.copy_one-end.ensures.next) (rw e at c.copy_one-end.ensures.copied))
