use native.Mathlib.Omega.{arith}
use lib.Seq.{take_all}
use Rattle.index.proofs.Walk.{same_refl, same_trans}
use Rattle.pass_pure.proofs.Pass.{passing_start, passing_step, step_same, passing_end, passing_room, standing_all}
use Rattle.pass_pure.proofs.delete_all.Goals as goal

pub loop-at-init : goal.loop-at-init
loop-at-init c = (
  same_refl c.args.work.now,
  passing_start c.args.work.now c.args.log.now c.args.p
      (standing_all c.args.work.now c.args.p c.requires.whole)
      (rw (take_all c.args.p.end c.args.work.now (omega (arith, c.requires.whole))) at c.requires.good.formed)
      c.requires.free,
)

pub delete_at-q-requires-clause-at_bound : goal.delete_at-q-requires-clause-at_bound
delete_at-q-requires-clause-at_bound c =
    let r = passing_room c.requires.good.room c.loop-at.invariant.1 in
    (omega (arith, r.0), omega (arith, r.1))

pub loop-at-preserved : goal.loop-at-preserved
loop-at-preserved c =
    rw c.next_at-next.ensures (
      same_trans c.loop-at.invariant.0 (step_same c.loop-at.invariant.1 c.loop-at-test.true c.args.counts.now _ _ _ c.delete_at-q.ensures),
      passing_step c.loop-at.invariant.1 c.loop-at-test.true c.args.counts.now c.requires.good.fits c.requires.table
          _ _ _ c.delete_at-q.ensures,
    )

pub returns-clause-runs : goal.returns-clause-runs
returns-clause-runs c = passing_end c.args.work.now c.loop-at.invariant.1 c.requires.whole c.loop-at.invariant.0.size c.loop-at-test.false
