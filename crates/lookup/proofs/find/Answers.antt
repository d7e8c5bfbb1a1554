use native.Mathlib.Omega.{arith}
use Rattle.theory_base.proofs.Loops.{getD_mem}
use lib.IntN.{pos}
use Rattle.lookup.proofs.Finding.{searched_more, searched_on, searched_all}
use Rattle.lookup.proofs.find.Goals as goal

pub better-best-requires : goal.better-best-requires
better-best-requires c =
    let m = searched_more c.requires.0 _ _ c.loop-node.invariant c.loop-node-test.true in
    rw c.place_at-at.ensures (m.entry.inside, m.entry.place.rest)

pub loop-node-preserved : goal.loop-node-preserved
loop-node-preserved c =
    searched_on c.requires.0 _ _ c.loop-node.invariant c.loop-node-test.true c.older-node.ensures c.place_at-at.ensures
    c.better-best.ensures

pub returns : goal.returns
returns c =
    searched_all c.requires.0 _ _ c.loop-node.invariant
    (getD_mem c.args.clause.now 0 (pos 0) c.requires.1) (omega (arith, c.loop-node-test.false))
