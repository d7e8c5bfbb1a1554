use mathlib.Core.Path.{subst}
use lib.IntN.{ℤ}
use lib.ListN.{take}
use mir.Syntax.{w32}
use mir.ValLaws.{to_z-of_z}
use Rattle.pairs.specs.Pairs.{NoPairWith}
use native.Mathlib.Omega.{arith}
use Rattle.pairs.proofs.Taking.{pairs_reads, pairs_next, pairs_end}
use Rattle.pairs.proofs.take_with.Goals as goal

pub take_pair-requires : goal.take_pair-requires
take_pair-requires c =
    let read = pairs_reads c.requires.indexed_2.0 c.requires.countable c.loop-node.invariant c.loop-node-test.true in
    rw c.place_at-at.ensures (read.entry.inside, read.entry.place.rest)

pub loop-node-preserved : goal.loop-node-preserved
loop-node-preserved c =
    pairs_next c.requires.indexed_2.0 c.requires.countable c.loop-node.invariant c.loop-node-test.true c.place_at-at.ensures c.older-before.ensures
    c.take_pair.ensures

pub returns : goal.returns
returns c =
    record {
      less = c.loop-node.invariant.less;
      none = subst (λ (z : ℤ). NoPairWith z c.args.places.now (take c.args.end c.loop-node.work))
          (to_z-of_z w32 c.args.l c.ranges.l)
          (pairs_end c.requires.indexed_2.0 c.requires.countable c.loop-node.invariant c.loop-node-test.false);
      indexed = c.loop-node.invariant.indexed;
    }

pub loop-node-smaller : goal.loop-node-smaller
loop-node-smaller c =
    let read = pairs_reads c.requires.indexed_2.0 c.requires.countable c.loop-node.invariant c.loop-node-test.true in
    omega (arith, read.falls, c.older-before.ensures)
