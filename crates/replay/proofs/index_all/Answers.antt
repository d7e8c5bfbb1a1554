use native.Mathlib.Omega.{arith}
use Rattle.replay.proofs.Indexing.{indexing_start, entry_rest, link_inside, indexing_step, indexing_end}
use Rattle.replay.proofs.index_all.Goals as goal

pub loop-at-init : goal.loop-at-init
loop-at-init c = indexing_start c.requires

pub index_entry-requires : goal.index_entry-requires
index_entry-requires c = (
  omega (arith, c.loop-at-test.true),
  c.requires.within,
  link_inside c.requires c.loop-at.invariant c.loop-at-test.true,
  c.loop-at.invariant.table,
  entry_rest c.requires c.loop-at.invariant c.loop-at-test.true,
)

pub loop-at-preserved : goal.loop-at-preserved
loop-at-preserved c =
    indexing_step c.requires c.loop-at.invariant c.loop-at-test.true _ _ c.index_entry.ensures.linked
    c.index_entry.ensures.newest _ c.next_at-at.ensures

pub returns : goal.returns
returns c =
    record {
      linked = indexing_end c.requires c.loop-at.invariant c.loop-at-test.false;
      kept = c.loop-at.invariant.kept;
    }
