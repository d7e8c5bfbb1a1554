use Prim.Native.Nat.{ℕ}
use lib.ListN.{length-replicate}
use Rattle.pairs.specs.Pairs.{slots}
use native.Mathlib.Omega.{arith}
use mathlib.Core.Path.{refl, sym, ap, ◌∙◌}
use lib.ListN.{length}
use Rattle.progress.proofs.Laws.{written_length, runs_written}
use Rattle.run.proofs.Turns.{turns_start, at_ready, turns_next, turns_end}
use Rattle.run.proofs.take.Goals as goal

pub loop-at-init : goal.loop-at-init
loop-at-init c = (
  turns_start c.args.log.now c.requires.0,
  c.requires.1,
  record { places_zero = c.requires.2; counts_zero = refl; long = refl },
)

pub slice_bounds-take_at-end : goal.slice_bounds-take_at-end
slice_bounds-take_at-end c = sym (ap length c.loop-at.invariant.2.counts_zero ∙ length-replicate {A = ℕ} slots 0)

pub take_at-r-requires : goal.take_at-r-requires
take_at-r-requires c = (at_ready c.loop-at.invariant.0 c.loop-at-test.true, c.loop-at.invariant.1, c.loop-at.invariant.2)

pub next_at-at-requires : goal.next_at-at-requires
next_at-at-requires c = c.loop-at-test.true

pub loop-at-smaller : goal.loop-at-smaller
loop-at-smaller c = omega (arith, c.next_at-at.ensures, c.loop-at-test.true)

pub loop-at-preserved : goal.loop-at-preserved
loop-at-preserved c = (
  rw c.next_at-at.ensures (turns_next c.loop-at.invariant.0 c.loop-at-test.true c.take_at-r.ensures.taken),
  c.take_at-r.ensures.indexed,
  c.take_at-r.ensures.lent,
)

pub shape_of-work : goal.shape_of-work
shape_of-work c = c.loop-at.invariant.0.runs.size

pub shape_of-newest : goal.shape_of-newest
shape_of-newest c = c.loop-at.invariant.1.size ∙ sym c.requires.1.size

pub shape_of-places : goal.shape_of-places
shape_of-places c = ap length (c.loop-at.invariant.2.places_zero ∙ sym c.requires.2)

pub shape_of-log : goal.shape_of-log
shape_of-log c = written_length (runs_written c.loop-at.invariant.0.runs)

pub returns : goal.returns
returns c = turns_end c.loop-at.invariant.0 c.loop-at-test.false
