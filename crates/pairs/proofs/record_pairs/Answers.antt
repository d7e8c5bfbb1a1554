use mathlib.Core.Path.{refl, ◌∙◌}
use native.Mathlib.Omega.{arith}
use lib.ListN.{length}
use Rattle.pairs.specs.Pairs.{row_lines}
use Rattle.pairs.proofs.Lines.{written_start, room_turn, written_turn}
use Rattle.pairs.proofs.record_pairs.Goals as goal

pub loop-i-init : goal.loop-i-init
loop-i-init c = (refl, written_start 0 0 (row_lines c.args.counts.now c.args.choice.now) c.args.log.now c.args.p (omega arith))

pub record_row-q-requires-clause-log_room : goal.record_row-q-requires-clause-log_room
record_row-q-requires-clause-log_room c =
    room_turn 0 (length c.args.choice.now) c.loop-i.i (row_lines c.args.counts.now c.args.choice.now) (omega arith) (omega arith) c.requires.log_room c.loop-i.invariant.1

pub loop-i-preserved : goal.loop-i-preserved
loop-i-preserved c = (
  c.record_row-q.ensures.kept ∙ c.loop-i.invariant.0,
  written_turn 0 c.loop-i.i (row_lines c.args.counts.now c.args.choice.now) (omega arith) c.loop-i.invariant.1 c.record_row-q.ensures.written,
)
