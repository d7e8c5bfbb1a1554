use mathlib.Core.Path.{refl, ◌∙◌}
use Prim.Native.Nat.{suc, ◌-◌}
use native.Mathlib.Omega.{arith}
use lib.ListN.{length}
use Rattle.pairs.specs.Pairs.{cell_lines}
use Rattle.pairs.proofs.Lines.{written_start, room_turn, written_turn}
use Rattle.pairs.proofs.record_row.Goals as goal

pub loop-j-init : goal.loop-j-init
loop-j-init c = (refl, written_start (suc c.args.i) _ (cell_lines c.args.counts.now c.args.choice.now c.args.i) c.args.log.now c.args.p (omega arith))

pub record_cell-q-requires-clause-log_room : goal.record_cell-q-requires-clause-log_room
record_cell-q-requires-clause-log_room c =
    room_turn (suc c.args.i) (length c.args.choice.now - suc c.args.i) c.loop-j.j (cell_lines c.args.counts.now c.args.choice.now c.args.i)
    (omega arith) (omega arith) c.requires.log_room c.loop-j.invariant.1

pub loop-j-preserved : goal.loop-j-preserved
loop-j-preserved c = (
  c.record_cell-q.ensures.kept ∙ c.loop-j.invariant.0,
  written_turn (suc c.args.i) c.loop-j.j (cell_lines c.args.counts.now c.args.choice.now c.args.i) (omega arith) c.loop-j.invariant.1 c.record_cell-q.ensures.written,
)
