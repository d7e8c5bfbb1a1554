use native.Mathlib.Omega.{arith}
use Rattle.lookup.proofs.Cursors.{stepping_moved, stepping_kept}
use Rattle.lookup.proofs.step_cursors.Goals as goal
use Rattle.lookup.proofs.step_cursors.Goals.{then-cursor-next, else-cursor-next}

pub loop-cursor-preserved : goal.loop-cursor-preserved
loop-cursor-preserved c =
    elim c.if-cursor-next.branch [
      | then-cursor-next w ↦ rw w.cursors-is (stepping_moved c.loop-cursor-test.true c.loop-cursor.invariant (omega arith) w.cursor_before.ensures)
      | else-cursor-next w ↦ rw w.cursors-is (stepping_kept c.loop-cursor-test.true c.loop-cursor.invariant w.if-cursor-next.false)
    ]
