use Rattle.lookup.proofs.Cursors.{Stepping}
use Rattle.lookup.proofs.step_cursors.Given as goal

abbrev pub invariant-loop-cursor : goal.invariant-loop-cursor
invariant-loop-cursor l = Stepping l.work l.next l.initial.cursors l.cursor-index l.cursors
