use Rattle.lookup.proofs.Cursors.{Starting}
use Rattle.lookup.proofs.start_cursors.Given as goal

abbrev pub invariant-loop-i : goal.invariant-loop-i
invariant-loop-i l = Starting l.work l.newest l.start l.choice l.i l.cursors
