use Rattle.index.proofs.Entering.{Entering}
use Rattle.index.proofs.enter.Given as goal

abbrev pub invariant-loop-i : goal.invariant-loop-i
invariant-loop-i l = Entering l.initial.work l.initial.newest l.at l.next l.work l.newest l.i
