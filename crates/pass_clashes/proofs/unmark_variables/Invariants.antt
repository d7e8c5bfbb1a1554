-- Invariant: the marks of the literals gone through are cleared.
use lib.ListN.{take}
use Rattle.pass_clashes.specs.Marking.{Unmarked}
use Rattle.pass_clashes.proofs.unmark_variables.Given as goal

abbrev pub invariant-loop-l : goal.invariant-loop-l
invariant-loop-l l = Unmarked l.initial.marks (take l.l-index l.clause) l.marks
