-- Invariant: the variables of the literals gone through are marked where the table has both signs.
use lib.ListN.{take}
use Rattle.pass_clashes.specs.Marking.{MarkedBoth}
use Rattle.pass_clashes.proofs.mark_variables.Given as goal

abbrev pub invariant-loop-l : goal.invariant-loop-l
invariant-loop-l l = MarkedBoth l.initial.marks l.table (take l.l-index l.clause) l.marks
