use Rattle.replacement.specs.Replaced.{choice_in}
use Rattle.replacement.proofs.Replaced.{instead}
use Rattle.replacement.proofs.Writing.{Writing}
use Rattle.replacement.proofs.put_replaced.Given as goal

abbrev pub invariant-loop-i : goal.invariant-loop-i
invariant-loop-i l = Writing (instead (choice_in l.choice)) l.initial.work l.to l.from l.n l.i l.end l.work
