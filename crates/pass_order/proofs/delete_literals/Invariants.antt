use lib.ListN.{length}
use Rattle.definition.specs.Order.{deletions_of}
use Rattle.replacement.specs.Replaced.{choice_in}
use Rattle.pass_order.proofs.Deleting.{Deleting}
use Rattle.pass_order.proofs.delete_literals.Given as goal

abbrev pub invariant-loop-i : goal.invariant-loop-i
invariant-loop-i l = Deleting (deletions_of (choice_in l.choice)) (length l.choice.literals.now) l.initial.work l.newest l.initial.log l.initial.q l.i l.work l.log l.q
