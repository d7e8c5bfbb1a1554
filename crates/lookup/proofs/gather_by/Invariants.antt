use Rattle.lookup.proofs.Gathering.{Gathered}
use Rattle.lookup.proofs.gather_by.Given as goal

abbrev pub invariant-loop-next : goal.invariant-loop-next
invariant-loop-next l = Gathered l.work l.end l.start l.choice l.list l.cursors l.to l.next

abbrev pub decreases-loop-next : goal.decreases-loop-next
decreases-loop-next l = l.next
