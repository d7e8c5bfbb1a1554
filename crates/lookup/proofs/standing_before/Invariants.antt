use Rattle.lookup.proofs.Cursors.{Moving}
use Rattle.lookup.proofs.standing_before.Given as goal

abbrev pub invariant-loop-t : goal.invariant-loop-t
invariant-loop-t l = Moving l.work l.node l.before l.t

abbrev pub decreases-loop-t : goal.decreases-loop-t
decreases-loop-t l = l.t
