use lib.IntN.{pos}
use lib.ListN.{get_or}
use Rattle.lookup.proofs.Finding.{Searched}
use Rattle.lookup.proofs.find.Given as goal

abbrev pub invariant-loop-node : goal.invariant-loop-node
invariant-loop-node l = Searched l.clause l.work l.end l.newest (get_or l.clause 0 (pos 0)) l.node l.best

abbrev pub decreases-loop-node : goal.decreases-loop-node
decreases-loop-node l = l.node
