use Rattle.replay.proofs.Index.{Walking}
use Rattle.replay.proofs.find_linked.Given as goal

abbrev pub invariant-loop-p : goal.invariant-loop-p
invariant-loop-p l = Walking l.clause l.store l.p l.best

abbrev pub decreases-loop-p : goal.decreases-loop-p
decreases-loop-p l = l.p
