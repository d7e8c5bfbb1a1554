use Prim.Native.Nat.{◌-◌}
use Rattle.replay.proofs.Indexing.{Indexing}
use Rattle.replay.proofs.index_all.Given as goal

abbrev pub invariant-loop-at : goal.invariant-loop-at
invariant-loop-at l = Indexing l.initial.work l.work l.heads l.layout l.at

abbrev pub decreases-loop-at : goal.decreases-loop-at
decreases-loop-at l = l.layout.end - l.layout.store - l.at
