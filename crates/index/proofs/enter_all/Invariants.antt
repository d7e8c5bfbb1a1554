use Prim.Native.Nat.{◌-◌}
use Rattle.index.proofs.Filling.{Filling}
use Rattle.index.proofs.enter_all.Given as goal

abbrev pub invariant-loop-at : goal.invariant-loop-at
invariant-loop-at l = Filling l.initial.work l.end l.work l.newest l.at

abbrev pub decreases-loop-at : goal.decreases-loop-at
decreases-loop-at l = l.end - l.at
