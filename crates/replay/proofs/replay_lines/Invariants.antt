use Prim.Native.Nat.{◌-◌}
use Rattle.replay.proofs.Replaying.{Replaying}
use Rattle.replay.proofs.replay_lines.Given as goal

abbrev pub invariant-loop-at : goal.invariant-loop-at
invariant-loop-at l = Replaying l.initial.work l.work l.heads l.lines l.layout l.end l.at

abbrev pub decreases-loop-at : goal.decreases-loop-at
decreases-loop-at l = l.layout.store - l.at
