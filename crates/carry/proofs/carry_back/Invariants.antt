-- Invariant: carrying over the lines before `end` gives the whole (Carrying).
use Rattle.carry.specs.declared.Direction.TheVariants.{Back}
use Prim.Native.Nat.{◌≤◌}
use lib.ListN.{length, take}
use Rattle.carry.proofs.Carrying.{Carrying}
use Rattle.carry.proofs.carry_back.Given as goal

abbrev pub invariant-loop-end : goal.invariant-loop-end
invariant-loop-end l = (l.end ≤ length l.lines) × Carrying Back l.lines l.initial.marks l.marks (take l.end l.lines)

abbrev pub decreases-loop-end : goal.decreases-loop-end
decreases-loop-end l = l.end
