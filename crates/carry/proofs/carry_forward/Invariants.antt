-- Invariant: carrying over the lines from `at` on gives the whole (Carrying).
use Rattle.carry.specs.declared.Direction.TheVariants.{Forward}
use Prim.Native.Nat.{◌-◌}
use lib.ListN.{length, drop}
use Rattle.carry.proofs.Carrying.{Carrying}
use Rattle.carry.proofs.carry_forward.Given as goal

abbrev pub invariant-loop-at : goal.invariant-loop-at
invariant-loop-at l = Carrying Forward l.lines l.initial.marks l.marks (drop l.at l.lines)

abbrev pub decreases-loop-at : goal.decreases-loop-at
decreases-loop-at l = length l.lines - l.at
