use Prim.Native.Nat.{◌-◌}
use lib.ListN.{length}
use Rattle.store.proofs.Sliding.{Sliding}
use Rattle.store.proofs.compact.Given as goal

abbrev pub invariant-loop-from : goal.invariant-loop-from
invariant-loop-from l = Sliding l.initial.store l.store l.to l.from

abbrev pub decreases-loop-from : goal.decreases-loop-from
decreases-loop-from l = length l.initial.store - l.from
