use mathlib.Core.Path.{◌≡◌}
use Prim.Native.Nat.{◌-◌, ◌≤◌}
use lib.ListN.{length, drop}
use Rattle.definition.specs.Assignments.{satisfies}
use Rattle.store.specs.Store.{Formed, stored}
use Rattle.answer.specs.Table.{marked}
use Rattle.carry.proofs.satisfied.Given as goal

abbrev pub invariant-loop-at : goal.invariant-loop-at
invariant-loop-at l = (l.at ≤ length l.store) × Formed (drop l.at l.store) × (satisfies (marked l.marks) (stored (drop l.at l.store)) ≡ satisfies (marked l.marks) (stored l.store))

abbrev pub decreases-loop-at : goal.decreases-loop-at
decreases-loop-at l = length l.store - l.at
