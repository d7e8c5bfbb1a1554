use mathlib.Core.Path.{◌≡◌}
use Prim.Native.Nat.{◌-◌, ◌≤◌}
use lib.ListN.{length, drop}
use Rattle.store.specs.Store.{Formed, place_from, place_of}
use Rattle.store.proofs.find_same_set.Given as goal

abbrev pub invariant-loop-at : goal.invariant-loop-at
invariant-loop-at l = (l.at ≤ length l.store) × Formed (drop l.at l.store) × (place_from l.clause 0 l.at (drop l.at l.store) ≡ place_of l.clause l.store)

abbrev pub decreases-loop-at : goal.decreases-loop-at
decreases-loop-at l = length l.store - l.at
