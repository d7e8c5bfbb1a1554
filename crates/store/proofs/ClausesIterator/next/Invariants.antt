use mathlib.Core.Path.{◌≡◌}
use Prim.Native.Nat.{◌-◌}
use lib.ListN.{length, drop}
use Rattle.store.specs.Store.{Formed, stored}
use Rattle.store.proofs.ClausesIterator.next.Given as goal

abbrev pub invariant-loop-self : goal.invariant-loop-self
invariant-loop-self l = Formed (drop l.self-inside.at l.self-inside.store.now) × (stored (drop l.self-inside.at l.self-inside.store.now) ≡ l.fn.self)

abbrev pub decreases-loop-self : goal.decreases-loop-self
decreases-loop-self l = length l.self-inside.store.now - l.self-inside.at
