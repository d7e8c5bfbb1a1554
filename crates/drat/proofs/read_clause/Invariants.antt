use mathlib.Core.Path.{◌≡◌}
use Prim.Native.Nat.{◌-◌}
use lib.ListN.{length}
use Rattle.drat.proofs.Clause.{Reading}
use Rattle.drat.proofs.read_clause.Given as goal

abbrev pub invariant-loop-word : goal.invariant-loop-word
invariant-loop-word l = (length l.seen ≡ length l.initial.seen) × Reading l.text l.from l.stamp l.at l.count l.highest l.seen l.initial.store l.to l.store

abbrev pub decreases-loop-word : goal.decreases-loop-word
decreases-loop-word l = length l.text - l.at
