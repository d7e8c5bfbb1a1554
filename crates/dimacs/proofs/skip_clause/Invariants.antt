-- The words read so far change nothing in what follows.
use Prim.Native.Nat.{◌-◌}
use lib.ListN.{length}
use Rattle.dimacs.proofs.Gathering.{Skipping}
use Rattle.dimacs.proofs.skip_clause.Given as goal

abbrev pub invariant-loop-word : goal.invariant-loop-word
invariant-loop-word l = Skipping l.variables l.text l.from l.at

abbrev pub decreases-loop-word : goal.decreases-loop-word
decreases-loop-word l = length l.text - l.at
