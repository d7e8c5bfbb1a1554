-- The literals read so far are held behind the header's place; the header is stored at the closing 0.
use Prim.Native.Nat.{◌-◌}
use lib.ListN.{length}
use Rattle.dimacs.proofs.Gathering.{Going}
use Rattle.dimacs.proofs.ClauseReader.gather.Given as goal

abbrev pub invariant-loop-word : goal.invariant-loop-word
invariant-loop-word l = Going l.variables l.number l.fn.self.held l.text l.self l.at l.count

abbrev pub decreases-loop-word : goal.decreases-loop-word
decreases-loop-word l = length l.text - l.at
