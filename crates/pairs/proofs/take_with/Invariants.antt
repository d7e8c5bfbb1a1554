use Rattle.pairs.proofs.Taking.{ReadingPairs}
use Rattle.pairs.proofs.take_with.Given as goal

abbrev pub invariant-loop-node : goal.invariant-loop-node
invariant-loop-node l = ReadingPairs l.l l.places l.end l.newest l.initial.work l.initial.counts l.work l.counts l.node

abbrev pub decreases-loop-node : goal.decreases-loop-node
decreases-loop-node l = l.node
