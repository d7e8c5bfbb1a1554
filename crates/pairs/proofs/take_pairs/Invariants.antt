use Rattle.pairs.proofs.Taking.{GoneThrough}
use Rattle.pairs.proofs.take_pairs.Given as goal

abbrev pub invariant-loop-l : goal.invariant-loop-l
invariant-loop-l l = GoneThrough l.choice l.places l.end l.newest l.initial.work l.initial.counts l.work l.counts l.l-index
