use Rattle.lookup.specs.Cursors.{Latest}
use Rattle.lookup.proofs.latest.Given as goal

abbrev pub invariant-loop-cursor : goal.invariant-loop-cursor
invariant-loop-cursor l = Latest l.cursor-index l.cursors l.most
