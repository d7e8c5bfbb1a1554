use Rattle.progress.proofs.Writing.{Others}
use Rattle.progress.proofs.put_others.Given as goal

abbrev pub invariant-loop-l : goal.invariant-loop-l
invariant-loop-l l = Others l.initial.log l.at l.first l.clause l.l-index l.end l.log
