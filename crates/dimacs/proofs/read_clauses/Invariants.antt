-- The clauses kept so far fill the store, and the rest of the words gives the whole. That the sums fit follows from the invariant one clause
-- further.
use Rattle.dimacs.specs.Limits.{limits_of}
use Rattle.dimacs.proofs.Reading.{Reading}
use Rattle.dimacs.proofs.read_clauses.Given as goal

abbrev pub invariant-loop-done : goal.invariant-loop-done
invariant-loop-done l = Reading (limits_of l.most) l.counts l.text l.initial.store l.reader l.store l.at l.done l.total l.filled
