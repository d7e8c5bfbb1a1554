-- Invariant: the choices among the clauses gone through are in the list (Laws, Collecting).
use lib.ListN.{length}
use Rattle.store.specs.Store.{stored}
use Rattle.pass_choose.proofs.Laws.{Collecting}
use Rattle.pass_choose.proofs.collect_all.Given as goal

abbrev pub invariant-loop-clause : goal.invariant-loop-clause
invariant-loop-clause l = Collecting (stored l.store) l.clause-iterator (length l.initial.chosen) l.end l.chosen
