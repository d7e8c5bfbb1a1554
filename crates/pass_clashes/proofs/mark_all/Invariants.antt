-- Invariant: the clauses gone through are taken in (Marking).
use Rattle.store.specs.Store.{stored}
use Rattle.pass_clashes.proofs.Marking.{Marking}
use Rattle.pass_clashes.proofs.mark_all.Given as goal

abbrev pub invariant-loop-clause : goal.invariant-loop-clause
invariant-loop-clause l = Marking (stored l.store) l.clause-iterator l.table l.marks
