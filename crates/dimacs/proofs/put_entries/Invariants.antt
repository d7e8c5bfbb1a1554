use Rattle.dimacs.proofs.FormulaText.{Written}
use Rattle.dimacs.proofs.put_entries.Given as goal

abbrev pub invariant-loop-clause : goal.invariant-loop-clause
invariant-loop-clause l = Written l.initial.buf l.from l.store l.clause-iterator l.end l.buf
