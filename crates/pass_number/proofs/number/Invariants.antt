use Rattle.store.specs.Store.{stored}
use Rattle.pass_number.proofs.Turns.{Turns}
use Rattle.pass_number.proofs.number.Given as goal

abbrev pub invariant-loop-literals : goal.invariant-loop-literals
invariant-loop-literals l = Turns l.g (stored l.chosen) l.weights l.initial.rows l.highest l.rows l.m l.literals-iterator
