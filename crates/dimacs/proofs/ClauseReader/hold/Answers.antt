use lib.IntN.{ℤ}
use Rattle.literals.proofs.Laws.{at_arg}
use Rattle.dimacs.proofs.Gathering.{hold_opposed, hold_new}
use Rattle.dimacs.proofs.ClauseReader.hold.Goals as goal

pub returns-in-Opposed : goal.returns-in-Opposed
returns-in-Opposed c = λ old here h. hold_opposed h (at_arg (λ (z : ℤ). z) c.args.l c.ranges.l) _ (c.in-Opposed.ensures here h.marks)

pub returns-in-New : goal.returns-in-New
returns-in-New c = λ old here h. hold_new h (at_arg (λ (z : ℤ). z) c.args.l c.ranges.l) _ (c.in-New.ensures here h.marks) c.requires.fit c.put.ensures
