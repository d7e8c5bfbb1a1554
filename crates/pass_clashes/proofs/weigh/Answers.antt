-- The weights taken away and the one left are weights of one table, so together they are no more than all of it (Weighing).
use borrow.Author.Rules.{rules}
use mathlib.Core.Bool.{true, false}
use native.Mathlib.Omega.{arith}
use Rattle.literals.specs.Literal.{signed_of}
use Rattle.literals.proofs.Laws.{answer}
use Rattle.tables.specs.Entries.{entry_of}
use Rattle.pass_clashes.proofs.Weighing.{answers_within}
use Rattle.pass_clashes.proofs.weigh.Goals as goal

pub overflow_add-a-in-Some-2 : goal.overflow_add-a-in-Some-2
overflow_add-a-in-Some-2 c =
    record {
      fits = omega (
        arith,
        c.requires,
        answers_within c.args.weights.now (signed_of false c.args.v) (signed_of true c.args.v)
            c.in-Some.first.now c.take_weight-a.ensures.answer c.take_weight-a.ensures.taken
            c.take_weight-b.ensures.answer c.take_weight-b.ensures.taken
            (answer (entry_of c.take_weight-b.new.weights) c.in-Some.first.now (search rules) c.entry_of-n.ensures),
      );
    }

pub overflow_add-a-in-Some : goal.overflow_add-a-in-Some
overflow_add-a-in-Some c = record { fits = omega (arith, (overflow_add-a-in-Some-2 c).fits) }

pub overflow_add-a : goal.overflow_add-a
overflow_add-a c = record { fits = omega (arith, (overflow_add-a-in-Some-2 c).fits) }
