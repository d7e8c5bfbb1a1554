use native.Mathlib.Omega.{arith}
use Rattle.answer.specs.Table.{marked}
use Rattle.carry.proofs.Writing.{line_long, line_written}
use Rattle.carry.proofs.write_fitting.Goals as goal

pub returns-then-out-n : goal.returns-then-out-n
returns-then-out-n c =
    line_long c.args.out.now _ c.args.v c.write_answer-n.result (marked c.args.marks.now) c.write_answer-n.ensures
    (omega (arith, c.write_answer-n.auto.buf, c.if-out-n.true))

pub returns : goal.returns
returns c =
    line_written c.args.out.now _ c.args.v c.write_answer-n.result (marked c.args.marks.now) c.write_answer-n.ensures
    (omega (arith, c.write_answer-n.auto.buf, c.if-out-n.false))
