use Rattle.std.proofs.Common.{rules, arith}
use Rattle.answer.specs.Table.{marked}
use Rattle.answer.proofs.Output.{values_start, values_step, values_length}
use Rattle.answer.proofs.put_values.Goals as goal

pub loop-i-init : goal.loop-i-init
loop-i-init c = values_start (marked c.args.marks.now)

pub put_value-a-requires : goal.put_value-a-requires
put_value-a-requires c =
    (omega (arith, values_length (marked c.args.marks.now) c.loop-i.i (search rules), c.loop-i.invariant.next), search rules)

pub loop-i-preserved : goal.loop-i-preserved
loop-i-preserved c = values_step (marked c.args.marks.now) c.loop-i.i c.loop-i.invariant c.put_value-a.ensures
