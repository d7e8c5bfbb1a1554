use Rattle.std.proofs.Common.{rules, arith}
use Rattle.definition.specs.Text.{bytes}
use Rattle.answer.specs.Table.{marked}
use Rattle.answer.proofs.Output.{values_length, line_written}
use Rattle.answer.proofs.write_answer.Goals as goal

pub put_text-requires : goal.put_text-requires
put_text-requires c = omega (arith, values_length (marked c.args.marks.now) c.args.v (search rules), c.put_byte-a.ensures.next, c.put_values-b.ensures.next)

pub returns : goal.returns
unfolding bytes
returns c = line_written (marked c.args.marks.now) c.args.v c.put_byte-a.ensures c.put_values-b.ensures c.put_text.ensures
