use Rattle.std.proofs.Common.{arith, rules}
use Rattle.theory_base.proofs.Digits.{count_one, count_more}
use Rattle.text.proofs.Output.{number_length}
use Rattle.text.proofs.digit_count.Goals as goal

pub overflow_add-count : goal.overflow_add-count
overflow_add-count c = omega (arith, number_length c.args.n (search rules))

pub loop-m-preserved : goal.loop-m-preserved
loop-m-preserved c = omega (arith, count_more c.loop-m.m (search rules))

pub returns : goal.returns
returns c = omega (arith, count_one c.loop-m.m (search rules))
