use Rattle.std.proofs.Common.{rules, sym}
use Rattle.theory_base.proofs.Digits.{digits_one}
use Rattle.text.proofs.Output.{writing_start, writing_step, writing_last, writing_end, put_same}
use Rattle.text.proofs.put_number.Goals as goal

pub loop-k-init : goal.loop-k-init
loop-k-init c = rw c.digit_count.ensures (writing_start c.args.buf.now c.args.at c.args.n)

pub loop-k-preserved : goal.loop-k-preserved
loop-k-preserved c = rw c.put.ensures (writing_step c.loop-k.invariant (search rules))

pub overflow_cast-m-2 : goal.overflow_cast-m-2
overflow_cast-m-2 c = let h = writing_last c.loop-k.invariant (search rules) in search rules

pub overflow_add-m-2 : goal.overflow_add-m-2
overflow_add-m-2 c = let h = writing_last c.loop-k.invariant (search rules) in search rules

pub returns-clause-written : goal.returns-clause-written
returns-clause-written c = rw (c.put-2.ensures, c.digit_count.ensures) (writing_end c.loop-k.invariant (search rules))

pub returns-then-n-lt10-clause-written : goal.returns-then-n-lt10-clause-written
returns-then-n-lt10-clause-written c = put_same c.put_byte.ensures (sym (digits_one c.args.n (search rules)))
