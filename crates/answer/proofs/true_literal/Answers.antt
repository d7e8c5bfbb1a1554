use Rattle.std.proofs.Common.{nat_abs}
use Rattle.literals.specs.Literal.{negative}
use Rattle.literals.proofs.Laws.{answer}
use Rattle.answer.proofs.Table.{true_by_sign}
use Rattle.answer.proofs.true_literal.Goals as goal

pub returns : goal.returns
returns c = let l = c.args.l in let f = c.ranges.l in
    rw (c.entry_at-named_true.ensures, answer nat_abs l f c.variable.ensures, answer negative l f c.is_negative.ensures) (true_by_sign c.args.marks.now l)
