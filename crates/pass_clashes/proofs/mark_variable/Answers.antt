use lib.IntN.{nat_abs}
use Rattle.literals.proofs.Laws.{answer}
use Rattle.pass_clashes.proofs.Marking.{set_both, not_both}
use Rattle.pass_clashes.proofs.mark_variable.Goals as goal

pub returns-then-is_both : goal.returns-then-is_both
returns-then-is_both c =
    set_both c.args.marks.now c.args.table.now c.args.l
    (answer nat_abs c.args.l c.ranges.l c.variable-v.ensures) c.is_both.ensures c.set.new.marks c.if-is_both.true
    c.set.ensures

pub returns-else-is_both : goal.returns-else-is_both
returns-else-is_both c =
    not_both c.args.marks.now c.args.table.now c.args.l
    (answer nat_abs c.args.l c.ranges.l c.variable-v.ensures)
    c.is_both.ensures c.if-is_both.false
