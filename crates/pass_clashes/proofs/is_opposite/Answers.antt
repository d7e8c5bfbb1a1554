use borrow.Author.Rules.{rules}
use Rattle.pass_clashes.proofs.Opposed.{opposite_gone, opposite_kept}
use Rattle.pass_clashes.proofs.is_opposite.Goals as goal

pub returns-then-gone-l : goal.returns-then-gone-l
returns-then-gone-l c = opposite_kept c.args.table.now c.args.gone c.args.l c.ranges.gone c.ranges.l c.if-gone-l.true c.is_pure.ensures

pub returns-else-gone-l : goal.returns-else-gone-l
returns-else-gone-l c = let e = opposite_gone c.args.table.now c.args.gone c.args.l c.ranges.gone c.ranges.l c.if-gone-l.false in search rules
