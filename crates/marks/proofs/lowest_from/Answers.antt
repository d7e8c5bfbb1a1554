use borrow.Author.Rules.{rules}
use Rattle.marks.proofs.Words.{lowest_nothing}
use Rattle.marks.proofs.lowest_from.Goals as goal

pub returns : goal.returns
returns c = lowest_nothing c.args.marks.now c.args.from c.loop-w.w (search rules) c.loop-w.invariant (search rules)
