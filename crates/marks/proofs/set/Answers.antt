use borrow.Author.Rules.{rules}
use Rattle.marks.proofs.Words.{or_with_mark}
use Rattle.marks.proofs.set.Goals as goal

pub returns : goal.returns
returns c = or_with_mark c.args.marks.now c.args.v c.word_of-w.result c.mark_of.result c.word_of-w.ensures
    c.mark_of.ensures (search rules)
