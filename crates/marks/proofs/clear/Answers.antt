use borrow.Author.Rules.{rules}
use Rattle.marks.proofs.Words.{and_without_mark, past_without_mark}
use Rattle.marks.proofs.clear.Goals as goal

pub returns-then-w-marks : goal.returns-then-w-marks
returns-then-w-marks c = and_without_mark c.args.marks.now c.args.v c.word_of-w.result c.mark_of.result c.word_of-w.ensures c.mark_of.ensures (search rules)

pub returns-else-w-marks : goal.returns-else-w-marks
returns-else-w-marks c = past_without_mark c.args.marks.now c.args.v c.word_of-w.result c.word_of-w.ensures (search rules)
