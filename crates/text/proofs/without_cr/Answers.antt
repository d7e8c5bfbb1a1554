use borrow.Author.Rules.{rules}
use Rattle.theory_text.proofs.TextLines.{trimmed_none}
use Rattle.text.proofs.without_cr.Goals as goal

pub returns : goal.returns
returns c = trimmed_none c.args.text.now c.args.start c.args.end (search rules) (search rules) (search rules)
