use borrow.Author.Rules.{rules}
use Rattle.progress.proofs.Writing.{skipped, one_other}
use Rattle.progress.proofs.put_other.Goals as goal

pub returns-then-first-l-clause-written : goal.returns-then-first-l-clause-written
returns-then-first-l-clause-written c = search (rules, skipped)

pub returns-clause-written : goal.returns-clause-written
returns-clause-written c = search (rules, one_other)
