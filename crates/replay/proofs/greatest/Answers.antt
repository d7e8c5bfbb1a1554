use borrow.Author.Rules.{rules}
use Rattle.std.proofs.iter.runs.Made.{chains}
use Rattle.replay.proofs.Index.{greatest_is}
use Rattle.replay.proofs.greatest.Goals as goal

pub returns : goal.returns
returns c = rw (← greatest_is c.args.clause.now) (search (rules, chains))
