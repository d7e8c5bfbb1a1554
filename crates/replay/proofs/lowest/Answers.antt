use borrow.Author.Rules.{rules}
use Rattle.std.proofs.iter.runs.Made.{chains}
use Rattle.replay.proofs.Index.{lowest_is}
use Rattle.replay.proofs.lowest.Goals as goal

pub returns : goal.returns
returns c = rw (← lowest_is c.args.clause.now) (search (rules, chains))
