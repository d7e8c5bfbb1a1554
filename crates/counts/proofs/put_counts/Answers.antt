use Rattle.std.proofs.Common.{rules}
use Rattle.counts.proofs.Laws.{overwritten_end}
use Rattle.counts.proofs.put_counts.Goals as goal

pub returns : goal.returns
returns c = overwritten_end c.args.counts.now c.loop-i.tally c.args.tally.now c.loop-i.i c.loop-i.invariant (search rules)
