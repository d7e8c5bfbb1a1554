use Rattle.std.proofs.Common.{rules, ◌∙◌}
use Rattle.tables.proofs.Counting.{tally_step}
use Rattle.tables.proofs.count_clause.Goals as goal

pub loop-l-preserved : goal.loop-l-preserved
loop-l-preserved c = let e = tally_step c.loop-l.table c.args.clause.now c.loop-l.l-index c.loop-l-test.true ∙ c.loop-l.invariant in search rules
