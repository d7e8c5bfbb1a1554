use Rattle.std.proofs.Common.{rules, ◌∙◌}
use Rattle.tables.proofs.Laws.{entries_step}
use Rattle.tables.proofs.set_entries.Goals as goal

pub loop-l-preserved : goal.loop-l-preserved
loop-l-preserved c = let e = entries_step c.loop-l.table c.args.clause.now c.loop-l.l-index c.args.value c.loop-l-test.true ∙ c.loop-l.invariant in search rules
