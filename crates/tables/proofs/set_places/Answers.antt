use Rattle.std.proofs.Common.{rules, ◌∙◌}
use Rattle.tables.proofs.Places.{numbers_step}
use Rattle.tables.proofs.set_places.Goals as goal

pub loop-i-preserved : goal.loop-i-preserved
loop-i-preserved c = let e = numbers_step c.loop-i.table c.args.clause.now c.loop-i.i c.loop-i-test.true ∙ c.loop-i.invariant in search rules
