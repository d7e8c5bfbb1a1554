use mathlib.Core.Path.{sym, ◌∙◌}
use lib.IntN.{pos}
use Rattle.definition.specs.Literals.{holds}
use Rattle.theory_base.proofs.Slices.{all_more, all_miss, all_end}
use Rattle.store.proofs.all_in.Goals as goal

pub returns-then-not-holds : goal.returns-then-not-holds
returns-then-not-holds c = all_miss (λ l. holds l c.args.b.now) c.args.a.now c.loop-l.l-index (pos 0) c.loop-l-test.true (sym c.holds.ensures ∙ c.if-not-holds.true) ∙ c.loop-l.invariant

pub loop-l-preserved : goal.loop-l-preserved
loop-l-preserved c = all_more (λ l. holds l c.args.b.now) c.args.a.now c.loop-l.l-index (pos 0) c.loop-l-test.true (sym c.holds.ensures ∙ c.if-not-holds.false) ∙ c.loop-l.invariant

pub returns : goal.returns
returns c = all_end (λ l. holds l c.args.b.now) c.args.a.now c.loop-l.l-index c.loop-l-test.false ∙ c.loop-l.invariant
