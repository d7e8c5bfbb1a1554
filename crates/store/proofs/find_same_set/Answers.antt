use mathlib.Core.Path.{sym, ◌∙◌}
use Rattle.store.proofs.Laws.{formed_next}
use Rattle.store.proofs.Finding.{place_hit, place_miss, place_nowhere}
use Rattle.store.proofs.find_same_set.Goals as goal

pub returns-then-matches : goal.returns-then-matches
returns-then-matches c = place_hit c.args.store.now c.loop-at.at c.loop-at-test.true c.args.clause.now
    (sym c.matches.ensures ∙ c.if-matches.true)
    ∙ c.loop-at.invariant.2

pub loop-at-preserved : goal.loop-at-preserved
loop-at-preserved c = let f = formed_next c.args.store.now c.loop-at.at c.loop-at-test.true c.loop-at.invariant.1 in
    rw c.next_at-at.ensures (
      f.0,
      f.1,
      place_miss c.args.store.now c.loop-at.at c.loop-at-test.true c.args.clause.now
          (sym c.matches.ensures ∙ c.if-matches.false)
          ∙ c.loop-at.invariant.2,
    )

pub returns : goal.returns
returns c = place_nowhere c.args.clause.now c.args.store.now c.loop-at.at c.loop-at-test.false ∙ c.loop-at.invariant.2
