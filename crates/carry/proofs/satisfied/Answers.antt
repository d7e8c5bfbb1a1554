use mathlib.Core.Path.{◌∙◌, ◌≡◌}
use Rattle.store.proofs.Laws.{formed_next}
use Rattle.answer.specs.Table.{marked}
use Rattle.carry.specs.Carried.{holds_at}
use Rattle.carry.proofs.Carrying.{satisfied_more, satisfied_not, satisfied_end}
use Rattle.carry.proofs.satisfied.Goals as goal

pub loop-at-preserved : goal.loop-at-preserved
loop-at-preserved c =
    let s = c.one_of-store.result.now in
    let at = c.loop-at.at in
    let a = marked c.args.marks.now in
    let h : c.holds_at.result ≡ holds_at a s at = rw c.one_of-store.ensures c.holds_at.ensures in
    let f = formed_next s at c.loop-at-test.true c.loop-at.invariant.1 in
    rw c.next_at-at.ensures
    (f.0, f.1, satisfied_more a s at c.loop-at-test.true c.holds_at.result h c.if-not-holds_at.false ∙ c.loop-at.invariant.2)

pub returns-then-not-holds_at : goal.returns-then-not-holds_at
returns-then-not-holds_at c =
    let s = c.one_of-store.result.now in
    let at = c.loop-at.at in
    let a = marked c.args.marks.now in
    let h : c.holds_at.result ≡ holds_at a s at = rw c.one_of-store.ensures c.holds_at.ensures in
    rw c.one_of-store.ensures at
    (satisfied_not a s at c.loop-at-test.true c.holds_at.result h c.if-not-holds_at.true ∙ c.loop-at.invariant.2)

pub returns : goal.returns
returns c =
    rw c.one_of-store.ensures at
    (satisfied_end (marked c.args.marks.now) c.one_of-store.result.now c.loop-at.at c.loop-at-test.false ∙ c.loop-at.invariant.2)
