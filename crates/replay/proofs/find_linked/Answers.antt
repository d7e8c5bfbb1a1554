use borrow.Author.Rules.{sfits_of}
use mathlib.Core.Path.{◌≡◌, ap}
use Prim.Native.Nat.{ℕ, suc, ◌-◌}
use native.Mathlib.Omega.{arith}
use lib.ListN.{get_or}
use Rattle.literals.specs.Literal.{header_literals}
use Rattle.literals.proofs.Laws.{answer}
use Rattle.store.specs.Store.{header_at}
use Rattle.replay.proofs.Index.{walking_start, led_inside, led_place, led_back, walking_step, walking_end}
use Rattle.replay.proofs.find_linked.Goals as goal

pub loop-p-init : goal.loop-p-init
loop-p-init c =
    walking_start c.args.clause.now c.args.store.now c.args.links.now
    c.args.heads.now _ c.requires.0 c.requires.3
    (ap (λ (k : ℕ). get_or c.args.heads.now k 0) c.key_of.ensures.key)

pub better-best-requires : goal.better-best-requires
better-best-requires c =
    let a = c.loop-p.p - 1 in
    let e : c.loop-p.p ≡ suc a = omega (arith, c.loop-p-test.true) in (
      led_inside c.args.clause.now c.args.store.now c.loop-p.p c.loop-p.best c.loop-p.invariant a e,
      (led_place c.args.clause.now c.args.store.now c.loop-p.p c.loop-p.best c.loop-p.invariant a e).rest,
    )

pub offset_bounds-links-at : goal.offset_bounds-links-at
offset_bounds-links-at c =
    let a = c.loop-p.p - 1 in
    let e : c.loop-p.p ≡ suc a = omega (arith, c.loop-p-test.true) in
    omega (
      arith,
      c.requires.1,
      led_inside c.args.clause.now c.args.store.now c.loop-p.p c.loop-p.best c.loop-p.invariant a e,
    )

pub bounds-links-at : goal.bounds-links-at
bounds-links-at c =
    let a = c.loop-p.p - 1 in
    let e : c.loop-p.p ≡ suc a = omega (arith, c.loop-p-test.true) in
    omega (
      arith,
      c.requires.1,
      led_inside c.args.clause.now c.args.store.now c.loop-p.p c.loop-p.best c.loop-p.invariant a e,
    )

pub loop-p-smaller : goal.loop-p-smaller
loop-p-smaller c =
    let a = c.loop-p.p - 1 in
    let e : c.loop-p.p ≡ suc a = omega (arith, c.loop-p-test.true) in
    let n = answer header_literals (header_at c.args.links.now a)
    (sfits_of c.header_length-arg-1.given) c.header_length-p.ensures in
    omega (
      arith,
      led_back c.args.clause.now c.args.store.now c.loop-p.p c.loop-p.best c.loop-p.invariant a e
          c.args.links.now c.args.heads.now c.header_length-p.result c.requires.3 n,
    )

pub loop-p-preserved : goal.loop-p-preserved
loop-p-preserved c =
    let a = c.loop-p.p - 1 in
    let e : c.loop-p.p ≡ suc a = omega (arith, c.loop-p-test.true) in
    let n = answer header_literals (header_at c.args.links.now a)
    (sfits_of c.header_length-arg-1.given) c.header_length-p.ensures in
    walking_step c.args.clause.now c.args.store.now c.loop-p.p c.loop-p.best c.loop-p.invariant a e
    c.args.links.now c.args.heads.now c.header_length-p.result c.better-best.result c.requires.3 n
    c.better-best.ensures

pub returns : goal.returns
returns c =
    walking_end c.args.clause.now c.args.store.now c.loop-p.p c.loop-p.best c.loop-p.invariant
    (omega (arith, c.loop-p-test.false))
