use native.Mathlib.Omega.{arith}
use mathlib.Core.Path.{refl}
use borrow.Author.Rules.{sfits_of}
use Rattle.literals.specs.Literal.{negative}
use Rattle.literals.proofs.Laws.{answered}
use Rattle.store.specs.Store.{header_at}
use Rattle.store.proofs.Laws.{formed_next}
use Rattle.run.proofs.Turns.{none_taken, one_takeable, one_small, one_taken}
use Rattle.run.proofs.take_at.Goals as goal

pub returns-then-is_negative : goal.returns-then-is_negative
returns-then-is_negative c =
    record {
      taken = none_taken c.requires.0 c.args.log.now
          (answered negative (header_at c.args.chosen.now c.args.at)
          (sfits_of c.is_negative-arg-1.given) c.is_negative.ensures c.if-is_negative.true);
      indexed = c.requires.1;
      lent = c.requires.2;
    }

pub next_below-below-requires : goal.next_below-below-requires
next_below-below-requires c = (c.requires.0.step_least, omega (arith, c.requires.0.low, c.requires.0.step_most))

pub slice_bounds-literals-end : goal.slice_bounds-literals-end
slice_bounds-literals-end c =
    omega (
      arith,
      c.next_at-next.ensures,
      (formed_next c.args.chosen.now c.args.at c.requires.0.at_inside c.requires.0.rest).0,
    )

pub take_one-p-requires : goal.take_one-p-requires
take_one-p-requires c = (
  one_takeable c.requires.0 c.next_at-next.result c.next_below-below.result
      (answered negative (header_at c.args.chosen.now c.args.at)
      (sfits_of c.is_negative-arg-1.given) c.is_negative.ensures c.if-is_negative.false) c.next_at-next.ensures
      c.next_below-below.ensures,
  c.requires.1,
  c.requires.2,
)

pub overflow_add-result : goal.overflow_add-result
overflow_add-result c = omega (arith, c.requires.0.few)

pub overflow_sub-result-2 : goal.overflow_sub-result-2
overflow_sub-result-2 c =
    omega (
      arith,
      (one_small c.requires.0 c.next_at-next.result
          (answered negative (header_at c.args.chosen.now c.args.at)
          (sfits_of c.is_negative-arg-1.given) c.is_negative.ensures c.if-is_negative.false) c.next_at-next.ensures).0,
    )

pub overflow_add-result-2 : goal.overflow_add-result-2
overflow_add-result-2 c =
    let o = one_small c.requires.0 c.next_at-next.result
    (answered negative (header_at c.args.chosen.now c.args.at) (sfits_of c.is_negative-arg-1.given)
    c.is_negative.ensures c.if-is_negative.false) c.next_at-next.ensures in
    omega (arith, o.1, o.2, c.next_below-below.ensures)

pub returns : goal.returns
returns c =
    record {
      taken = one_taken c.requires.0 c.next_at-next.result
          (answered negative (header_at c.args.chosen.now c.args.at)
          (sfits_of c.is_negative-arg-1.given) c.is_negative.ensures c.if-is_negative.false) c.next_at-next.ensures
          c.next_below-below.result _ c.next_below-below.ensures refl c.take_one-p.ensures.runs;
      indexed = c.take_one-p.ensures.indexed;
      lent = c.take_one-p.ensures.lent;
    }
