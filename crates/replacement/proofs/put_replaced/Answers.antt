use Prim.Native.Nat.{◌+◌}
use native.Mathlib.Omega.{arith}
use lib.IntN.{pos}
use lib.ListN.{get_or, take, drop}
use borrow.Author.Rules.{rules}
use mir.Syntax.{w32}
use mir.Val.{SFits}
use Rattle.replacement.specs.Replaced.{choice_in}
use Rattle.literals.proofs.Laws.{answer}
use Rattle.tables.specs.Places.{place_in}
use Rattle.tables.proofs.Places.{place_within}
use Rattle.replacement.proofs.Replaced.{instead, replaced_each}
use Rattle.replacement.proofs.Writing.{instead_arg, writing_start, writing_room, writing_step, writing_end}
use Rattle.replacement.proofs.put_replaced.Goals as goal

pub loop-i-init : goal.loop-i-init
loop-i-init c =
    writing_start (instead (choice_in c.args.choice.now)) c.args.work.now
    c.args.to c.args.from c.args.n

pub put_instead-end-requires : goal.put_instead-end-requires
put_instead-end-requires c =
    let k = choice_in c.args.choice.now in
    let x = get_or c.loop-i.work (c.args.from + c.loop-i.i) (pos 0) in
    let f : SFits w32 x = search rules in
    let e = instead_arg k c.requires.n_bound.1.0 x c.place_of-place.result f c.place_of-place.ensures in record {
      place_bound = (
        omega (
          arith,
          answer (place_in c.args.choice.now.places.now) x f c.place_of-place.ensures,
          place_within c.requires.n_bound.1.0 x,
          c.requires.n_bound.1.1.few,
        ),
        omega (arith, c.requires.n_bound.1.1.new),
      );
      place_in_bounds = writing_room c.loop-i.invariant c.loop-i-test.true c.requires.n_bound.0 (omega (arith, c.requires.work_in_bounds)) e
          (rw (replaced_each k (take c.args.n (drop c.args.from c.args.work.now)))
          c.requires.work_in_bounds);
    }

pub loop-i-preserved : goal.loop-i-preserved
loop-i-preserved c =
    let k = choice_in c.args.choice.now in
    let x = get_or c.loop-i.work (c.args.from + c.loop-i.i) (pos 0) in
    let f : SFits w32 x = search rules in
    let e = instead_arg k c.requires.n_bound.1.0 x c.place_of-place.result f c.place_of-place.ensures in
    writing_step c.loop-i.invariant c.loop-i-test.true c.requires.n_bound.0 (omega (arith, c.requires.work_in_bounds)) e
    c.put_instead-end.ensures.next c.put_instead-end.ensures.written

pub returns : goal.returns
returns c =
    let done = rw
    (replaced_each (choice_in c.args.choice.now)
    (take c.args.n (drop c.args.from c.args.work.now))) at
    (writing_end c.loop-i.invariant c.loop-i-test.false) in record { next = done.0; written = done.1 }
