use borrow.Author.Rules.{rules}
use mathlib.Core.Path.{refl, ap}
use native.Mathlib.Omega.{arith}
use lib.ListN.{get_or, set, length}
use lib.IntN.{ℤ, pos}
use Rattle.literals.proofs.Laws.{at_arg}
use Rattle.pass_clashes.proofs.Copying.{without_same, without_other}
use Rattle.pass_clashes.proofs.copy_one.Goals as goal

pub returns-then-gone-l : goal.returns-then-gone-l
returns-then-gone-l c =
    let e = without_same c.args.gone (get_or c.args.work.now c.args.from (pos 0)) c.ranges.gone (search rules) c.if-gone-l.true in
    record { next = rw e (omega arith); copied = rw e refl }

pub bounds-work-to : goal.bounds-work-to
bounds-work-to c =
    let e = without_other c.args.gone (get_or c.args.work.now c.args.from (pos 0)) c.ranges.gone (search rules) c.if-gone-l.false in
    omega (arith, c.requires.1, ap length e)

pub returns : goal.returns
returns c =
    let x = get_or c.args.work.now c.args.from (pos 0) in
    let e = without_other c.args.gone x c.ranges.gone (search rules) c.if-gone-l.false in
    record {
      next = rw e refl;
      copied = rw e (at_arg (λ (z : ℤ). set c.args.work.now c.args.to z) x (search rules));
    }
