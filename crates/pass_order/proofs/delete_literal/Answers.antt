use borrow.Author.Rules.{rules}
use native.Mathlib.Omega.{arith}
use Prim.Native.Nat.{◌-◌}
use mir.Syntax.{w32}
use mir.Val.{SFits}
use lib.IntN.{pos}
use lib.ListN.{get_or}
use Rattle.literals.specs.Literal.{negation}
use Rattle.literals.proofs.Laws.{answer}
use Rattle.pass_order.specs.Order.{Deletes}
use Rattle.pass_order.proofs.Deleting.{second, literal_reach, negated_reach, first_deletable, second_deletable, second_deletes, second_none, third_deletable, third_deletes, third_none}
use Rattle.pass_order.proofs.delete_literal.Goals as goal
use Rattle.pass_order.proofs.delete_literal.Goals.{then-i-size, else-i-size}

pub delete_positive-q-requires : goal.delete_positive-q-requires
delete_positive-q-requires c =
    let l = c.args.choice.now.literals.now in
    let x : SFits w32 (get_or l (c.args.i - 1) (pos 0)) = search rules in
    record {
      le_i = (
        c.requires.le_i.0,
        c.requires.le_i.1,
        c.requires.le_i.2.few,
        omega (arith, c.requires.le_i.2.new),
        literal_reach l c.args.choice.now.below c.args.i c.requires.le_i.0 c.requires.le_i.1 c.requires.le_i.2 x c.requires.deletable,
      );
      deletable = first_deletable l c.args.choice.now.below c.args.i c.requires.le_i.0 c.requires.le_i.1 c.requires.le_i.2 x c.requires.deletable;
    }

pub delete_clause-q-requires : goal.delete_clause-q-requires
delete_clause-q-requires c =
    let l = c.args.choice.now.literals.now in
    let x : SFits w32 (get_or l (c.args.i - 1) (pos 0)) = search rules in
    let m : SFits w32 c.negated-not_l.result = search rules in
    let is = answer negation (get_or l (c.args.i - 1) (pos 0)) x c.negated-not_l.ensures in
    let a : SFits w32 c.signed-after.result = search rules in
    record {
      in_bounds = (omega arith, omega arith, negated_reach l c.args.choice.now.below c.args.i c.requires.le_i.0 c.requires.le_i.1 c.requires.le_i.2 x c.requires.deletable m is);
      deletable = second_deletable l c.args.choice.now.below c.args.i c.requires.le_i.0 c.requires.le_i.1 c.requires.le_i.2 x c.requires.deletable m is c.delete_positive-q.ensures c.if-i-size.true a c.signed-after.ensures;
    }

pub delete_clause-q-requires-then-i-gt1 : goal.delete_clause-q-requires-then-i-gt1
delete_clause-q-requires-then-i-gt1 c =
    let l = c.args.choice.now.literals.now in
    let x : SFits w32 (get_or l (c.args.i - 1) (pos 0)) = search rules in
    let m : SFits w32 c.negated-not_l.result = search rules in
    let is = answer negation (get_or l (c.args.i - 1) (pos 0)) x c.negated-not_l.ensures in
    let d : Deletes (second l c.args.choice.now.below c.args.i) c.delete_positive-q.new.work c.args.newest.now c.delete_positive-q.new.log c.delete_positive-q.result c.if-i-size.work c.if-i-size.log c.if-i-size.q =
    elim c.if-i-size.branch [
      | then-i-size w ↦
          let a : SFits w32 w.signed-after.result = search rules in
          rw (w.work-is, w.log-is, w.q-is) (second_deletes l c.args.choice.now.below c.args.i c.requires.le_i.0 c.requires.le_i.1 c.requires.le_i.2 x c.requires.deletable m is c.delete_positive-q.ensures w.if-i-size.true a w.signed-after.ensures w.delete_clause-q.ensures)
      | else-i-size w ↦ rw (w.work-is, w.log-is, w.q-is) (second_none l c.args.choice.now.below c.args.i c.requires.le_i.0 c.requires.le_i.1 c.requires.le_i.2 x c.requires.deletable m is c.delete_positive-q.ensures w.if-i-size.false)
    ] in
    let e : SFits w32 c.signed-before.result = search rules in
    record {
      in_bounds = (omega arith, omega arith, negated_reach l c.args.choice.now.below c.args.i c.requires.le_i.0 c.requires.le_i.1 c.requires.le_i.2 x c.requires.deletable m is);
      deletable = third_deletable l c.args.choice.now.below c.args.i c.requires.le_i.0 c.requires.le_i.1 c.requires.le_i.2 x c.requires.deletable m is c.delete_positive-q.ensures d c.if-i-gt1.true e c.signed-before.ensures;
    }

pub returns-then-i-gt1 : goal.returns-then-i-gt1
returns-then-i-gt1 c =
    let l = c.args.choice.now.literals.now in
    let x : SFits w32 (get_or l (c.args.i - 1) (pos 0)) = search rules in
    let m : SFits w32 c.negated-not_l.result = search rules in
    let is = answer negation (get_or l (c.args.i - 1) (pos 0)) x c.negated-not_l.ensures in
    let d : Deletes (second l c.args.choice.now.below c.args.i) c.delete_positive-q.new.work c.args.newest.now c.delete_positive-q.new.log c.delete_positive-q.result c.if-i-size.work c.if-i-size.log c.if-i-size.q =
    elim c.if-i-size.branch [
      | then-i-size w ↦
          let a : SFits w32 w.signed-after.result = search rules in
          rw (w.work-is, w.log-is, w.q-is) (second_deletes l c.args.choice.now.below c.args.i c.requires.le_i.0 c.requires.le_i.1 c.requires.le_i.2 x c.requires.deletable m is c.delete_positive-q.ensures w.if-i-size.true a w.signed-after.ensures w.delete_clause-q.ensures)
      | else-i-size w ↦ rw (w.work-is, w.log-is, w.q-is) (second_none l c.args.choice.now.below c.args.i c.requires.le_i.0 c.requires.le_i.1 c.requires.le_i.2 x c.requires.deletable m is c.delete_positive-q.ensures w.if-i-size.false)
    ] in
    let e : SFits w32 c.signed-before.result = search rules in
    third_deletes l c.args.choice.now.below c.args.i c.requires.le_i.0 c.requires.le_i.1 c.requires.le_i.2 x c.requires.deletable m is c.delete_positive-q.ensures d c.if-i-gt1.true e c.signed-before.ensures c.delete_clause-q-then-i-gt1.ensures

pub returns-else-i-gt1 : goal.returns-else-i-gt1
returns-else-i-gt1 c =
    let l = c.args.choice.now.literals.now in
    let x : SFits w32 (get_or l (c.args.i - 1) (pos 0)) = search rules in
    let m : SFits w32 c.negated-not_l.result = search rules in
    let is = answer negation (get_or l (c.args.i - 1) (pos 0)) x c.negated-not_l.ensures in
    let d : Deletes (second l c.args.choice.now.below c.args.i) c.delete_positive-q.new.work c.args.newest.now c.delete_positive-q.new.log c.delete_positive-q.result c.if-i-size.work c.if-i-size.log c.if-i-size.q =
    elim c.if-i-size.branch [
      | then-i-size w ↦
          let a : SFits w32 w.signed-after.result = search rules in
          rw (w.work-is, w.log-is, w.q-is) (second_deletes l c.args.choice.now.below c.args.i c.requires.le_i.0 c.requires.le_i.1 c.requires.le_i.2 x c.requires.deletable m is c.delete_positive-q.ensures w.if-i-size.true a w.signed-after.ensures w.delete_clause-q.ensures)
      | else-i-size w ↦ rw (w.work-is, w.log-is, w.q-is) (second_none l c.args.choice.now.below c.args.i c.requires.le_i.0 c.requires.le_i.1 c.requires.le_i.2 x c.requires.deletable m is c.delete_positive-q.ensures w.if-i-size.false)
    ] in
    third_none l c.args.choice.now.below c.args.i c.requires.le_i.0 c.requires.le_i.1 c.requires.le_i.2 x c.requires.deletable m is c.delete_positive-q.ensures d c.if-i-gt1.false
