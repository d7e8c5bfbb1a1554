use borrow.Author.Rules.{rules}
use borrow.Author.Tests.{lt-ltb, le-ltb}
use native.Mathlib.Omega.{arith}
use mir.Syntax.{w32}
use mir.Val.{SFits}
use Rattle.definition.specs.Lists.{only_if}
use Rattle.pass_order.proofs.Deleting.{first_deletes}
use Rattle.pass_order.proofs.delete_positive.Goals as goal

pub returns-in-true-true : goal.returns-in-true-true
unfolding only_if
returns-in-true-true c =
    let a : SFits w32 c.signed-after.result = search rules in
    let b : SFits w32 c.signed-before.result = search rules in
    first_deletes c.args.l c.args.i c.args.size c.args.below c.ranges.l (omega (arith, c.requires.le_i)) a b c.signed-after.ensures c.signed-before.ensures
    (lt-ltb c.args.i c.args.size c.in-true-true.is-0) (lt-ltb 1 c.args.i c.in-true-true.is-1) c.delete_clause.ensures

pub returns-in-true-false : goal.returns-in-true-false
unfolding only_if
returns-in-true-false c =
    let a : SFits w32 c.signed-after.result = search rules in
    let b : SFits w32 c.signed-before.result = search rules in
    first_deletes c.args.l c.args.i c.args.size c.args.below c.ranges.l (omega (arith, c.requires.le_i)) a b c.signed-after.ensures c.signed-before.ensures
    (lt-ltb c.args.i c.args.size c.in-true-false.is-0) (le-ltb 1 c.args.i c.in-true-false.is-1) c.delete_clause-in-true-false.ensures

pub returns-in-false-true : goal.returns-in-false-true
unfolding only_if
returns-in-false-true c =
    let a : SFits w32 c.signed-after.result = search rules in
    let b : SFits w32 c.signed-before.result = search rules in
    first_deletes c.args.l c.args.i c.args.size c.args.below c.ranges.l (omega (arith, c.requires.le_i)) a b c.signed-after.ensures c.signed-before.ensures
    (le-ltb c.args.i c.args.size c.in-false-true.is-0) (lt-ltb 1 c.args.i c.in-false-true.is-1) c.delete_clause-in-false-true.ensures

pub returns-in-false-false : goal.returns-in-false-false
unfolding only_if
returns-in-false-false c =
    let a : SFits w32 c.signed-after.result = search rules in
    let b : SFits w32 c.signed-before.result = search rules in
    first_deletes c.args.l c.args.i c.args.size c.args.below c.ranges.l (omega (arith, c.requires.le_i)) a b c.signed-after.ensures c.signed-before.ensures
    (le-ltb c.args.i c.args.size c.in-false-false.is-0) (le-ltb 1 c.args.i c.in-false-false.is-1) c.delete_clause-in-false-false.ensures
