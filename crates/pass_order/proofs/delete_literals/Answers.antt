use native.Mathlib.Omega.{arith}
use Prim.Native.Nat.{◌+◌, ◌<◌}
use lib.ListN.{length}
use Rattle.definition.specs.Order.{deletions_of}
use Rattle.replacement.specs.Replaced.{choice_in}
use Rattle.pass_order.proofs.Deleting.{deleting_start, deleting_room, deleting_step, deleting_end}
use Rattle.pass_order.proofs.delete_literals.Goals as goal

pub loop-i-init : goal.loop-i-init
loop-i-init c =
    deleting_start (deletions_of (choice_in c.args.choice.now)) (length c.args.choice.now.literals.now) c.args.work.now c.args.log.now c.args.p c.requires.deletable.indexed

pub delete_literal-q-requires-clause-deletable : goal.delete_literal-q-requires-clause-deletable
delete_literal-q-requires-clause-deletable c = deleting_room c.loop-i.invariant c.loop-i-test.true c.requires.deletable

pub loop-i-preserved : goal.loop-i-preserved
loop-i-preserved c = deleting_step c.loop-i.invariant c.loop-i-test.true c.delete_literal-q.ensures

pub returns-2 : goal.returns-2
returns-2 c =
    let past : length c.args.choice.now.literals.now < c.loop-i.i + 1 = omega arith in
    deleting_end (deleting_step c.loop-i.invariant c.loop-i-test.true c.delete_literal-q.ensures) past
