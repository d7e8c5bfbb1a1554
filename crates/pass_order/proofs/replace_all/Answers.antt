use Rattle.replacement.specs.Replaced.{choice_in}
use Rattle.theory_base.proofs.Slices.{drop_step, drop_end}
use Rattle.pass_order.proofs.Passing.{turning_start, turning_place, turning_inside, turning_replaceable, turning_replaced, turning_end}
use Rattle.pass_order.proofs.Ordered.{starts, front_formed, front_proper, table, pass_room}
use Rattle.pass_order.proofs.replace_all.Goals as goal

pub loop-j-init : goal.loop-j-init
loop-j-init c =
    turning_start (choice_in c.args.choice.now) c.args.work.now c.args.newest.now c.args.start c.args.log.now c.args.p (starts c.requires.0)
    c.requires.0.indexed (front_formed c.requires.0) c.requires.0.space c.gather-from.ensures

pub replace_at-q-requires : goal.replace_at-q-requires
replace_at-q-requires c =
    let e = drop_step c.gather-from.new.list c.loop-j.j 0 c.loop-j-test.true in record {
      table = table c.requires.0 c.requires.1;
      indexed = c.loop-j.invariant.passing.indexed;
      place = turning_place c.loop-j.invariant e;
      inside = turning_inside c.loop-j.invariant e;
      replaceable = turning_replaceable c.loop-j.invariant e c.requires.0.before (front_proper c.requires.0) (pass_room c.requires.0);
    }

pub loop-j-preserved : goal.loop-j-preserved
loop-j-preserved c = turning_replaced c.loop-j.invariant (drop_step c.gather-from.new.list c.loop-j.j 0 c.loop-j-test.true) c.replace_at-q.ensures

pub returns : goal.returns
returns c = turning_end c.loop-j.invariant (drop_end c.gather-from.new.list c.loop-j.j c.loop-j-test.false)
