use lib.ListN.{length}
use Rattle.store.specs.Store.{stored}
use Rattle.answer.specs.Table.{marked}
use Rattle.drat.specs.Loaded.{lines_in}
use Rattle.carry.proofs.Writing.{forward_fails, plan_carried}
use Rattle.carry.proofs.carry_plan.Goals as goal

pub returns-then-not-satisfied : goal.returns-then-not-satisfied
returns-then-not-satisfied c =
    forward_fails (length c.args.out.now) c.args.x (lines_in c.args.lines.now)
    (stored c.args.standing.now) (marked c.args.marks.now) (marked c.carry_forward.new.marks)
    (c.carry_forward.ensures c.requires.3) c.if-not-satisfied.ensures

pub returns : goal.returns
returns c =
    rw (plan_carried (length c.args.out.now) c.args.x (lines_in c.args.lines.now)
    (stored c.args.standing.now) (marked c.args.marks.now) (marked c.carry_forward.new.marks)
    (c.carry_forward.ensures c.requires.3) c.if-not-satisfied.ensures)
    c.write_fitting.ensures
