use lib.ListN.{length}
use Rattle.store.specs.Store.{stored}
use Rattle.answer.specs.Table.{marked}
use Rattle.drat.specs.Loaded.{lines_in}
use Rattle.carry.proofs.Writing.{answer_fails, back_fails, answer_carried}
use Rattle.carry.proofs.carry_answer.Goals as goal

pub returns-then-not-satisfied : goal.returns-then-not-satisfied
returns-then-not-satisfied c =
    answer_fails (length c.args.out.now) c.args.v (stored c.args.formula.now)
    (lines_in c.args.lines.now) (stored c.args.standing.now) (marked c.args.marks.now)
    c.if-not-satisfied.ensures

pub returns-then-not-satisfied-2 : goal.returns-then-not-satisfied-2
returns-then-not-satisfied-2 c =
    back_fails (length c.args.out.now) c.args.v (stored c.args.formula.now)
    (lines_in c.args.lines.now) (stored c.args.standing.now) (marked c.args.marks.now)
    c.if-not-satisfied.ensures (marked c.carry_back.new.marks) (c.carry_back.ensures c.requires.4)
    c.if-not-satisfied-2.ensures

pub returns : goal.returns
returns c =
    rw (answer_carried (length c.args.out.now) c.args.v (stored c.args.formula.now)
    (lines_in c.args.lines.now) (stored c.args.standing.now) (marked c.args.marks.now)
    c.if-not-satisfied.ensures (marked c.carry_back.new.marks) (c.carry_back.ensures c.requires.4)
    c.if-not-satisfied-2.ensures)
    c.write_fitting.ensures
