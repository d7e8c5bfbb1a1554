use lib.ListN.{length}
use Rattle.std.proofs.lemmas.Result.{err_from_is_err_and}
use Rattle.answer.specs.Table.{marked}
use Rattle.carry.specs.declared.Direction.TheVariants.{Back, Forward}
use Rattle.carry.proofs.Replaying.{stands_as, refused_as, no_clause, parts_there, parts_carried}
use Rattle.carry.proofs.replay_and_carry.Goals as goal

pub returns-in_err-end : goal.returns-in_err-end
returns-in_err-end c =
    let p = err_from_is_err_and c.from_residual.result c.from_residual.ensures.1 in
    let r = refused_as c.replay.result _ _ c.in_err-end.ensures.value in
    rw (p.1, p.2, r.1)
    (no_clause c.requires c.replay.new.work
    c.replay.result c.replay.ensures.result c.replay.ensures.kept c.args.direction (length c.args.out.now)
    (marked c.args.marks.now) r.0)

pub carry_answer-requires : goal.carry_answer-requires
carry_answer-requires c =
    let p = parts_there c.requires c.replay.new.work
    c.replay.result c.replay.ensures.result c.replay.ensures.kept _
    (stands_as c.replay.result _ _ c.in_ok-end.ensures.value) in
    (c.requires.few, p.formed, p.loaded, p.standing, p.named)

pub carry_plan-requires : goal.carry_plan-requires
carry_plan-requires c =
    let p = parts_there c.requires c.replay.new.work
    c.replay.result c.replay.ensures.result c.replay.ensures.kept _
    (stands_as c.replay.result _ _ c.in_ok-end.ensures.value) in
    (c.requires.few, p.loaded, p.standing, p.named)

pub returns-in-Back : goal.returns-in-Back
returns-in-Back c =
    rw c.in-Back.is (parts_carried c.requires c.replay.new.work c.replay.result c.replay.ensures.result c.replay.ensures.kept _
    (stands_as c.replay.result _ _ c.in_ok-end.ensures.value) Back c.args.out.now _ c.carry_answer.result
    c.carry_answer.ensures)

pub returns-in-Forward : goal.returns-in-Forward
returns-in-Forward c =
    rw c.in-Forward.is (parts_carried c.requires c.replay.new.work c.replay.result c.replay.ensures.result c.replay.ensures.kept _
    (stands_as c.replay.result _ _ c.in_ok-end.ensures.value) Forward c.args.out.now _ c.carry_plan.result
    c.carry_plan.ensures)
