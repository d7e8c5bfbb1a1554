use lib.ListN.{length}
use Rattle.std.proofs.lemmas.Result.{err_from_is_err_and}
use Rattle.carry.specs.declared.Direction.TheVariants.{Back}
use Rattle.log_texts.proofs.Called.{texts_refused, texts_handed}
use Rattle.call_walk_back.proofs.Outcome.{walk_back_is}
use Rattle.call_walk_back.proofs.walk.Goals as goal

pub replay_and_carry-requires : goal.replay_and_carry-requires
replay_and_carry-requires c =
    let t = c.in_ok-texts.ensures in
    record { replayable = t.replayable; few = t.few; named = t.named }

pub returns-in_err-texts : goal.returns-in_err-texts
returns-in_err-texts c =
    let p = err_from_is_err_and c.from_residual.result c.from_residual.ensures.1 in
    rw (p.1, p.2)
    (texts_refused Back (length c.args.work.now) c.args.kept c.args.formula.now c.args.log.now c.args.answer.now _ (walk_back_is _ _ _ _ _ _) c.in_err-texts.ensures)

pub returns : goal.returns
returns c =
    rw
    (texts_handed Back (length c.args.work.now) c.args.kept c.args.formula.now c.args.log.now c.args.answer.now _
    (walk_back_is _ (length c.args.out.now) _ _ _ _) c.in_ok-texts.ensures) c.replay_and_carry.ensures
