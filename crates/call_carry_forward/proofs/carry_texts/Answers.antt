use lib.ListN.{length}
use Rattle.std.proofs.lemmas.Result.{err_from_is_err_and}
use Rattle.carry.specs.declared.Direction.TheVariants.{Forward}
use Rattle.log_texts.proofs.Called.{texts_refused, texts_handed}
use Rattle.call_carry_forward.proofs.Outcome.{carry_forward_is}
use Rattle.call_carry_forward.proofs.carry_texts.Goals as goal

pub carry_tested-requires : goal.carry_tested-requires
carry_tested-requires c =
    let t = c.in_ok-texts.ensures in
    record { replayable = t.replayable; few = t.few; named = t.named }

pub returns-in_err-texts : goal.returns-in_err-texts
returns-in_err-texts c =
    let p = err_from_is_err_and c.from_residual.result c.from_residual.ensures.1 in
    rw (p.1, p.2)
    (texts_refused Forward (length c.args.work.now) c.args.kept c.args.formula.now c.args.log.now c.args.plan.now _ (carry_forward_is _ _ _ _ _ _) c.in_err-texts.ensures)

pub returns : goal.returns
returns c =
    rw
    (texts_handed Forward (length c.args.work.now) c.args.kept c.args.formula.now c.args.log.now c.args.plan.now _
    (carry_forward_is _ (length c.args.out.now) _ _ _ _) c.in_ok-texts.ensures) c.carry_tested.ensures
