use Rattle.std.proofs.lemmas.Result.{err_from_is_err_and}
use Rattle.call_reencode.proofs.Call.{call_fits, call_refused}
use Rattle.call_reencode.proofs.reencode_into.Goals as goal

pub returns : goal.returns
returns c =
    call_fits c.args.room c.args.settings c.args.text.now c.args.work.now c.run_formula.ensures c.in_ok-t.was
    c.run_formula.auto.log c.run_formula.auto.formula c.fit.ensures

pub returns-in_err-t : goal.returns-in_err-t
returns-in_err-t c =
    let p = err_from_is_err_and c.from_residual.result c.from_residual.ensures.1 in
    rw (p.1, p.2) (call_refused c.args.room c.args.settings c.args.text.now c.args.work.now c.run_formula.ensures c.in_err-t.was)
