use mathlib.Core.Path.{refl}
use Rattle.std.proofs.lemmas.Result.{err_from_is_err_and}
use Rattle.formula_run.proofs.Running.{run_left, run_answers, run_refused}
use Rattle.formula_run.proofs.run_all.Goals as goal

pub write_standing-requires : goal.write_standing-requires
write_standing-requires c = run_left c.run.ensures c.in_ok-r.was c.requires.small

pub returns : goal.returns
returns c = run_answers c.run.ensures c.in_ok-r.was refl c.write_standing.ensures

pub returns-in_err-r : goal.returns-in_err-r
returns-in_err-r c =
    let p = err_from_is_err_and c.from_residual.result c.from_residual.ensures.1 in
    rw (p.1, p.2) (run_refused c.run.ensures _ c.in_err-r.was)
