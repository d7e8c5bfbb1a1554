use native.Mathlib.Omega.{arith}
use Rattle.std.proofs.lemmas.Result.{err_from_is_err_and}
use Rattle.formula_run.proofs.Running.{call_fault, call_short, lent_ready, call_run}
use Rattle.formula_run.proofs.read_and_run.Goals as goal

pub returns-in_err-read : goal.returns-in_err-read
returns-in_err-read c =
    let p = err_from_is_err_and c.from_residual.result c.from_residual.ensures.1 in
    rw (p.1, p.2)
    (call_fault c.args.text.now c.args.settings c.requires.0 c.args.work.now
    c.args.log.now c.args.formula.now c.args.rows.now c.requires.1
    c.input_limits-most.result c.input_limits-most.ensures.0 _ c.read.ensures.outcome _ c.in_err-read.was)

pub returns-then-work-need : goal.returns-then-work-need
returns-then-work-need c =
    call_short c.args.text.now c.args.settings c.requires.0 c.args.work.now
    c.args.log.now c.args.formula.now c.args.rows.now c.requires.1
    c.input_limits-most.result c.input_limits-most.ensures.0 _ c.read.ensures.outcome _ _ c.in_ok-read.was
    c.workspace_need-need.ensures (omega (arith, c.if-work-need.true, c.read.auto.store))

pub run_all-requires : goal.run_all-requires
run_all-requires c =
    lent_ready c.args.text.now c.args.settings c.requires.0 c.args.work.now
    c.args.log.now c.args.formula.now c.args.rows.now c.requires.1
    c.input_limits-most.result c.input_limits-most.ensures.0 _ c.read.ensures.outcome _ _ c.in_ok-read.was
    c.workspace_need-need.ensures (omega (arith, c.if-work-need.false, c.read.auto.store)) c.read.ensures.stored

pub returns : goal.returns
returns c =
    call_run c.args.text.now c.args.settings c.requires.0 c.args.work.now
    c.args.log.now c.args.formula.now c.args.rows.now c.requires.1
    c.input_limits-most.result c.input_limits-most.ensures.0 _ c.read.ensures.outcome _ _ c.in_ok-read.was
    c.workspace_need-need.ensures (omega (arith, c.if-work-need.false, c.read.auto.store)) c.read.ensures.stored c.run_all.ensures
