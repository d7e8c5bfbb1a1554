use mathlib.Core.Path.{sym, ◌∙◌}
use Rattle.formula_run.proofs.Running.{call_step}
use Rattle.formula_run.proofs.run_formula.Goals as goal

pub returns-then-not-is_step : goal.returns-then-not-is_step
returns-then-not-is_step c =
    call_step c.args.text.now c.args.settings c.args.work.now c.args.log.now
    c.args.formula.now c.args.rows.now
    (sym c.is_step.ensures ∙ c.if-not-is_step.true)

pub read_and_run-requires : goal.read_and_run-requires
read_and_run-requires c = (sym c.is_step.ensures ∙ c.if-not-is_step.false, c.requires)
