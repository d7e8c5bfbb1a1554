use Rattle.std.proofs.Common.{rules, ◌≡◌, ◌∙◌}
use Rattle.theory_text.proofs.Runs.{run_step, run_stop, run_stop_end}
use Rattle.text.proofs.Words.{of_run}
use Rattle.text.proofs.run_end.Goals as goal

pub returns-then-separates-parting : goal.returns-then-separates-parting
returns-then-separates-parting g c = λ p t. run_stop _ c.args.text.now c.loop-i.i (search rules)
    (of_run p c.args.parting _ (t _ c.separates.result (search rules) c.separates.ensures) c.if-separates-parting.true)
    ∙ c.loop-i.invariant.1 p t

pub loop-i-preserved : goal.loop-i-preserved
loop-i-preserved g c = (
  search rules,
  λ p t. run_step _ c.args.text.now c.loop-i.i (search rules)
      (of_run p c.args.parting _ (t _ c.separates.result (search rules) c.separates.ensures) c.if-separates-parting.false)
      ∙ c.loop-i.invariant.1 p t,
)

pub returns : goal.returns
returns g c = let e : c.loop-i.i ≡ c.max.result = search rules in
    λ p t. rw (← e) (run_stop_end _ c.args.text.now c.loop-i.i (search rules) ∙ c.loop-i.invariant.1 p t)
