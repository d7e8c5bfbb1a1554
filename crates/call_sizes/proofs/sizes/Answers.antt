use Rattle.call_sizes.proofs.Call.{sizes_told}
use Rattle.call_sizes.proofs.sizes.Goals as goal

pub returns : goal.returns
returns c =
    record { outcome = sizes_told c.args.settings c.args.text.now c.args.work.now c.run_formula.result c.run_formula.ensures.answer }
