use Rattle.formula_run.specs.Outcome.{result_of}
use Rattle.exports.specs.Counts.{done_counts}
use Rattle.std.proofs.Common.{◌∙◌}
use Rattle.exports.proofs.Laws.{number_shown, tally_shown}
use Rattle.exports.proofs.sirgholyn_reencode.Goals as goal

pub returns-clause-number : goal.returns-clause-number
returns-clause-number c = rw (← c.settings_named-settings.ensures) (c.answered.ensures.number ∙ number_shown result_of done_counts _ c.done_counts.ensures c.reencode-r.ensures.outcome)

pub returns-clause-counts : goal.returns-clause-counts
returns-clause-counts c = rw (← c.settings_named-settings.ensures) (c.answered.ensures.counts ∙ tally_shown result_of done_counts _ c.done_counts.ensures c.reencode-r.ensures.outcome c.args.tally.now)
