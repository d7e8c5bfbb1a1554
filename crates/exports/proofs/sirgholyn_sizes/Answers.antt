use Rattle.formula_run.specs.Outcome.{tally_of}
use Rattle.exports.specs.Counts.{done_counts}
use Rattle.std.proofs.Common.{◌∙◌}
use Rattle.exports.proofs.Laws.{number_shown, tally_shown}
use Rattle.exports.proofs.sirgholyn_sizes.Goals as goal

pub returns-clause-number : goal.returns-clause-number
returns-clause-number c = rw (← c.settings_named-settings.ensures) (c.answered.ensures.number ∙ number_shown tally_of done_counts _ c.done_counts.ensures c.sizes-r.ensures.outcome)

pub returns-clause-counts : goal.returns-clause-counts
returns-clause-counts c = rw (← c.settings_named-settings.ensures) (c.answered.ensures.counts ∙ tally_shown tally_of done_counts _ c.done_counts.ensures c.sizes-r.ensures.outcome c.args.tally.now)
