use Rattle.call_read_back.specs.Outcome.{told_of}
use Rattle.exports.specs.Counts.{back_counts}
use Rattle.std.proofs.Common.{◌∙◌}
use Rattle.exports.proofs.Laws.{number_shown, tally_shown}
use Rattle.exports.proofs.sirgholyn_read_back.Goals as goal

pub returns-clause-number : goal.returns-clause-number
returns-clause-number c = c.answered.ensures.number ∙ number_shown told_of back_counts _ c.back_counts.ensures c.read_back-r.ensures.outcome

pub returns-clause-counts : goal.returns-clause-counts
returns-clause-counts c = c.answered.ensures.counts ∙ tally_shown told_of back_counts _ c.back_counts.ensures c.read_back-r.ensures.outcome c.args.tally.now
