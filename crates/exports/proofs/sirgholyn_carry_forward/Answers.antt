use Rattle.std.proofs.Common.{length, [], ◌∷◌, ℕ}
use Rattle.std.proofs.Common.{◌∙◌}
use Rattle.exports.proofs.Laws.{number_shown, tally_shown}
use Rattle.exports.proofs.sirgholyn_carry_forward.Goals as goal

pub returns-clause-number : goal.returns-clause-number
returns-clause-number c = c.answered.ensures.number ∙ number_shown (λ t. length t) (λ (n : ℕ). n ∷ []) _ c.line_count.ensures c.carry_forward-r.ensures.outcome

pub returns-clause-counts : goal.returns-clause-counts
returns-clause-counts c = c.answered.ensures.counts ∙ tally_shown (λ t. length t) (λ (n : ℕ). n ∷ []) _ c.line_count.ensures c.carry_forward-r.ensures.outcome c.args.tally.now
