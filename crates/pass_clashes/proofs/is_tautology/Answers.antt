use Rattle.pass_clashes.proofs.Opposed.{parts_opposed}
use Rattle.pass_clashes.proofs.is_tautology.Goals as goal

pub returns-clause-answer : goal.returns-clause-answer
returns-clause-answer c = parts_opposed c.requires.0 c.clause_at-one.ensures c.clause_at-other.ensures c.is_opposed.ensures.answer
