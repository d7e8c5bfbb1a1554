use Rattle.definition.specs.Text.{bytes}
use Rattle.answer.proofs.is_values.Goals as goal

pub returns : goal.returns
unfolding bytes
returns c = c.begins.ensures
