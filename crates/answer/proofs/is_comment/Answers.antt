use Rattle.definition.specs.Text.{bytes}
use Rattle.answer.proofs.is_comment.Goals as goal

pub returns : goal.returns
unfolding bytes
returns c = c.begins.ensures
