use Rattle.std.proofs.Common.{◌∙◌, take, length}
use Rattle.definition.specs.Answer.{begins_with}
use Rattle.text.proofs.Words.{pointwise_same}
use Rattle.text.proofs.begins.Goals as goal

pub returns : goal.returns
unfolding begins_with
returns c = c.starts_with.ensures.value ∙ pointwise_same c.args.prefix.now (take (length c.args.prefix.now) c.args.line.now)
