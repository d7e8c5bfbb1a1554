use Rattle.std.proofs.Common.{ap, ◌∙◌, eqb}
use lib.Pointwise.{pointwise}
use Rattle.definition.specs.Text.{bytes}
use Rattle.text.proofs.Words.{pointwise_same}
use Rattle.answer.proofs.is_status.Goals as goal

pub returns : goal.returns
unfolding bytes
returns c = c.eq.ensures ∙ ap (pointwise eqb c.args.line.now) c.as_slice.ensures ∙ pointwise_same c.args.line.now (bytes "s SATISFIABLE")
