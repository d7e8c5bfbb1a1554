use mathlib.Core.Path.{◌∙◌}
use mir.Syntax.{w32}
use mir.ValLaws.{to_z-of_z}
use borrow.Author.Rules.{sfits_of, rules}
use Rattle.definition.specs.Text.{bytes}
use Rattle.text.proofs.Output.{put_then, put_same}
use Rattle.answer.proofs.Output.{value_is}
use Rattle.answer.proofs.put_value.Goals as goal

pub returns : goal.returns
unfolding bytes
returns c =
    put_same (put_then c.put_byte-a.ensures c.put_literal.ensures.written)
    (value_is c.args.marks.now c.args.i (search rules) c.entry_at-is_true.ensures
    (to_z-of_z w32 c.signed-l.result (sfits_of c.signed-l.type_inv) ∙ c.signed-l.ensures))
