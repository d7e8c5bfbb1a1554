use Rattle.text.proofs.Output.{put_then, put_same, negative_text, positive_text}
use Rattle.literals.proofs.Laws.{answer, answered}
use Rattle.literals.specs.Literal.{negative}
use Rattle.definition.specs.Text.{digits}
use mathlib.Core.Path.{ap, ◌∙◌}
use mathlib.Core.List.{[], ◌∷◌, ◌++◌}
use Prim.Native.Nat.{ℕ}
use lib.IntN.{nat_abs}
use Rattle.text.proofs.put_literal.Goals as goal

pub returns-then-is_negative-clause-written : goal.returns-then-is_negative-clause-written
returns-then-is_negative-clause-written c =
    let l = c.args.l in
    let f = c.ranges.l in
    put_same (put_then c.put_byte-a.ensures c.put_number.ensures.written)
    (ap (λ (v : ℕ). (45 ∷ []) ++ digits v) (answer nat_abs l f c.variable-v.ensures)
    ∙ negative_text l (answered negative l f c.is_negative.ensures c.if-is_negative.true))

pub returns-else-is_negative-clause-written : goal.returns-else-is_negative-clause-written
returns-else-is_negative-clause-written c =
    let l = c.args.l in
    let f = c.ranges.l in
    put_same c.put_number-else-is_negative.ensures.written
    (ap digits (answer nat_abs l f c.variable-v.ensures)
    ∙ positive_text l (answered negative l f c.is_negative.ensures c.if-is_negative.false))
