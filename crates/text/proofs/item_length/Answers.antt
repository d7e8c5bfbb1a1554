use native.Mathlib.Omega.{arith}
use mathlib.Core.Path.{ap}
use Prim.Native.Nat.{ℕ}
use lib.IntN.{nat_abs}
use lib.ListN.{length}
use Rattle.definition.specs.Text.{digits}
use Rattle.literals.specs.Literal.{negative}
use Rattle.literals.proofs.Laws.{answer, answered}
use Rattle.text.proofs.Writing.{item_negative, item_positive}
use Rattle.text.proofs.item_length.Goals as goal

pub returns-then-is_negative : goal.returns-then-is_negative
returns-then-is_negative c = let v = answer nat_abs c.args.l c.ranges.l c.variable.ensures in
    omega (
      arith,
      c.decimal_length-n.ensures,
      ap (λ (n : ℕ). length (digits n)) v,
      item_negative c.args.l
          (answered negative c.args.l c.ranges.l c.is_negative.ensures c.if-is_negative.true),
    )

pub returns-else-is_negative : goal.returns-else-is_negative
returns-else-is_negative c = let v = answer nat_abs c.args.l c.ranges.l c.variable.ensures in
    omega (
      arith,
      c.decimal_length-n.ensures,
      ap (λ (n : ℕ). length (digits n)) v,
      item_positive c.args.l
          (answered negative c.args.l c.ranges.l c.is_negative.ensures c.if-is_negative.false),
    )
