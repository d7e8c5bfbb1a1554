use mathlib.Core.Path.{◌≡◌}
use Rattle.carry.specs.declared.Direction.TheVariants.{Forward}
use Prim.Native.Nat.{◌+◌}
use native.Mathlib.Omega.{arith}
use Rattle.drat.specs.Loaded.{past_line}
use Rattle.drat.proofs.Loaded.{lines_end}
use Rattle.carry.proofs.Carrying.{carrying_end, forward_step}
use Rattle.carry.proofs.carry_forward.Goals as goal

pub loop-at-preserved : goal.loop-at-preserved
loop-at-preserved c =
    let e : c.next_at-at.result + 1 ≡ past_line c.args.lines.now c.loop-at.at = omega
    (arith, c.next_at-at.ensures) in
    forward_step c.args.lines.now c.args.marks.now c.loop-at.marks _ c.loop-at.at _ c.loop-at.invariant
    c.loop-at-test.true e c.carry_line.auto.marks c.carry_line.ensures

pub returns : goal.returns
returns c =
    carrying_end Forward c.args.lines.now c.args.marks.now _ _ c.loop-at.invariant
    (lines_end c.args.lines.now c.loop-at.at c.loop-at-test.false)
