use Rattle.carry.specs.declared.Direction.TheVariants.{Back}
use native.Mathlib.Omega.{arith}
use Rattle.carry.proofs.Carrying.{carrying_end, back_step, back_end}
use Rattle.carry.proofs.carry_back.Goals as goal

pub loop-end-preserved : goal.loop-end-preserved
loop-end-preserved c = (
  omega (arith, c.line_start-start.ensures.ends, c.loop-end.invariant.0),
  back_step c.args.lines.now c.args.marks.now c.loop-end.marks _ c.loop-end.end c.line_start-start.result
      c.loop-end.invariant.1 c.line_start-start.ensures c.carry_line.auto.marks c.carry_line.ensures,
)

pub returns : goal.returns
returns c =
    carrying_end Back c.args.lines.now c.args.marks.now _ _ c.loop-end.invariant.1
    (back_end c.args.lines.now c.loop-end.end c.loop-end-test.false)
