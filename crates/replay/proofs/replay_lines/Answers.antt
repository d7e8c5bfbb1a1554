use mathlib.Core.Path.{◌≡◌, ◌∙◌}
use Prim.Native.Nat.{◌+◌}
use native.Mathlib.Omega.{arith}
use Rattle.drat.specs.Loaded.{past_line}
use Rattle.replay.proofs.Replaying.{replaying_start, line_fits, line_room, replaying_step, replaying_none, replaying_end}
use Rattle.replay.proofs.replay_lines.Goals as goal

pub loop-at-init : goal.loop-at-init
loop-at-init c = replaying_start c.requires.0 c.requires.1 c.requires.2

pub overflow_add-past : goal.overflow_add-past
overflow_add-past c =
    let f = line_fits c.loop-at.invariant c.loop-at-test.true c.requires.0 in
    omega (arith, f, c.next_at-past.ensures)

pub replay_line-requires : goal.replay_line-requires
replay_line-requires c = (
  line_fits c.loop-at.invariant c.loop-at-test.true c.requires.0,
  line_room c.loop-at.invariant c.loop-at-test.true c.requires.0,
  c.loop-at.invariant.linked,
)

pub loop-at-preserved : goal.loop-at-preserved
loop-at-preserved c =
    let e : c.next_at-past.result + 1 ≡ past_line c.loop-at.work c.loop-at.at = omega (arith, c.next_at-past.ensures) in
    replaying_step c.loop-at.invariant c.loop-at-test.true c.requires.0 _ _ _ _ c.replay_line.auto.work
    c.replay_line.ensures.kept e c.in_ok-end.ensures.result c.in_ok-end.ensures.linked

pub returns-in_err-end : goal.returns-in_err-end
returns-in_err-end c =
    rw c.from_residual.ensures (record {
      result = replaying_none c.loop-at.invariant c.loop-at-test.true c.requires.0 c.in_err-end.ensures.result;
      kept = c.replay_line.ensures.kept ∙ c.loop-at.invariant.kept;
    })

pub returns : goal.returns
returns c =
    record {
      result = replaying_end c.loop-at.invariant c.requires.0 c.loop-at-test.false;
      kept = c.loop-at.invariant.kept;
    }
