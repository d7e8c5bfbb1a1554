use mathlib.Core.Path.{refl, ◌∙◌}
use native.Mathlib.Omega.{arith}
use Rattle.definition.specs.Standing.{deletion}
use Rattle.progress.proofs.Laws.{written_none}
use Rattle.pairs.proofs.Lines.{room_again, written_again}
use Rattle.pairs.proofs.record_times.Goals as goal

pub loop-init : goal.loop-init
loop-init c = (refl, written_none c.args.log.now c.args.p c.args.p refl refl)

pub record_line-q-requires : goal.record_line-q-requires
record_line-q-requires c =
    let room = room_again c.loop.counter c.args.times (deletion c.args.pair.now) c.loop-test.true c.requires.log_room c.loop.invariant.1 in record {
      clause_bound = omega (arith, room.text, c.requires.pair_len);
      lines_bound = omega (arith, room.count);
    }

pub loop-preserved : goal.loop-preserved
loop-preserved c = (
  c.record_line-q.ensures.kept ∙ c.loop.invariant.0,
  written_again c.loop.counter (deletion c.args.pair.now) c.loop.invariant.1 c.record_line-q.ensures.written,
)
