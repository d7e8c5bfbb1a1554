use Rattle.progress.proofs.Laws.{written_one}
use Rattle.progress.proofs.Writing.{line_put}
use mathlib.Core.Path.{refl}
use Rattle.progress.proofs.record_first.Goals as goal

pub returns : goal.returns
returns c =
    record {
      written = written_one _
          (line_put c.args.first c.args.clause.now c.ranges.first c.put_first-a.ensures.written
          c.put_others-b.ensures.written c.put_byte-c.ensures c.put_byte-at.ensures) refl;
      kept = refl;
    }
