use Rattle.progress.proofs.Laws.{written_one}
use mathlib.Core.Path.{refl}
use Rattle.progress.proofs.record_line.Goals as goal

pub returns : goal.returns
returns c = record { written = written_one _ c.log_line-at.ensures.written refl; kept = refl }
