use mathlib.Core.Path.{refl}
use mathlib.Core.List.{[]}
use Rattle.progress.proofs.Laws.{good_first}
use Rattle.pass_clashes.proofs.clear_clashes.Goals as goal

pub mark_clashes-requires : goal.mark_clashes-requires
mark_clashes-requires c = (good_first [] _ c.requires.0.good, refl)
