use mathlib.Core.Path.{refl}
use Rattle.progress.proofs.Laws.{good_counted}
use Rattle.pass_clashes.proofs.mark_clashes.Goals as goal

pub mark_all-requires : goal.mark_all-requires
mark_all-requires c =
    record {
      counted = (good_counted c.requires.0 c.count_all.ensures, c.requires.0.proper);
      marks_value = (c.requires.1, refl);
    }
