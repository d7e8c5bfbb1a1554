use Rattle.progress.proofs.Laws.{good_counted}
use Rattle.pass_choose.proofs.collect.Goals as goal

pub collect_all-requires : goal.collect_all-requires
collect_all-requires c = (good_counted c.requires.0 c.count_all.ensures, c.requires.1)
