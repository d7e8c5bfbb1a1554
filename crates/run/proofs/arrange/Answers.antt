use lib.ListN.{take}
use Rattle.run.proofs.Choosing.{listed_returned, aligned_returned}
use Rattle.run.proofs.arrange.Goals as goal

pub returns-in-AsListed : goal.returns-in-AsListed
returns-in-AsListed c =
    listed_returned c.in-AsListed.is (take c.args.end c.args.work.now)
    c.args.chosen.now c.requires.2.formed

pub returns-in-Alignment : goal.returns-in-Alignment
returns-in-Alignment c =
    aligned_returned c.in-Alignment.is (take c.args.end c.args.work.now)
    c.args.chosen.now c.align.ensures
