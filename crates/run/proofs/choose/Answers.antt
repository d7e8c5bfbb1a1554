use mathlib.Core.Path.{sym}
use lib.Seq.{length-take-le}
use Rattle.run.proofs.Choosing.{store_proper, choices_collected, chosen_arranged}
use Rattle.run.proofs.choose.Goals as goal

pub slice_bounds-arrange-end-2 : goal.slice_bounds-arrange-end-2
slice_bounds-arrange-end-2 c = sym (length-take-le c.collect-n.result c.collect-n.new.chosen c.collect-n.ensures.inside)

pub arrange-requires : goal.arrange-requires
arrange-requires c = (
  c.requires.1,
  store_proper c.requires.0,
  choices_collected c.requires.0 c.collect-n.ensures,
)

pub returns : goal.returns
returns c = chosen_arranged c.requires.0 c.collect-n.ensures c.arrange.ensures
