use borrow.Author.Rules.{rules}
use Rattle.run.proofs.Numbered.{take_all_ready, took}
use Rattle.run.proofs.take_all.Goals as goal

pub number-m-requires : goal.number-m-requires
number-m-requires c = c.requires.0.number_ready

pub take-requires : goal.take-requires
take-requires c = (take_all_ready c.requires.0 c.number-m.ensures (search rules), c.requires.1, c.requires.2)

pub returns : goal.returns
returns c = took c.number-m.ensures (search rules) c.take.ensures
