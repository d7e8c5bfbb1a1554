use Rattle.std.proofs.Common.{rules}
use Rattle.std.proofs.iter.runs.Made.{chains}
use Rattle.theory_base.proofs.Chains.{sum_is}
use Rattle.tables.specs.Entries.{entry_of}
use Rattle.tables.proofs.sum_entries.Goals as goal

pub sum-requires-clause-fits : goal.sum-requires-clause-fits
sum-requires-clause-fits c = let small = rw (← sum_is (entry_of c.args.table.now) c.args.clause.now) at c.requires in search (rules, chains)

pub returns : goal.returns
returns c = rw (← sum_is (entry_of c.args.table.now) c.args.clause.now) (search (rules, chains))
