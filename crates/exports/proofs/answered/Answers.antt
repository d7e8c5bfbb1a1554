use Rattle.std.proofs.Common.{rules}
use Rattle.std.proofs.lemmas.Slice.{overwrites}
use Rattle.exports.specs.Numbers.{number_of}
use Rattle.exports.specs.Counts.{tally_after}
use Rattle.exports.proofs.answered.Goals as goal

pub returns-in-Ok-clause-number : goal.returns-in-Ok-clause-number
unfolding number_of
returns-in-Ok-clause-number g c = rw c.in-Ok.is (search rules)

pub returns-in-Ok-clause-counts : goal.returns-in-Ok-clause-counts
unfolding tally_after
returns-in-Ok-clause-counts g c = rw c.in-Ok.is (search (rules, overwrites))

pub returns-in-Err-clause-number : goal.returns-in-Err-clause-number
unfolding number_of
returns-in-Err-clause-number g c = rw c.in-Err.is c.from.ensures

pub returns-in-Err-clause-counts : goal.returns-in-Err-clause-counts
unfolding tally_after
returns-in-Err-clause-counts g c = rw c.in-Err.is (search (rules, overwrites))
