use mathlib.Core.Path.{◌≡◌}
use lib.ListN.{drop}
use Rattle.tables.specs.Entries.{tallied}
use Rattle.tables.proofs.count_clause.Given as goal

abbrev pub invariant-loop-l : goal.invariant-loop-l
invariant-loop-l l = tallied l.table (drop l.l-index l.clause) ≡ tallied l.initial.table l.clause
