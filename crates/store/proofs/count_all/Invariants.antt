use mathlib.Core.Path.{◌≡◌}
use Rattle.store.specs.Store.{stored}
use Rattle.tables.specs.Entries.{tallied_all}
use Rattle.store.proofs.count_all.Given as goal

abbrev pub invariant-loop-clause : goal.invariant-loop-clause
invariant-loop-clause l = tallied_all l.table l.clause-iterator ≡ tallied_all l.initial.table (stored l.store)
