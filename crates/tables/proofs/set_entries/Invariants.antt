use mathlib.Core.Path.{◌≡◌}
use lib.ListN.{drop}
use Rattle.tables.specs.Entries.{with_entries}
use Rattle.tables.proofs.set_entries.Given as goal

abbrev pub invariant-loop-l : goal.invariant-loop-l
invariant-loop-l l = with_entries l.table (drop l.l-index l.clause) l.value ≡ with_entries l.initial.table l.clause l.value
