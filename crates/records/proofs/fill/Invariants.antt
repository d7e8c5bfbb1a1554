use Rattle.std.proofs.Common.{◌≡◌}
use Rattle.records.proofs.Filling.{filled_from}
use Rattle.records.proofs.fill.Given as goal

abbrev pub invariant-loop-i : goal.invariant-loop-i
invariant-loop-i l = l.table ≡ filled_from l.rows 0 l.i l.initial.table
