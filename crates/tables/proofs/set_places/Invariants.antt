use mathlib.Core.Path.{◌≡◌}
use Prim.Native.Nat.{◌+◌}
use lib.ListN.{drop}
use Rattle.tables.specs.Places.{with_numbers}
use Rattle.tables.proofs.set_places.Given as goal

abbrev pub invariant-loop-i : goal.invariant-loop-i
invariant-loop-i l = with_numbers l.table (l.i + 1) (drop l.i l.clause) ≡ with_numbers l.initial.table 1 l.clause
