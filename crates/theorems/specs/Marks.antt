-- "For every mark pattern this gives the lowest marked variable, and none exactly when no mark is set."
use Rattle.std.specs.Prelude.{List, ℕ}
use Rattle.marks.specs.Marks.{LowestMarked}

-- the theorem, proved as `lowest_mark` in proofs/Marks
unfoldable pub LowestMarkedHolds : Type 0
LowestMarkedHolds = (m : List ℕ) → LowestMarked m 0
