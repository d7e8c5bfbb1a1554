-- The law of the leaf `marks`, from its first variable on.
use Rattle.marks.proofs.Laws.{lowest_marked}
use Rattle.theorems.specs.Marks.{LowestMarkedHolds}

pub lowest_mark : LowestMarkedHolds
unfolding LowestMarkedHolds
lowest_mark m = lowest_marked m 0
