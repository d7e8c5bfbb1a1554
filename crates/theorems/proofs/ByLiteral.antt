-- Laws of the leaf `index`.
use Rattle.index.proofs.Laws.{indexed_marked}
use Rattle.index.proofs.Table.{table_holding}
use Rattle.theorems.specs.ByLiteral.{ByLiteral}

pub by_literal : ByLiteral
by_literal = record { table_is_walk = table_holding; deletion_keeps = λ work end newest i at p h. indexed_marked i p h }
