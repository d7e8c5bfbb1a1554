use Rattle.std.proofs.Common.{arith}
use Rattle.store.proofs.Laws.{next_formed, rest_deleted}
use Rattle.store.proofs.ClausesIterator.next.Goals as goal

pub invariant_of-self-then-not-is_negative : goal.invariant_of-self-then-not-is_negative
invariant_of-self-then-not-is_negative c = grind (arith, next_formed)

pub loop-self-preserved : goal.loop-self-preserved
loop-self-preserved c = (grind (arith, next_formed), grind (arith, rest_deleted))
