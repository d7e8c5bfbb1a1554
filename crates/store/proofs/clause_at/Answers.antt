use native.Mathlib.Omega.{arith}
use Rattle.store.proofs.Laws.{formed_next}
use Rattle.store.proofs.clause_at.Goals as goal

pub slice_bounds-result-end : goal.slice_bounds-result-end
slice_bounds-result-end c = omega (arith, c.next_at-next.ensures, (formed_next c.args.store.now c.args.at c.requires.0 c.requires.1).0)
