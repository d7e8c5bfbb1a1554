use mathlib.Core.Path.{◌∙◌}
use native.Mathlib.Omega.{arith}
use borrow.Author.Rules.{rules}
use Rattle.store.proofs.Laws.{formed_next}
use Rattle.store.proofs.Sliding.{entry_moved}
use Rattle.store.proofs.slide.Goals as goal

pub copy_within-requires-clause-in_bounds : goal.copy_within-requires-clause-in_bounds
copy_within-requires-clause-in_bounds c = omega (arith, c.next_at-next.ensures, (formed_next c.args.store.now c.args.from c.requires.1.0 c.requires.1.1).0)

pub copy_within-requires-clause-dest_in_bounds : goal.copy_within-requires-clause-dest_in_bounds
copy_within-requires-clause-dest_in_bounds c = let f = (formed_next c.args.store.now c.args.from c.requires.1.0 c.requires.1.1).0 in search rules

pub returns-clause-moved : goal.returns-clause-moved
returns-clause-moved c = c.copy_within.ensures.after ∙ entry_moved c.args.store.now c.args.to c.args.from c.next_at-next.result c.requires.0 c.requires.1.0 c.requires.1.1 c.next_at-next.ensures (search rules)
