use mathlib.Core.Path.{◌∙◌}
use native.Mathlib.Omega.{arith}
use Rattle.dimacs.proofs.FormulaText.{written_start, written_room, written_more, written_all}
use Rattle.dimacs.proofs.put_entries.Goals as goal

pub loop-clause-init : goal.loop-clause-init
loop-clause-init c =
    rw (c.into_iter-clause-iterator.ensures.into_iter_gives ∙ c.standing-clause-items.ensures)
    (written_start c.args.buf.now c.args.from c.args.store.now c.requires.formed)

pub put_clause-end-requires : goal.put_clause-end-requires
put_clause-end-requires c = omega (arith, written_room c.loop-clause.invariant c.in-Some.ensures.steps, c.requires.store_bound)

pub loop-clause-preserved : goal.loop-clause-preserved
loop-clause-preserved c = written_more c.loop-clause.invariant c.in-Some.ensures.steps c.put_clause-end.ensures.written c.put_clause-end.ensures.within

pub returns : goal.returns
returns c = written_all c.loop-clause.invariant c.in-None.ensures.steps.0
