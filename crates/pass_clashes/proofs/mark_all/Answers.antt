use mathlib.Core.Path.{◌∙◌}
use Rattle.pass_clashes.proofs.Marking.{marking_start, part_fits, marking_next, marking_end}
use Rattle.pass_clashes.proofs.mark_all.Goals as goal

pub loop-clause-init : goal.loop-clause-init
loop-clause-init c = marking_start (c.into_iter-clause-iterator.ensures.into_iter_gives ∙ c.standing-clause-items.ensures) c.requires.marks_value.0 c.requires.marks_value.1

pub mark_clause-requires : goal.mark_clause-requires
mark_clause-requires c = (part_fits c.requires.counted.0 c.loop-clause.invariant c.in-Some.ensures.steps, c.loop-clause.invariant.marks_size)

pub loop-clause-preserved : goal.loop-clause-preserved
loop-clause-preserved c =
    marking_next c.requires.counted.0 c.loop-clause.invariant c.in-Some.ensures.steps c.mark_clause.ensures.table
    c.mark_clause.ensures.marks c.mark_clause.auto.marks

pub returns : goal.returns
returns c = marking_end c.loop-clause.invariant c.in-None.ensures.steps.0 c.requires.counted.1
