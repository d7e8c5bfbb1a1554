use borrow.Author.Rules.{rules}
use mathlib.Core.Path.{subst, ◌∙◌}
use mathlib.Core.List.{[], ◌∷◌}
use lib.IntN.{ℤ, pos, nat_abs}
use lib.ListN.{get_or}
use Rattle.theory_base.proofs.Loops.{getD_mem}
use Rattle.literals.proofs.Laws.{at_arg}
use Rattle.pass_clashes.specs.Marking.{MarkedBoth}
use Rattle.pass_clashes.proofs.Marking.{marked_start, marked_next}
use Rattle.pass_clashes.proofs.mark_variables.Goals as goal

pub loop-l-init : goal.loop-l-init
loop-l-init c = marked_start c.args.marks.now c.args.table.now

pub mark_variable-requires : goal.mark_variable-requires
mark_variable-requires c =
    let s = c.args.clause.now in (
      rw (at_arg nat_abs (get_or s c.loop-l.l-index (pos 0)) (search rules))
          (c.requires.0 (get_or s c.loop-l.l-index (pos 0))
          (getD_mem s c.loop-l.l-index (pos 0) c.loop-l-test.true)).1,
      c.loop-l.auto.marks ∙ c.requires.1,
    )

pub loop-l-preserved : goal.loop-l-preserved
loop-l-preserved c =
    let s = c.args.clause.now in
    let t = c.args.table.now in
    marked_next c.args.marks.now c.loop-l.marks c.mark_variable.new.marks t s c.loop-l.l-index c.loop-l-test.true
    c.loop-l.invariant
    (subst (λ (l : ℤ). MarkedBoth c.loop-l.marks t (l ∷ []) c.mark_variable.new.marks)
    (at_arg (λ (l : ℤ). l) (get_or s c.loop-l.l-index (pos 0)) (search rules))
    c.mark_variable.ensures)
