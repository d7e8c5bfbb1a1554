use borrow.Author.Rules.{rules}
use mathlib.Core.Path.{subst}
use Prim.Native.Nat.{ℕ}
use lib.IntN.{pos, nat_abs}
use lib.ListN.{get_or}
use Rattle.literals.proofs.Laws.{answer}
use Rattle.marks.specs.Marks.{WithoutMark}
use Rattle.pass_clashes.proofs.Marking.{unmarked_start, unmarked_next}
use Rattle.pass_clashes.proofs.unmark_variables.Goals as goal

pub loop-l-init : goal.loop-l-init
loop-l-init c = unmarked_start c.args.marks.now

pub loop-l-preserved : goal.loop-l-preserved
loop-l-preserved c =
    let s = c.args.clause.now in
    unmarked_next c.args.marks.now c.loop-l.marks c.clear.new.marks s c.loop-l.l-index c.loop-l-test.true
    c.loop-l.invariant
    (subst (λ (v : ℕ). WithoutMark c.loop-l.marks v c.clear.new.marks)
    (answer nat_abs (get_or s c.loop-l.l-index (pos 0)) (search rules) c.variable.ensures)
    c.clear.ensures)
