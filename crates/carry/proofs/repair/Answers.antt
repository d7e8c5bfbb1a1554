use mathlib.Core.Path.{sym, ap, ◌∙◌}
use borrow.Author.Rules.{rules}
use lib.IntN.{ℤ}
use Rattle.literals.proofs.Laws.{at_arg}
use Rattle.answer.specs.Table.{marked, naming}
use Rattle.theory_base.proofs.Lines.{repaired_true}
use Rattle.carry.proofs.Carrying.{repaired_first, repaired_none}
use Rattle.carry.proofs.repair.Goals as goal

pub returns-then-has_true : goal.returns-then-has_true
returns-then-has_true c =
    λ w. repaired_true c.args.clause.now (marked c.args.marks.now)
    (sym c.has_true.ensures ∙ c.if-has_true.true)

pub returns-in-Some : goal.returns-in-Some
returns-in-Some c =
    λ w. let m = c.args.marks.now in
    ap marked (c.make_true.ensures ∙ at_arg (λ (z : ℤ). naming z m) c.in-Some.first.now (search rules))
    ∙ repaired_first m c.args.clause.now c.in-Some.first.now c.in-Some.ensures.value w
    (sym c.has_true.ensures ∙ c.if-has_true.false)

pub returns-in_default : goal.returns-in_default
returns-in_default c = λ w. repaired_none (marked c.args.marks.now) c.args.clause.now c.in_default.ensures.value
