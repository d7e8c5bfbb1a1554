use mathlib.Core.Path.{sym, ◌∙◌}
use mir.Syntax.{w32}
use mir.Val.{SFits}
use borrow.Author.Rules.{rules}
use Rattle.literals.specs.Literal.{negative}
use Rattle.literals.proofs.Laws.{answered}
use Rattle.store.specs.Store.{header_at}
use Rattle.pairs.proofs.Taking.{step_pair, step_other}
use Rattle.pairs.proofs.take_pair.Goals as goal

pub returns-in-Some : goal.returns-in-Some
returns-in-Some c =
    let s = c.args.store.now in
    let f : SFits w32 (header_at s c.args.at) = search rules in
    step_pair c.args.places.now s c.args.at c.args.counts.now (answered negative (header_at s c.args.at) f c.is_negative.ensures c.if-is_negative.false)
    c.clause_at.ensures (sym c.in-Some.is ∙ c.pair_slot.ensures) c.mark_deleted.ensures c.count_at.ensures

pub returns-in_default : goal.returns-in_default
returns-in_default c =
    let s = c.args.store.now in
    let f : SFits w32 (header_at s c.args.at) = search rules in
    step_other c.args.places.now s c.args.at c.args.counts.now (answered negative (header_at s c.args.at) f c.is_negative.ensures c.if-is_negative.false)
    c.clause_at.ensures (sym c.in_default.is ∙ c.pair_slot.ensures)
