use native.Mathlib.Omega.{arith}
use mathlib.Core.Path.{ap, ap₂, sym, ◌∙◌}
use Prim.Native.Nat.{ℕ}
use mir.Syntax.{w32}
use mir.Val.{SFits}
use borrow.Author.Rules.{rules}
use lib.IntN.{pos}
use lib.ListN.{get_or}
use Rattle.literals.proofs.Laws.{answer}
use Rattle.tables.specs.Places.{place_in}
use Rattle.pairs.specs.Pairs.{ordered_slot, as_slot}
use Rattle.pairs.proofs.Slots.{slot_sorted}
use Rattle.pairs.proofs.pair_slot.Goals as goal

pub returns-in-len2 : goal.returns-in-len2
returns-in-len2 c =
    let t = c.args.places.now in
    let d = c.args.clause.now in
    let x : SFits w32 (get_or d 0 (pos 0)) = search rules in
    let y : SFits w32 (get_or d 1 (pos 0)) = search rules in
    c.ordered_slot.ensures
    ∙ ap as_slot
    (ap₂ (λ (a b : ℕ). ordered_slot a b) c.min.ensures c.max.ensures
    ∙ sym (slot_sorted t d (omega arith) (answer (place_in t) (get_or d 0 (pos 0)) x c.place_of-a.ensures) (answer (place_in t) (get_or d 1 (pos 0)) y c.place_of-b.ensures)))
