use borrow.Author.Rules.{rules}
use mathlib.Core.Path.{ap, ◌∙◌}
use mathlib.Core.Bool.{Bool, true}
use mathlib.Core.List.{List}
use mir.Syntax.{w32}
use mir.Val.{SFits}
use Prim.Native.Nat.{ℕ, ◌+◌}
use lib.ListN.{get_or, set, drop}
use lib.IntN.{pos}
use Rattle.literals.proofs.Laws.{answer}
use Rattle.tables.specs.Places.{place_in}
use Rattle.replacement.specs.Replaced.{with_place_marks}
use Rattle.replacement.proofs.Marks.{place_marks_step, place_marks_end}
use Rattle.replacement.proofs.mark_places.Goals as goal

pub loop-m-preserved : goal.loop-m-preserved
loop-m-preserved c =
    let t = c.args.places.now in
    let s = c.args.clause.now in
    let i = c.loop-m.m-index in
    let f : SFits w32 (get_or s i (pos 0)) = search rules in
    ap (λ (w : List Bool). with_place_marks t w (drop (i + 1) s))
    (c.put.ensures ∙ ap (λ (k : ℕ). set c.loop-m.marks k true) (answer (place_in t) (get_or s i (pos 0)) f c.place_of.ensures))
    ∙ place_marks_step t c.loop-m.marks s i c.loop-m-test.true
    ∙ c.loop-m.invariant

pub returns : goal.returns
returns c = place_marks_end c.args.places.now _ c.args.clause.now c.loop-m.m-index c.loop-m-test.false ∙ c.loop-m.invariant
