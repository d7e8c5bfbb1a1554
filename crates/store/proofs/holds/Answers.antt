use borrow.Author.Rules.{rules}
use borrow.Author.Tests.{eq-eqb, ne_eqb}
use mathlib.Core.Path.{◌≡◌, sym, ◌∙◌}
use mathlib.Core.Bool.{true, false}
use lib.ListN.{get_or}
use lib.IntN.{pos}
use Rattle.definition.specs.Literals.{same, holds}
use Rattle.literals.proofs.Bits.{same_bits}
use Rattle.theory_base.proofs.Slices.{any_hit, any_miss, any_end}
use Rattle.store.proofs.holds.Goals as goal
use Rattle.store.proofs.holds.Goals.{Then-m-l, Else-m-l}

pub returns-then-m-l : goal.returns-then-m-l
unfolding holds
returns-then-m-l c =
    let a = c.args in
    let i = c.loop-m.m-index in
    let x = get_or a.clause.now i (pos 0) in
    let e : same a.l.now x ≡ true = sym (same_bits a.l.now x (search rules) (search rules)) ∙ eq-eqb _ _ (sym c.if-m-l.true) in
    any_hit (same a.l.now) a.clause.now i (pos 0) c.loop-m-test.true e ∙ c.loop-m.invariant

pub loop-m-preserved : goal.loop-m-preserved
unfolding holds
loop-m-preserved c =
    let a = c.args in
    let i = c.loop-m.m-index in
    let x = get_or a.clause.now i (pos 0) in
    let e : same a.l.now x ≡ false = sym (same_bits a.l.now x (search rules) (search rules)) ∙ ne_eqb _ _ (λ h. c.if-m-l.false (sym h)) in
    any_miss (same a.l.now) a.clause.now i (pos 0) c.loop-m-test.true e ∙ c.loop-m.invariant

pub returns : goal.returns
unfolding holds
returns c = any_end (same c.args.l.now) c.args.clause.now c.loop-m.m-index c.loop-m-test.false ∙ c.loop-m.invariant
