-- The literals of a clash stand in one clause each (Finding).
use native.Mathlib.Omega.{arith}
use mathlib.Core.Path.{subst, ◌∙◌}
use mathlib.Core.Bool.{true, false}
use lib.IntN.{ℤ}
use lib.ListN.{take}
use Prim.Native.Nat.{◌≤◌}
use mir.Syntax.{w32}
use mir.ValLaws.{to_z-of_z}
use borrow.Author.Rules.{sfits_of}
use Rattle.definition.specs.Clearing.{times}
use Rattle.literals.proofs.Laws.{signed_small}
use Rattle.store.specs.Store.{stored}
use Rattle.index.specs.Reading.{FoundWith}
use Rattle.pass_clashes.proofs.Finding.{found_clashing}
use Rattle.pass_clashes.proofs.find_clash.Goals as goal

pub returns-clause-places : goal.returns-clause-places
returns-clause-places c =
    let s = take c.args.end c.args.work.now in
    let v = c.args.v in
    let e = to_z-of_z w32 c.signed.result (sfits_of c.signed.type_inv)
    ∙ c.signed.ensures
    ∙ signed_small false v (omega (arith, c.requires.1)) in
    let f = to_z-of_z w32 c.signed-2.result (sfits_of c.signed-2.type_inv)
    ∙ c.signed-2.ensures
    ∙ signed_small true v (omega (arith, c.requires.1)) in
    found_clashing
    (subst (λ (z : ℤ). 1 ≤ times z (stored s) → FoundWith z s c.place_with.result) e c.place_with.ensures)
    (subst (λ (z : ℤ). 1 ≤ times z (stored s) → FoundWith z s c.place_with-2.result) f c.place_with-2.ensures)
