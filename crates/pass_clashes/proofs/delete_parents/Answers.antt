-- Each clause is the only one with its literal, and the second stays where the first is marked (Parents).
use native.Mathlib.Omega.{arith}
use mathlib.Core.Path.{◌∙◌}
use mathlib.Core.Bool.{true, false}
use borrow.Author.Rules.{sfits_of}
use Rattle.literals.proofs.Laws.{signed_small}
use mir.Syntax.{w32}
use mir.ValLaws.{to_z-of_z}
use Rattle.pass_clashes.proofs.Parents.{second_standing, parents_room, parents_gone}
use Rattle.pass_clashes.proofs.delete_parents.Goals as goal

pub delete_first-requires : goal.delete_first-requires
delete_first-requires c =
    let p = c.requires.parents in
    let v = c.args.clash.v in
    let e = to_z-of_z w32 c.signed.result (sfits_of c.signed.type_inv)
    ∙ c.signed.ensures
    ∙ signed_small false v (omega (arith, p.small)) in
    let s = second_standing p in record {
      at_in_bounds = rw c.delete_first-q.ensures.marked (s.inside, s.place.rest);
      at_bound = parents_room p _ e c.requires.log_room c.delete_first-q.ensures.written;
    }

pub returns : goal.returns
returns c =
    let p = c.requires.parents in
    let v = c.args.clash.v in
    let e = to_z-of_z w32 c.signed.result (sfits_of c.signed.type_inv)
    ∙ c.signed.ensures
    ∙ signed_small false v (omega (arith, p.small)) in
    let f = to_z-of_z w32 c.signed-2.result (sfits_of c.signed-2.type_inv)
    ∙ c.signed-2.ensures
    ∙ signed_small true v (omega (arith, p.small)) in
    parents_gone p _ _ e f c.delete_first-q.ensures.written c.delete_first-q.ensures.kept c.delete_first-q.ensures.marked
    c.delete_first.ensures.written c.delete_first.ensures.kept c.delete_first.ensures.marked
