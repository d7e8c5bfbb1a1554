use Prim.Native.Nat.{◌-◌}
use Rattle.literals.specs.Literal.{negation}
use Rattle.literals.proofs.Laws.{answer}
use Rattle.pairs.specs.Pairs.{literal_at}
use Rattle.pass_counter.proofs.Links.{first_made, second_made, third_made, link_2_parts, link_2_more, link_2_last, first_room, second_room, third_room, three_grown}
use borrow.Author.Rules.{rules, sfits_of}
use Rattle.pass_counter.proofs.put_link_2.Goals as goal

pub add_clause-a-requires : goal.add_clause-a-requires
add_clause-a-requires c =
    let a = c.args in
    let e = link_2_parts a.choice.now.literals.now a.choice.now.below a.i in
    let d = first_made c.requires.small.0 a.i c.requires.small.1 c.requires.small.2 (sfits_of c.signed-not_s.type_inv) (sfits_of c.signed-before.type_inv)
    (sfits_of c.l-1.given) c.signed-not_s.ensures c.signed-before.ensures in
    (search rules, first_room (link_2_more a.choice.now.literals.now a.choice.now.below a.i) e d c.requires.grow_room)

pub add_clause-b-requires : goal.add_clause-b-requires
add_clause-b-requires c =
    let a = c.args in
    let e = link_2_parts a.choice.now.literals.now a.choice.now.below a.i in
    let d = first_made c.requires.small.0 a.i c.requires.small.1 c.requires.small.2 (sfits_of c.signed-not_s.type_inv) (sfits_of c.signed-before.type_inv)
    (sfits_of c.l-1.given) c.signed-not_s.ensures c.signed-before.ensures in
    let k = second_made c.requires.small.0 a.i c.requires.small.1 c.requires.small.2 (sfits_of c.signed-s.type_inv) (sfits_of c.signed-not_before.type_inv)
    c.signed-s.ensures c.signed-not_before.ensures in
    (search rules, second_room (link_2_last a.choice.now.literals.now a.choice.now.below a.i) e d k c.requires.grow_room c.add_clause-a.ensures)

pub add_clause-requires : goal.add_clause-requires
add_clause-requires c =
    let a = c.args in
    let e = link_2_parts a.choice.now.literals.now a.choice.now.below a.i in
    let d = first_made c.requires.small.0 a.i c.requires.small.1 c.requires.small.2 (sfits_of c.signed-not_s.type_inv) (sfits_of c.signed-before.type_inv)
    (sfits_of c.l-1.given) c.signed-not_s.ensures c.signed-before.ensures in
    let k = second_made c.requires.small.0 a.i c.requires.small.1 c.requires.small.2 (sfits_of c.signed-s.type_inv) (sfits_of c.signed-not_before.type_inv)
    c.signed-s.ensures c.signed-not_before.ensures in
    let m = third_made c.requires.small.0 a.i c.requires.small.1 c.requires.small.2 (sfits_of c.signed-s.type_inv) (sfits_of c.negated.type_inv)
    c.signed-s.ensures
    (answer negation (literal_at a.choice.now.literals.now (a.i - 1)) (sfits_of c.l-1.given) c.negated.ensures) in
    (search rules, third_room e d k m c.requires.grow_room c.add_clause-a.ensures c.add_clause-b.ensures)

pub returns : goal.returns
returns c =
    let a = c.args in
    let e = link_2_parts a.choice.now.literals.now a.choice.now.below a.i in
    let d = first_made c.requires.small.0 a.i c.requires.small.1 c.requires.small.2 (sfits_of c.signed-not_s.type_inv) (sfits_of c.signed-before.type_inv)
    (sfits_of c.l-1.given) c.signed-not_s.ensures c.signed-before.ensures in
    let k = second_made c.requires.small.0 a.i c.requires.small.1 c.requires.small.2 (sfits_of c.signed-s.type_inv) (sfits_of c.signed-not_before.type_inv)
    c.signed-s.ensures c.signed-not_before.ensures in
    let m = third_made c.requires.small.0 a.i c.requires.small.1 c.requires.small.2 (sfits_of c.signed-s.type_inv) (sfits_of c.negated.type_inv)
    c.signed-s.ensures
    (answer negation (literal_at a.choice.now.literals.now (a.i - 1)) (sfits_of c.l-1.given) c.negated.ensures) in
    three_grown e d k m c.add_clause-a.ensures c.add_clause-b.ensures c.add_clause.ensures
