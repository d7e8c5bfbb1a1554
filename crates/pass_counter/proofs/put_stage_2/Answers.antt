use mathlib.Core.Path.{refl, ◌∙◌}
use native.Mathlib.Omega.{arith}
use Prim.Native.Nat.{◌+◌}
use Rattle.literals.specs.Literal.{negation}
use Rattle.literals.proofs.Laws.{answer}
use Rattle.pairs.specs.Pairs.{literal_at}
use Rattle.pass_counter.proofs.Links.{two_passed, new_is, new_negated, lit_is, lit_negated, stage_2_parts, stage_2_more, stage_2_last, first_room, second_room, third_room, three_grown}
use borrow.Author.Rules.{rules, sfits_of}
use Rattle.pass_counter.proofs.put_stage_2.Goals as goal

pub add_clause-a-requires : goal.add_clause-a-requires
add_clause-a-requires c = (
  search rules,
  first_room (stage_2_more c.args.choice.now.literals.now c.args.choice.now.below)
      (stage_2_parts c.args.choice.now.literals.now c.args.choice.now.below)
      (two_passed (sfits_of c.signed-not_s.type_inv) (sfits_of c.l-1.given)
      (c.signed-not_s.ensures ∙ new_negated c.requires.small.0 1 (c.args.choice.now.below + 1) refl (omega arith))
      (lit_is c.args.choice.now.literals.now c.args.choice.now.below 1)) c.requires.grow_room,
)

pub add_clause-b-requires : goal.add_clause-b-requires
add_clause-b-requires c = (
  search rules,
  second_room (stage_2_last c.args.choice.now.literals.now c.args.choice.now.below)
      (stage_2_parts c.args.choice.now.literals.now c.args.choice.now.below)
      (two_passed (sfits_of c.signed-not_s.type_inv) (sfits_of c.l-1.given)
      (c.signed-not_s.ensures ∙ new_negated c.requires.small.0 1 (c.args.choice.now.below + 1) refl (omega arith))
      (lit_is c.args.choice.now.literals.now c.args.choice.now.below 1))
      (two_passed (sfits_of c.signed-s.type_inv) (sfits_of c.negated.type_inv)
      (c.signed-s.ensures ∙ new_is c.requires.small.0 1 (c.args.choice.now.below + 1) refl (omega arith))
      (answer negation (literal_at c.args.choice.now.literals.now 0) (sfits_of c.l-1.given) c.negated.ensures
      ∙ lit_negated c.requires.small.0 1 (omega arith) (omega (arith, c.requires.small.1)))) c.requires.grow_room
      c.add_clause-a.ensures,
)

pub put_links_2-requires : goal.put_links_2-requires
put_links_2-requires c =
    record {
      small = (c.requires.small.0, c.requires.small.1);
      grow_room = third_room (stage_2_parts c.args.choice.now.literals.now c.args.choice.now.below)
          (two_passed (sfits_of c.signed-not_s.type_inv) (sfits_of c.l-1.given)
          (c.signed-not_s.ensures ∙ new_negated c.requires.small.0 1 (c.args.choice.now.below + 1) refl (omega arith))
          (lit_is c.args.choice.now.literals.now c.args.choice.now.below 1))
          (two_passed (sfits_of c.signed-s.type_inv) (sfits_of c.negated.type_inv)
          (c.signed-s.ensures ∙ new_is c.requires.small.0 1 (c.args.choice.now.below + 1) refl (omega arith))
          (answer negation (literal_at c.args.choice.now.literals.now 0) (sfits_of c.l-1.given) c.negated.ensures
          ∙ lit_negated c.requires.small.0 1 (omega arith) (omega (arith, c.requires.small.1)))) refl c.requires.grow_room
          c.add_clause-a.ensures c.add_clause-b.ensures;
    }

pub returns : goal.returns
returns c =
    three_grown (stage_2_parts c.args.choice.now.literals.now c.args.choice.now.below)
    (two_passed (sfits_of c.signed-not_s.type_inv) (sfits_of c.l-1.given)
    (c.signed-not_s.ensures ∙ new_negated c.requires.small.0 1 (c.args.choice.now.below + 1) refl (omega arith))
    (lit_is c.args.choice.now.literals.now c.args.choice.now.below 1))
    (two_passed (sfits_of c.signed-s.type_inv) (sfits_of c.negated.type_inv)
    (c.signed-s.ensures ∙ new_is c.requires.small.0 1 (c.args.choice.now.below + 1) refl (omega arith))
    (answer negation (literal_at c.args.choice.now.literals.now 0) (sfits_of c.l-1.given) c.negated.ensures
    ∙ lit_negated c.requires.small.0 1 (omega arith) (omega (arith, c.requires.small.1)))) refl c.add_clause-a.ensures
    c.add_clause-b.ensures c.put_links_2.ensures
