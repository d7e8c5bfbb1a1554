use mathlib.Core.Path.{refl, ◌∙◌}
use native.Mathlib.Omega.{arith}
use Prim.Native.Nat.{◌+◌, ◌-◌}
use lib.ListN.{length}
use Rattle.pass_counter.proofs.Links.{two_passed, new_is, lit_is, stage_3_parts, stage_3_first, stage_3_last, first_room, rest_room, two_grown}
use borrow.Author.Rules.{rules, sfits_of}
use Rattle.pass_counter.proofs.put_stage_3.Goals as goal

pub put_links_3-a-requires : goal.put_links_3-a-requires
put_links_3-a-requires c =
    record {
      small = (c.requires.small.0, c.requires.small.1);
      grow_room = first_room (stage_3_last c.args.choice.now.literals.now c.args.choice.now.below)
          (stage_3_parts c.args.choice.now.literals.now c.args.choice.now.below) refl c.requires.grow_room;
    }

pub add_clause-requires : goal.add_clause-requires
add_clause-requires c = (
  search rules,
  rest_room {f = stage_3_first c.args.choice.now.literals.now c.args.choice.now.below} (stage_3_parts c.args.choice.now.literals.now c.args.choice.now.below) refl
      (two_passed (sfits_of c.signed-s.type_inv) (sfits_of c.add_clause-arg-4-1.given)
      (c.signed-s.ensures
      ∙ new_is c.requires.small.0 (length c.args.choice.now.literals.now - 1)
      (c.args.choice.now.below + (length c.args.choice.now.literals.now - 1)) refl (omega (arith, c.requires.small.0.few)))
      (lit_is c.args.choice.now.literals.now c.args.choice.now.below (length c.args.choice.now.literals.now))) c.requires.grow_room
      c.put_links_3-a.ensures,
)

pub returns : goal.returns
returns c =
    two_grown {f = stage_3_first c.args.choice.now.literals.now c.args.choice.now.below} (stage_3_parts c.args.choice.now.literals.now c.args.choice.now.below) refl
    (two_passed (sfits_of c.signed-s.type_inv) (sfits_of c.add_clause-arg-4-1.given)
    (c.signed-s.ensures
    ∙ new_is c.requires.small.0 (length c.args.choice.now.literals.now - 1)
    (c.args.choice.now.below + (length c.args.choice.now.literals.now - 1)) refl (omega (arith, c.requires.small.0.few)))
    (lit_is c.args.choice.now.literals.now c.args.choice.now.below (length c.args.choice.now.literals.now)))
    c.put_links_3-a.ensures c.add_clause.ensures
