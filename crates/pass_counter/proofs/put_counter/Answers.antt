use mathlib.Core.Path.{refl}
use Rattle.definition.specs.Counter.{stage_3}
use Rattle.pass_counter.specs.Choice.{choice_in}
use Rattle.pass_counter.proofs.Links.{counter_parts, first_room, rest_room, two_grown}
use Rattle.pass_counter.proofs.put_counter.Goals as goal

pub put_stage_2-q-requires : goal.put_stage_2-q-requires
put_stage_2-q-requires c =
    record {
      small = (c.requires.small.0, c.requires.small.1);
      grow_room = first_room (stage_3 (choice_in c.args.choice.now))
          (counter_parts c.args.choice.now.literals.now c.args.choice.now.below) refl c.requires.grow_room;
    }

pub put_stage_3-requires : goal.put_stage_3-requires
put_stage_3-requires c =
    record {
      small = (c.requires.small.0, c.requires.small.1);
      grow_room = rest_room (counter_parts c.args.choice.now.literals.now c.args.choice.now.below) refl refl c.requires.grow_room
          c.put_stage_2-q.ensures;
    }

pub returns : goal.returns
returns c =
    two_grown (counter_parts c.args.choice.now.literals.now c.args.choice.now.below) refl refl c.put_stage_2-q.ensures
    c.put_stage_3.ensures
