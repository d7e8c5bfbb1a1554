use mathlib.Core.Path.{◌≡◌, ap}
use Prim.Native.Nat.{ℕ, ◌+◌, ◌-◌}
use native.Mathlib.Omega.{arith}
use lib.ListN.{length}
use Rattle.definition.specs.Lists.{for_from}
use Rattle.pass_counter.specs.Choice.{choice_in}
use Rattle.pass_counter.specs.Links.{link_3}
use Rattle.progress.proofs.Growing.{grown_start, grow_turn, grown_turn}
use Rattle.pass_counter.proofs.Links.{grown_as}
use Rattle.pass_counter.proofs.put_links_3.Goals as goal

pub loop-i-init : goal.loop-i-init
loop-i-init c = grown_start 2 2 (link_3 (choice_in c.args.choice.now)) c.args.work.now c.args.newest.now c.args.log.now c.args.p c.requires.grow_room.indexed (omega arith)

pub put_link_3-q-requires-clause-grow_room : goal.put_link_3-q-requires-clause-grow_room
put_link_3-q-requires-clause-grow_room c =
    grow_turn 2 (length c.args.choice.now.literals.now - 1) c.loop-i.i (link_3 (choice_in c.args.choice.now)) (omega arith) (omega arith) c.requires.grow_room c.loop-i.invariant

pub loop-i-preserved : goal.loop-i-preserved
loop-i-preserved c = grown_turn 2 c.loop-i.i (link_3 (choice_in c.args.choice.now)) (omega arith) c.loop-i.invariant c.put_link_3-q.ensures

pub returns-2 : goal.returns-2
returns-2 c =
    let e : c.loop-i.i + 1 - 2 ≡ length c.args.choice.now.literals.now - 1 = omega arith in
    grown_as (grown_turn 2 c.loop-i.i (link_3 (choice_in c.args.choice.now)) (omega arith) c.loop-i.invariant c.put_link_3-q.ensures)
    (ap (λ (m : ℕ). for_from 2 m (link_3 (choice_in c.args.choice.now))) e)
