-- The parts between the places past the headers and those past the entries are the two clauses (Adding).
use native.Mathlib.Omega.{arith}
use Rattle.pass_clashes.proofs.Adding.{parts_joinable, still_indexed, entry_there, nodes_room, resolvent_grown}
use Rattle.pass_clashes.proofs.add_resolvent.Goals as goal

pub append_resolvent-next-requires : goal.append_resolvent-next-requires
append_resolvent-next-requires c = parts_joinable c.requires.resolvable c.next_at.ensures c.next_at-2.ensures c.requires.y_value

pub record_added-requires : goal.record_added-requires
record_added-requires c =
    let r = c.requires.resolvable in
    let i = c.next_at.ensures in
    let j = c.next_at-2.ensures in
    let o = c.requires.y_value in
    let d = c.append_resolvent-next.ensures.next in
    let w = c.append_resolvent-next.ensures.written in record {
      indexed = (still_indexed r i j o d w, entry_there r i j o d w);
      end_in_bounds = nodes_room r i j o d w;
      at_bound = (omega (arith, r.good.room.text), omega (arith, r.good.room.count));
    }

pub returns : goal.returns
returns c =
    resolvent_grown c.requires.resolvable c.next_at.ensures c.next_at-2.ensures c.requires.y_value
    c.append_resolvent-next.ensures.next c.append_resolvent-next.ensures.written c.record_added.ensures
