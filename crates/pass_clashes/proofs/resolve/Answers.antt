-- The resolvent moves neither clause, a tautology adds nothing, and deletions keep the index (Resolved); the resolvent is weighed where it was added (Weighing).
use native.Mathlib.Omega.{arith}
use mathlib.Core.Path.{refl}
use lib.ListN.{take}
use lib.Seq.{length-take-le}
use Rattle.pass_clashes.specs.Clashes.{clash_there}
use Rattle.pass_clashes.proofs.Adding.{parents, opposed_as, none_grown}
use Rattle.pass_clashes.proofs.Resolved.{resolvent_inside, resolvent_there, parents_kept, room_kept, resolved, resolved_indexed, reweighs_dropped, reweighs_added, ended_dropped, ended_added}
use borrow.Author.Rules.{rules}
use Rattle.pass_clashes.proofs.resolve.Goals as goal

pub is_tautology-requires : goal.is_tautology-requires
is_tautology-requires c = (
  parents c.requires.0,
  omega (
    arith,
    c.requires.0.good.small,
    length-take-le c.args.p.end c.args.work.now c.requires.0.good.inside,
  ),
  c.requires.1,
)

pub delete_parents-requires : goal.delete_parents-requires
delete_parents-requires c =
    let d = none_grown c.requires.0 c.args.log.now
    (opposed_as c.requires.0 c.is_tautology.ensures.answer c.if-is_tautology.true) in
    record { parents = parents_kept c.requires.0 d; log_room = room_kept c.requires.0 d }

pub returns-then-is_tautology : goal.returns-then-is_tautology
returns-then-is_tautology c =
    let k = clash_there (take c.args.p.end c.args.work.now) c.args.clash.v c.args.clash.one
    c.args.clash.other in
    let o = opposed_as c.requires.0 c.is_tautology.ensures.answer c.if-is_tautology.true in
    let d = none_grown c.requires.0 c.args.log.now o in
    let g = resolved c.requires.0 d c.delete_parents.auto.store refl c.delete_parents.ensures in record {
      runs = g;
      ended = ended_dropped k c.args.marks.now c.unmark_entry-then-is_tautology.new.marks c.unmark_entry.new.marks o
          c.unmark_entry.ensures c.unmark_entry-then-is_tautology.ensures;
      indexed = resolved_indexed c.requires.0 d c.delete_parents.ensures;
      table = c.is_tautology.ensures.table;
      weights = reweighs_dropped c.requires.0 g c.args.weights.now o;
    }

pub slice_bounds-weigh-count : goal.slice_bounds-weigh-count
slice_bounds-weigh-count c =
    let i = resolvent_inside c.requires.0 c.add_resolvent-q.ensures
    (opposed_as c.requires.0 c.is_tautology.ensures.answer c.if-is_tautology.false) in
    search (rules, i)

pub slice_bounds-weigh-start : goal.slice_bounds-weigh-start
slice_bounds-weigh-start c =
    let i = resolvent_inside c.requires.0 c.add_resolvent-q.ensures
    (opposed_as c.requires.0 c.is_tautology.ensures.answer c.if-is_tautology.false) in
    search (rules, i)

pub delete_parents-requires-2 : goal.delete_parents-requires-2
delete_parents-requires-2 c =
    record {
      parents = parents_kept c.requires.0 c.add_resolvent-q.ensures;
      log_room = room_kept c.requires.0 c.add_resolvent-q.ensures;
    }

pub returns : goal.returns
returns c =
    let k = clash_there (take c.args.p.end c.args.work.now) c.args.clash.v c.args.clash.one
    c.args.clash.other in
    let o = opposed_as c.requires.0 c.is_tautology.ensures.answer c.if-is_tautology.false in
    let d = c.add_resolvent-q.ensures in
    let g = resolved c.requires.0 d c.delete_parents-2.auto.store c.add_resolvent-q.auto.work c.delete_parents-2.ensures in record {
      runs = g;
      ended = ended_added k c.args.marks.now c.clear.new.marks o c.clear.ensures;
      indexed = resolved_indexed c.requires.0 d c.delete_parents-2.ensures;
      table = c.is_tautology.ensures.table;
      weights = reweighs_added c.requires.0 g c.args.weights.now c.requires.2.size
          (resolvent_there c.requires.0 d o) c.weigh.ensures;
    }
