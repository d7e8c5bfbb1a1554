use borrow.Author.Rules.{rules}
use native.Mathlib.Omega.{arith}
use mathlib.Core.Path.{ap}
use mir.Syntax.{w32}
use mir.Val.{SFits}
use lib.ListN.{length}
use Rattle.store.specs.Store.{header_at, clause_at}
use Rattle.store.proofs.Laws.{formed_next, part_there}
use Rattle.progress.proofs.Writing.{past_is, clause_written, clause_short}
use Rattle.progress.proofs.delete_first.Goals as goal

pub slice_bounds-record_first-end : goal.slice_bounds-record_first-end
slice_bounds-record_first-end c =
    let s = c.args.work.now in
    let f : SFits w32 (header_at s c.args.at) = search rules in
    omega (arith, past_is s c.args.at f c.header_length.ensures, (formed_next s c.args.at c.requires.at_in_bounds.0 c.requires.at_in_bounds.1).0)

pub record_first-q-requires : goal.record_first-q-requires
record_first-q-requires c =
    let s = c.args.work.now in
    let f : SFits w32 (header_at s c.args.at) = search rules in
    let part = part_there s c.args.at _ (past_is s c.args.at f c.header_length.ensures) in record {
      clause_bound = omega (arith, c.requires.at_bound.0, ap length part, clause_short s c.args.at f);
      lines_bound = omega (arith, c.requires.at_bound.1);
    }

pub returns : goal.returns
returns c =
    let s = c.args.work.now in
    let f : SFits w32 (header_at s c.args.at) = search rules in
    let part = part_there s c.args.at _ (past_is s c.args.at f c.header_length.ensures) in record {
      written = clause_written c.args.l (clause_at s c.args.at) c.ranges.l part c.record_first-q.ensures.written;
      kept = c.record_first-q.ensures.kept;
      marked = c.mark_deleted.ensures;
    }
