use native.Mathlib.Omega.{arith}
use Rattle.pass_order.proofs.Steps.{clause_inside, step_replaceable, deletion_room, step_replaced}
use Rattle.pass_order.proofs.replace_at.Goals as goal

pub add_result-q-requires : goal.add_result-q-requires
add_result-q-requires c =
    record {
      tabled = (
        c.requires.table,
        clause_inside c.args.work.now c.args.at c.requires c.next_at-next.ensures,
        c.requires.indexed,
      );
      replaceable = step_replaceable c.args.work.now c.args.at c.requires c.next_at-next.ensures;
    }

pub slice_bounds-record_line-end : goal.slice_bounds-record_line-end
slice_bounds-record_line-end c =
    omega (
      arith,
      clause_inside c.args.work.now c.args.at c.requires c.next_at-next.ensures,
      c.requires.indexed.room,
      c.add_result-q.auto.work,
    )

pub record_line-r-requires : goal.record_line-r-requires
record_line-r-requires c =
    let done = deletion_room c.args.work.now c.args.at c.requires c.next_at-next.ensures c.add_result-q.ensures in
    record { clause_bound = done.0; lines_bound = done.1 }

pub returns : goal.returns
returns c =
    step_replaced c.args.work.now c.args.at c.requires c.next_at-next.ensures c.add_result-q.ensures
    c.record_line-r.ensures.written c.record_line-r.ensures.kept c.mark_deleted.ensures
