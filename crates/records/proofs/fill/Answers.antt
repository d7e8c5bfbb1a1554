use Rattle.std.proofs.Common.{sym, arith}
use Rattle.records.proofs.Filling.{none_filled, next_filled}
use Rattle.records.proofs.fill.Goals as goal

pub loop-i-init : goal.loop-i-init
loop-i-init c = sym (none_filled c.args.rows.now 0 c.args.table.now)

pub loop-i-preserved : goal.loop-i-preserved
loop-i-preserved c =
    let e = next_filled c.args.rows.now c.loop-i.i c.args.table.now (omega arith) in
    rw (c.put_record.ensures, c.row_at.ensures, c.loop-i.invariant) e
