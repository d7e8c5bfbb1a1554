use Rattle.pass_clashes.proofs.Marking.{part_tested, part_none}
use Rattle.pass_clashes.proofs.mark_clause.Goals as goal

pub mark_variables-requires : goal.mark_variables-requires
mark_variables-requires c =
    let e = part_tested c.args.counts.now c.args.clause.now c.is_unique.ensures c.if-is_unique.true in
    (rw e at c.requires.0, c.requires.1)

pub returns-else-is_unique : goal.returns-else-is_unique
returns-else-is_unique c =
    let done = part_none c.args.marks.now c.args.table.now
    (part_tested c.args.counts.now c.args.clause.now c.is_unique.ensures c.if-is_unique.false) in
    record { table = done.0; marks = done.1 }
