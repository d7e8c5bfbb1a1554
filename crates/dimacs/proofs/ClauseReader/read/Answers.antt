use Rattle.std.proofs.lemmas.Result.{err_from_is_err_and}
use Rattle.dimacs.proofs.Reading.{kept_fault, kept_nothing, kept_full, kept_stored}
use Rattle.dimacs.proofs.ClauseReader.read.Goals as goal

pub returns-in_err-clause : goal.returns-in_err-clause
returns-in_err-clause c =
    let p = err_from_is_err_and c.from_residual.result c.from_residual.ensures.1 in
    rw (p.1, p.2) (kept_fault c.args.text.now c.args.variables c.args.room c.in_err-clause.ensures)

pub returns-in_default : goal.returns-in_default
returns-in_default c =
    let p = rw c.in_default.is at c.in_ok-clause.ensures in
    kept_nothing c.args.text.now c.args.variables c.args.room p c.args.store.now

pub returns-then-room-count : goal.returns-then-room-count
returns-then-room-count c =
    let p = rw c.in-Some.is at c.in_ok-clause.ensures in
    kept_full c.args.text.now c.args.variables c.args.room p c.if-room-count.true

pub returns : goal.returns
returns c =
    let p = rw c.in-Some.is at c.in_ok-clause.ensures in
    kept_stored c.args.text.now c.args.variables c.args.room p c.if-room-count.false c.copy_at.ensures
