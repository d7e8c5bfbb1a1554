use Rattle.std.proofs.Common.{◌≡◌, set, cond, arith}
use borrow.Author.Rules.{sfits_of}
use Rattle.literals.proofs.Laws.{answer}
use Rattle.drat.proofs.Log.{line_stored, line_refused_by_clause}
use Rattle.drat.proofs.read_line.Goals as goal

pub returns-in_err-line-clause-read : goal.returns-in_err-line-clause-read
returns-in_err-line-clause-read c =
    let from : c.if-deletes.from ≡ cond c.starts_with-deletes.result 2 0 = grind arith in
    rw c.from_residual.ensures
    (line_refused_by_clause c.args.text.now c.starts_with-deletes.ensures.value from c.in_err-line.ensures.read)

pub returns-clause-read : goal.returns-clause-read
returns-clause-read c =
    let from : c.if-deletes.from ≡ cond c.starts_with-deletes.result 2 0 = grind arith in
    line_stored c.args.text.now c.starts_with-deletes.ensures.value from
    c.in_ok-line.ensures.read c.line_header.ensures
    (answer (set c.read_clause.new.store c.args.to) c.line_header.result (sfits_of c.line_header.type_inv) c.put.ensures)
