use Rattle.std.proofs.lemmas.Result.{err_from_is_err_and}
use Rattle.dimacs.proofs.HeaderLine.{line_none, line_fault, line_value}
use Rattle.dimacs.proofs.read_header.Goals as goal

pub returns-in_default : goal.returns-in_default
returns-in_default c = line_none c.args.most c.header_line.ensures c.in_default.is

pub returns-in_err-counts : goal.returns-in_err-counts
returns-in_err-counts c =
    let p = err_from_is_err_and c.from_residual.result c.from_residual.ensures.1 in
    rw (p.1, p.2) (line_fault c.args.most c.header_line.ensures c.in-Some.is c.in_err-counts.ensures)

pub returns : goal.returns
returns c = line_value c.args.most c.header_line.ensures c.in-Some.is c.in_ok-counts.ensures
