use native.Mathlib.Omega.{arith}
use Rattle.std.proofs.lemmas.Result.{err_from_is_err_and}
use Rattle.theory_base.proofs.Slices.{rest_is}
use Rattle.dimacs.proofs.Reading.{header_fault, header_within, formula_clauses}
use Rattle.dimacs.proofs.read.Goals as goal

pub returns-in_err-header : goal.returns-in_err-header
returns-in_err-header c =
    let p = err_from_is_err_and c.from_residual.result c.from_residual.ensures.1 in
    let done = header_fault c.args.most c.args.text.now c.args.store.now c.args.store.now c.in_err-header.ensures in
    rw (p.1, p.2) (record { outcome = done.0; stored = done.1 })

pub read_clauses-requires-clause-variables_le_log_reach : goal.read_clauses-requires-clause-variables_le_log_reach
read_clauses-requires-clause-variables_le_log_reach c =
    omega (arith, (header_within c.args.most c.args.text.now c.in_ok-header.header.next c.in_ok-header.ensures.0).0, c.requires.variables)

pub read_clauses-requires-clause-clauses_bound : goal.read_clauses-requires-clause-clauses_bound
read_clauses-requires-clause-clauses_bound c =
    omega (arith, (header_within c.args.most c.args.text.now c.in_ok-header.header.next c.in_ok-header.ensures.0).1, c.requires.clauses)

pub returns : goal.returns
returns c =
    let e = formula_clauses c.args.most c.args.text.now c.in_ok-header.header.next c.in_ok-header.ensures.0 (rest_is c.args.text.now c.in_ok-header.header.next) in
    rw (← e) (record { outcome = c.read_clauses.ensures.outcome; stored = c.read_clauses.ensures.stored })
