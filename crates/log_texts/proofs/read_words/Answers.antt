use Rattle.std.proofs.Common.{arith}
use Rattle.std.proofs.lemmas.Result.{err_from_is_err_and}
use Rattle.log_texts.proofs.TextsRead.{says_formula, says_log, y_small, says_answer, says_read}
use Rattle.log_texts.proofs.read_words.Goals as goal

pub returns-in_err-read : goal.returns-in_err-read
returns-in_err-read c =
    let p = err_from_is_err_and c.from_residual.result c.from_residual.ensures.1 in
    rw (p.1, p.2) (says_formula _ _ _ _ _ c.args.work.now _ c.input_limits.ensures.0 _ c.in_err-read.ensures.outcome)

pub returns-in_err-lines : goal.returns-in_err-lines
returns-in_err-lines c =
    let p = err_from_is_err_and c.from_residual-in_err-lines.result c.from_residual-in_err-lines.ensures.1 in
    let read = c.in_ok-read.ensures in
    rw (p.1, p.2) (says_log _ _ _ _ _ c.args.work.now _ c.input_limits.ensures.0 read.outcome read.stored c.in_err-lines.ensures)

pub read_answer-requires : goal.read_answer-requires
read_answer-requires c =
    let read = c.in_ok-read.ensures in
    let y = y_small _ _ _ _ c.args.answer.now c.args.work.now _ c.input_limits.ensures.0 read.outcome read.stored c.in_ok-lines.ensures
    c.max-highest.ensures c.by_way-most.ensures in
    (y, omega (arith, y, c.requires))

pub returns-in_err-read_answer : goal.returns-in_err-read_answer
returns-in_err-read_answer c =
    let p = err_from_is_err_and c.from_residual-in_err-read_answer.result c.from_residual-in_err-read_answer.ensures.1 in
    let read = c.in_ok-read.ensures in
    rw (p.1, p.2)
    (says_answer _ _ _ _ _ c.args.work.now _ c.input_limits.ensures.0 read.outcome read.stored c.in_ok-lines.ensures c.max-highest.ensures
    c.by_way-most.ensures c.in_err-read_answer.ensures)

pub returns : goal.returns
returns c =
    let read = c.in_ok-read.ensures in
    let named = c.in_ok-read_answer.ensures in
    says_read _ _ _ _ _ c.args.work.now _ c.input_limits.ensures.0 read.outcome read.stored c.in_ok-lines.ensures c.max-highest.ensures
    c.by_way-most.ensures named.1 named.2
