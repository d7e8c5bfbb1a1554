use Rattle.std.proofs.Common.{rules, ◌≡◌, Err, length}
use Rattle.theory_text.specs.TextLines.{FirstLine}
use Rattle.answer.proofs.Reading.{lines_start, lines_step, lines_fault, lines_end}
use Rattle.answer.proofs.read_answer.Goals as goal

pub loop-line-init : goal.loop-line-init
loop-line-init c = lines_start c.args.x c.args.text.now (length c.args.marks.now) c.fill.new.self (search rules)

pub loop-line-preserved : goal.loop-line-preserved
loop-line-preserved c =
    let w : FirstLine c.args.text.now c.loop-line.at c.in-Some.line.start c.in-Some.line.end c.in-Some.line.next = rw c.in-Some.is at c.next_line.ensures in
    lines_step c.args.x c.args.text.now c.loop-line.state c.loop-line.marks c.read_line.new.marks w c.loop-line.invariant c.in_ok-state.state c.in_ok-state.ensures

pub returns-in_err-state : goal.returns-in_err-state
returns-in_err-state c =
    let w : FirstLine c.args.text.now c.loop-line.at c.in-Some.line.start c.in-Some.line.end c.in-Some.line.next = rw c.in-Some.is at c.next_line.ensures in
    let q : c.from_residual.result ≡ Err c.in_err-state.field-0.0 = search rules in
    rw q (lines_fault c.args.x c.args.text.now c.loop-line.state c.loop-line.marks c.read_line.new.marks w c.loop-line.invariant c.in_err-state.field-0.0 c.in_err-state.ensures)

pub returns : goal.returns
returns c =
    lines_end c.args.x c.args.text.now c.loop-line.at c.loop-line.state c.loop-line.marks c.outcome.result
    (rw c.in_default.is at c.next_line.ensures) c.loop-line.invariant c.outcome.ensures
