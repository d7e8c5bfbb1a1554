use Rattle.std.proofs.Common.{sym, ◌∙◌}
use Rattle.answer.proofs.Reading.{line_comment, line_status, line_waiting, line_values, line_open, line_closed}
use Rattle.answer.proofs.read_line.Goals as goal

pub returns-then-is_comment : goal.returns-then-is_comment
returns-then-is_comment c = line_comment c.args.x c.args.line.now c.args.marks.now (sym c.is_comment.ensures ∙ c.if-is_comment.true) c.args.state

pub returns-in-Waiting : goal.returns-in-Waiting
returns-in-Waiting c =
    rw c.in-Waiting.is
    (line_status c.args.x c.args.line.now c.args.marks.now (sym c.is_comment.ensures ∙ c.if-is_comment.false) (sym c.is_status.ensures ∙ c.if-is_status.true))

pub returns-in-Open : goal.returns-in-Open
returns-in-Open c =
    rw c.in-Open.is
    (line_values c.args.x c.args.line.now c.args.marks.now (sym c.is_comment.ensures ∙ c.if-is_comment.false) c.read_values.result c.read_values.new.marks
    (sym c.is_values.ensures ∙ c.if-is_values.true) c.read_values.ensures)

pub returns-in_default : goal.returns-in_default
returns-in_default c =
    rw c.in-Waiting.is
    (line_waiting c.args.x c.args.line.now c.args.marks.now (sym c.is_comment.ensures ∙ c.if-is_comment.false) (sym c.is_status.ensures ∙ c.if-is_status.false))

pub returns-in_default-2 : goal.returns-in_default-2
returns-in_default-2 c =
    rw c.in-Open.is
    (line_open c.args.x c.args.line.now c.args.marks.now (sym c.is_comment.ensures ∙ c.if-is_comment.false) (sym c.is_values.ensures ∙ c.if-is_values.false))

pub returns-in_default-3 : goal.returns-in_default-3
returns-in_default-3 c = rw c.in_default.is (line_closed c.args.x c.args.line.now c.args.marks.now (sym c.is_comment.ensures ∙ c.if-is_comment.false))
