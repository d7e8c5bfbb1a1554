use Rattle.text.proofs.Writing.{item_put, item_past}
use Rattle.text.proofs.put_item.Goals as goal

pub returns-then-buf-at-clause-written : goal.returns-then-buf-at-clause-written
returns-then-buf-at-clause-written c = item_past c.args.l c.ranges.l c.args.buf.now c.args.at c.if-buf-at.true c.item_length.ensures

pub returns-clause-written : goal.returns-clause-written
returns-clause-written c = item_put c.args.l c.ranges.l c.put_literal-a.ensures.written c.put_byte.ensures
