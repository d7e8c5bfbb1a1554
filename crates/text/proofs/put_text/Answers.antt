use Rattle.std.proofs.Common.{rules}
use Rattle.text.proofs.Writing.{text_step}
use Rattle.text.proofs.put_text.Goals as goal

pub loop-b-preserved : goal.loop-b-preserved
loop-b-preserved c = text_step c.args.text.now c.loop-b.b-index (search rules) c.loop-b.invariant c.put_byte-end.ensures
