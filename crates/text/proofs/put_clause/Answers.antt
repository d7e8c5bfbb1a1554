use Rattle.text.proofs.Writing.{clause_put}
use Rattle.text.proofs.put_clause.Goals as goal

pub returns-clause-written : goal.returns-clause-written
returns-clause-written c = clause_put c.args.clause.now c.put_items-a.ensures.written c.put_byte-b.ensures c.put_byte.ensures
