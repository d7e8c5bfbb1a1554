use Rattle.drat.proofs.Writing.{addition_put, deletion_put}
use Rattle.drat.proofs.write_line.Goals as goal

pub returns-in-Addition-clause-written : goal.returns-in-Addition-clause-written
returns-in-Addition-clause-written c = addition_put c.in-Addition.is c.put_clause.ensures.written

pub returns-in-Deletion-clause-written : goal.returns-in-Deletion-clause-written
returns-in-Deletion-clause-written c = deletion_put c.in-Deletion.is c.put_byte-a.ensures c.put_byte-b.ensures c.put_clause-in-Deletion.ensures.written
