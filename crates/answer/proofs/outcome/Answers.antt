use Rattle.answer.proofs.Reading.{ends_waiting, ends_open, ends_closed}
use Rattle.answer.proofs.outcome.Goals as goal

pub returns-in-Waiting : goal.returns-in-Waiting
returns-in-Waiting c = rw c.in-Waiting.is ends_waiting

pub returns-in-Open : goal.returns-in-Open
returns-in-Open c = rw c.in-Open.is ends_open

pub returns-in-Closed : goal.returns-in-Closed
returns-in-Closed c = rw c.in-Closed.is ends_closed
