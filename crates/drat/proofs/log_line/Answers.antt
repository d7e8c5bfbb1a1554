use Rattle.drat.proofs.Writing.{rest_put}
use Rattle.drat.proofs.log_line.Goals as goal

pub returns-clause-written : goal.returns-clause-written
returns-clause-written c = rest_put {l = c.args.log.now} c.args.at _ c.min-start.ensures c.write_line.ensures.written
