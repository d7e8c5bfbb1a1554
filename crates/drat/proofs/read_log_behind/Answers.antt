use Rattle.drat.proofs.Log.{log_behind}
use Rattle.drat.proofs.read_log_behind.Goals as goal

pub returns : goal.returns
returns c = log_behind _ c.read_log.result c.args.store.now _ c.args.to _ c.min-start.ensures c.read_log.ensures
