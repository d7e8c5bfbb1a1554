use Rattle.drat.proofs.Log.{ReadingLog}
use Rattle.drat.proofs.read_log.Given as goal

abbrev pub invariant-loop : goal.invariant-loop
invariant-loop l = ReadingLog l.log l.kept l.stamp l.at l.counter l.filled l.highest l.seen l.initial.store l.store
