use mathlib.Core.Path.{◌≡◌}
use lib.ListN.{replicate}
use Rattle.definition.specs.Standing.{deletion}
use Rattle.progress.specs.Progress.{Written}
use Rattle.pairs.proofs.record_times.Given as goal

abbrev pub invariant-loop : goal.invariant-loop
invariant-loop l = (l.q.end ≡ l.initial.q.end) × Written (replicate l.counter (deletion l.pair)) l.initial.log l.initial.q l.log l.q
