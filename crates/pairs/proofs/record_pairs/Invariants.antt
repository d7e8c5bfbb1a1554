use mathlib.Core.Path.{◌≡◌}
use Prim.Native.Nat.{◌-◌}
use Rattle.definition.specs.Lists.{for_from}
use Rattle.progress.specs.Progress.{Written}
use Rattle.pairs.specs.Pairs.{row_lines}
use Rattle.pairs.proofs.record_pairs.Given as goal

abbrev pub invariant-loop-i : goal.invariant-loop-i
invariant-loop-i l = (l.q.end ≡ l.initial.q.end) × Written (for_from 0 (l.i - 0) (row_lines l.counts l.choice)) l.initial.log l.initial.q l.log l.q
