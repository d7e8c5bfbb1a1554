use mathlib.Core.Path.{◌≡◌}
use Prim.Native.Nat.{suc, ◌-◌}
use Rattle.definition.specs.Lists.{for_from}
use Rattle.progress.specs.Progress.{Written}
use Rattle.pairs.specs.Pairs.{cell_lines}
use Rattle.pairs.proofs.record_row.Given as goal

abbrev pub invariant-loop-j : goal.invariant-loop-j
invariant-loop-j l = (l.q.end ≡ l.initial.q.end) × Written (for_from (suc l.i) (l.j - suc l.i) (cell_lines l.counts l.choice l.i)) l.initial.log l.initial.q l.log l.q
