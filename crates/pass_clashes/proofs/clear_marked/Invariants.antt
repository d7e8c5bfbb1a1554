-- Invariant: what happened and what is left are all the events, and the marks are the clashes left (Scan, Scanned).
use Rattle.pass_clashes.specs.Scan.{Scanned, turns_left}
use Rattle.pass_clashes.proofs.clear_marked.Given as goal

abbrev pub invariant-loop-s : goal.invariant-loop-s
invariant-loop-s l = Scanned l.step l.initial.work l.initial.weights l.initial.log l.initial.s l.work l.newest l.table l.weights l.log l.marks l.s

abbrev pub decreases-loop-s : goal.decreases-loop-s
decreases-loop-s l = turns_left l.work l.s
