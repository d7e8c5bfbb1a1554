use Prim.Native.Nat.{◌-◌}
use lib.ListN.{length}
use Rattle.store.specs.Store.{stored}
use Rattle.index.specs.Index.{Indexed}
use Rattle.run.specs.Settings.{named_form}
use Rattle.run.specs.Choices.{Lent}
use Rattle.run.proofs.Turns.{Turns}
use Rattle.run.proofs.take.Given as goal

abbrev pub invariant-loop-at : goal.invariant-loop-at
invariant-loop-at l = Turns (named_form l.form) l.g l.step l.initial.work l.initial.log l.initial.r.progress l.highest (stored l.chosen) l.work l.log l.r l.chosen l.at × Indexed l.work l.r.progress.end l.newest × Lent l.places l.counts l.list

abbrev pub decreases-loop-at : goal.decreases-loop-at
decreases-loop-at l = length l.chosen - l.at
