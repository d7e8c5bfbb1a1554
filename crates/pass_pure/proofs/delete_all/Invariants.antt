-- Invariant: the clauses before `at` are gone through (Pass, Passing), and all entries are where they were.
use Prim.Native.Nat.{◌-◌}
use lib.ListN.{length}
use Rattle.index.specs.Index.{SameEntries}
use Rattle.progress.specs.Progress.{standing}
use Rattle.pass_pure.proofs.Pass.{Passing}
use Rattle.pass_pure.proofs.delete_all.Given as goal

abbrev pub invariant-loop-at : goal.invariant-loop-at
invariant-loop-at l = SameEntries l.initial.work l.work × Passing (standing l.initial.work l.initial.q) l.initial.log l.initial.q l.work l.at l.log l.q

abbrev pub decreases-loop-at : goal.decreases-loop-at
decreases-loop-at l = length l.work - l.at
