-- Invariant: the first i literals are copied.
use Rattle.pass_clashes.specs.Resolving.{Copied}
use Rattle.pass_clashes.proofs.copy_without.Given as goal

abbrev pub invariant-loop-i : goal.invariant-loop-i
invariant-loop-i l = Copied l.initial.work l.to l.part.from l.i l.gone l.work l.end
