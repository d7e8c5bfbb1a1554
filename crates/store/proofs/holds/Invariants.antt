use mathlib.Core.Path.{◌≡◌}
use lib.ListN.{drop}
use Rattle.definition.specs.Literals.{holds}
use Rattle.store.proofs.holds.Given as goal

abbrev pub invariant-loop-m : goal.invariant-loop-m
invariant-loop-m l = holds l.l (drop l.m-index l.clause) ≡ holds l.l l.clause
