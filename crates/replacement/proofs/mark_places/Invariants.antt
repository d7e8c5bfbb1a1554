use mathlib.Core.Path.{◌≡◌}
use lib.ListN.{drop}
use Rattle.replacement.specs.Replaced.{with_place_marks}
use Rattle.replacement.proofs.mark_places.Given as goal

abbrev pub invariant-loop-m : goal.invariant-loop-m
invariant-loop-m l = with_place_marks l.places l.marks (drop l.m-index l.clause) ≡ with_place_marks l.places l.initial.marks l.clause
