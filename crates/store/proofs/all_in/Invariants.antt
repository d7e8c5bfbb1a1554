use mathlib.Core.Path.{◌≡◌}
use lib.ListN.{drop}
use Rattle.definition.specs.Lists.{all}
use Rattle.definition.specs.Literals.{holds}
use Rattle.store.proofs.all_in.Given as goal

abbrev pub invariant-loop-l : goal.invariant-loop-l
invariant-loop-l w = all (λ l. holds l w.b) (drop w.l-index w.a) ≡ all (λ l. holds l w.b) w.a
