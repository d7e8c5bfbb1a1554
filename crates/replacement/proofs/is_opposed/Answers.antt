use mathlib.Core.Path.{ap, ◌∙◌}
use mathlib.Core.Bool.{Bool}
use mathlib.Core.List.{List}
use Rattle.std.specs.List.{list_any}
use Rattle.replacement.specs.Replaced.{next_in}
use Rattle.replacement.proofs.Replaced.{opposed_is}
use Rattle.replacement.proofs.is_opposed.Goals as goal

pub returns : goal.returns
returns c =
    λ k v u b a f. c.any_next.ensures
    ∙ ap (λ (w : List Bool). list_any (next_in c.args.places.now w) c.args.clause.now) c.mark_places.ensures
    ∙ opposed_is k v u b c.args.clause.now a f
