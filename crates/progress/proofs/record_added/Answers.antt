use mathlib.Core.Path.{refl}
use Rattle.progress.proofs.Growing.{there_past, entered_grown}
use Rattle.progress.proofs.record_added.Goals as goal

pub enter-requires : goal.enter-requires
enter-requires c = record { indexed_2 = (c.requires.indexed.0, there_past _ _ c.requires.indexed.0 c.requires.indexed.1 c.requires.end_in_bounds); at_in_bounds = c.requires.end_in_bounds }

pub returns : goal.returns
returns c =
    entered_grown _ _ c.requires.indexed.0 c.requires.indexed.1 c.requires.end_in_bounds refl c.enter.auto.work c.enter.ensures.indexed
    c.enter.ensures.kept c.enter.ensures.nodes c.record_line-q.ensures.written
