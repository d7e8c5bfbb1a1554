use mathlib.Core.Path.{refl}
use Rattle.progress.proofs.Laws.{made_runs}
use Rattle.progress.proofs.make_room.Goals as goal

pub make_room-end-requires : goal.make_room-end-requires
make_room-end-requires c = c.requires

pub returns : goal.returns
returns c = record { runs = made_runs refl c.make_room-end.ensures refl refl; indexed = c.make_room-end.ensures.indexed; roomy = c.make_room-end.ensures.roomy }
