use mathlib.Core.Path.{◌∙◌}
use Rattle.run.proofs.Taking.{placed_ready, moved_runs, places_set, places_reset}
use Rattle.run.proofs.take_one.Goals as goal

pub take_placed-r-requires : goal.take_placed-r-requires
take_placed-r-requires c = (
  placed_ready c.requires.0 c.make_room-q.ensures.runs c.make_room-q.ensures.indexed c.make_room-q.ensures.roomy,
  places_set c.requires.0 c.requires.2.places_zero c.set_places.ensures,
  c.requires.2.counts_zero,
  c.requires.2.long,
)

pub returns : goal.returns
returns c =
    record {
      runs = moved_runs c.requires.0 c.make_room-q.ensures.runs c.take_placed-r.ensures.runs;
      indexed = c.take_placed-r.ensures.indexed;
      lent = record {
        places_zero = places_reset _ c.requires.2.places_zero c.set_places.ensures
            c.set_entries.ensures;
        counts_zero = c.take_placed-r.ensures.counts;
        long = c.take_placed-r.auto.list ∙ c.requires.2.long;
      };
    }
