use mathlib.Core.Path.{ap, ◌∙◌}
use Prim.Native.Nat.{ℕ}
use lib.ListN.{length, length-replicate}
use Rattle.pairs.specs.Pairs.{slots}
use Rattle.pairs.proofs.Clearing.{pair_counts}
use Rattle.pass_counter.proofs.Taking.{counter_room, line_room, last_room, choice_taken}
use Rattle.pass_counter.proofs.take_choice.Goals as goal

pub put_counter-a-requires : goal.put_counter-a-requires
put_counter-a-requires c =
    record {
      small = (c.requires.0.small, c.requires.0.ready.long);
      grow_room = counter_room c.requires.0 c.requires.1 c.clear_store.ensures.indexed c.clear_store.auto.work
          c.clear_store.ensures.taken;
    }

pub record_line-b-requires : goal.record_line-b-requires
record_line-b-requires c =
    let done = line_room c.requires.0 c.requires.1 c.clear_store.ensures.indexed c.clear_store.auto.work c.clear_store.ensures.taken
    c.put_counter-a.ensures in
    record { clause_bound = done.0; lines_bound = done.1 }

pub record_pairs-r-requires : goal.record_pairs-r-requires
record_pairs-r-requires c =
    record {
      choice_len_bound = c.requires.0.small.few;
      log_room = last_room c.requires.0 c.requires.1 c.clear_store.ensures.indexed c.clear_store.auto.work
          c.clear_store.ensures.taken c.put_counter-a.ensures c.record_line-b.ensures.written;
    }

pub clear_counts-requires : goal.clear_counts-requires
clear_counts-requires c = (
  pair_counts c.requires.1 c.requires.0.small.few c.clear_store.ensures.taken
      (c.clear_store.auto.counts ∙ ap length c.requires.2 ∙ length-replicate {A = ℕ} slots 0),
  c.requires.0.small.few,
)

pub returns : goal.returns
returns c =
    record {
      taken = choice_taken c.requires.0 c.requires.1 c.clear_store.ensures.indexed c.clear_store.auto.work
          c.clear_store.ensures.taken c.put_counter-a.ensures c.record_line-b.ensures.written c.record_pairs-r.ensures.written
          c.record_line-b.ensures.kept c.record_pairs-r.ensures.kept;
      counts = c.clear_counts.ensures;
    }
