use mathlib.Core.Path.{refl, sym, ◌∙◌}
use borrow.Author.Rules.{sfits_of}
use Rattle.pairs.proofs.Lines.{written_as, room_as, cell_is, no_cell}
use Rattle.pairs.proofs.record_cell.Goals as goal

pub record_times-requires : goal.record_times-requires
record_times-requires c =
    record {
      pair_len = refl;
      log_room = room_as c.requires.log_room
          (sym
          (cell_is c.args.counts.now c.args.choice.now c.args.i c.args.j
          c.entry_at-times.ensures (sfits_of c.negated-arg-1.given) (sfits_of c.negated-arg-2-1.given) (sfits_of c.negated.type_inv)
          (sfits_of c.negated-2.type_inv) c.negated.ensures c.negated-2.ensures));
    }

pub returns : goal.returns
returns c =
    record {
      written = written_as c.record_times.ensures.written
          (cell_is c.args.counts.now c.args.choice.now c.args.i c.args.j
          c.entry_at-times.ensures (sfits_of c.negated-arg-1.given) (sfits_of c.negated-arg-2-1.given) (sfits_of c.negated.type_inv)
          (sfits_of c.negated-2.type_inv) c.negated.ensures c.negated-2.ensures);
      kept = c.record_times.ensures.kept;
    }

pub returns-then-times-eq0-clause-written : goal.returns-then-times-eq0-clause-written
returns-then-times-eq0-clause-written c =
    no_cell c.args.counts.now c.args.choice.now c.args.i c.args.j (sym c.if-times-eq0.true ∙ c.entry_at-times.ensures) c.args.log.now c.args.p
