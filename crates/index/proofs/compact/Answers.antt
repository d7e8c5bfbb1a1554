use mathlib.Core.Path.{◌∙◌}
use Rattle.index.proofs.Laws.{indexed_inside}
use Rattle.index.proofs.Filling.{compacted_formed, compacted_room, compacted_small, made_room}
use Rattle.index.proofs.compact.Goals as goal

pub enter_all-requires : goal.enter_all-requires
enter_all-requires c =
    record {
      formed = (
        compacted_formed c.args.work.now c.args.end c.args.cells c.compact-n.result
            c.compact-n.new.store (indexed_inside c.requires.0) c.compact-n.auto.store c.compact-n.ensures c.requires.1,
        compacted_room c.args.work.now c.args.end c.args.cells c.compact-n.result
            c.compact-n.new.store (indexed_inside c.requires.0) c.compact-n.auto.store c.compact-n.ensures c.requires.1,
        compacted_small c.args.work.now c.args.end c.args.cells c.compact-n.result
            c.compact-n.new.store (indexed_inside c.requires.0) c.compact-n.auto.store c.compact-n.ensures c.requires.1
            c.requires.0.small,
      );
      at_most = (c.clear.ensures, c.clear.auto.seen ∙ c.requires.0.size);
    }

pub returns : goal.returns
returns c =
    made_room c.args.work.now c.args.end c.args.cells c.compact-n.result c.compact-n.new.store
    (indexed_inside c.requires.0) c.compact-n.auto.store c.compact-n.ensures c.requires.1 _ _ c.enter_all.auto.work
    c.enter_all.ensures.indexed c.enter_all.ensures.kept
