use Rattle.run.proofs.Clearing.{clash_ready, pure_ready, cleared_runs, weighed_left}
use Rattle.run.proofs.clear.Goals as goal

pub clear_clashes-q-requires : goal.clear_clashes-q-requires
clear_clashes-q-requires c = (clash_ready c.requires.0, c.requires.1, c.requires.2, c.requires.3)

pub delete_pure-requires : goal.delete_pure-requires
delete_pure-requires c = pure_ready c.requires.0 c.clear_clashes-q.ensures.runs

pub returns : goal.returns
returns c =
    record {
      runs = cleared_runs c.requires.0 c.clear_clashes-q.ensures.runs c.delete_pure.ensures.runs;
      indexed = c.delete_pure.ensures.index _ c.clear_clashes-q.ensures.indexed;
      table = c.clear_clashes-q.ensures.table;
      weighed = weighed_left c.requires.0 c.clear_clashes-q.ensures.runs c.delete_pure.ensures.runs
          c.clear_clashes-q.ensures.weighed;
    }
