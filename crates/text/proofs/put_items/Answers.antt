use Rattle.std.proofs.Common.{rules, get_or, pos}
use Rattle.definition.specs.Lists.{for_each}
use Rattle.theory_text.specs.ClauseText.{literals_text}
use Rattle.text.proofs.Output.{put_none, put_same}
use Rattle.text.proofs.Writing.{item_argument, items_step}
use Rattle.text.proofs.put_items.Goals as goal

pub loop-l-init : goal.loop-l-init
unfolding literals_text for_each
loop-l-init c = record { written = put_none c.args.buf.now c.args.at; within = search rules }

pub loop-l-preserved : goal.loop-l-preserved
loop-l-preserved c = record {
  written = items_step c.args.clause.now c.loop-l.l-index (search rules) c.loop-l.invariant.written
      (put_same c.put_item-end.ensures.written (item_argument (get_or c.args.clause.now c.loop-l.l-index (pos 0)) (search rules)));
  within = search rules;
}
