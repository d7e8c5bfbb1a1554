use Rattle.definition.specs.Counter.{size}
use Rattle.pass_order.proofs.Ordered.{order_deletable, order_runs}
use Rattle.pass_order.proofs.order_choice.Goals as goal

pub delete_literals-requires : goal.delete_literals-requires
unfolding size
delete_literals-requires c =
    record {
      small = c.requires.0.small;
      deletable = order_deletable c.requires.0 c.replace_all-q.ensures;
    }

pub returns : goal.returns
unfolding size
returns c =
    record {
      runs = order_runs c.requires.0 c.replace_all-q.ensures c.delete_literals.ensures;
      indexed = c.delete_literals.ensures.indexed;
    }
