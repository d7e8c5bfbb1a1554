use Rattle.run.proofs.Taking.{choice_ready, order_ready, touched_fit, order_runs, as_order, order_returned, counter_returned}
use Rattle.run.proofs.take_placed.Goals as goal

pub take_choice-r-requires : goal.take_choice-r-requires
take_choice-r-requires c = (choice_ready c.requires.0, c.requires.1, c.requires.2)

pub order_choice-requires : goal.order_choice-requires
order_choice-requires c =
    let o = as_order c.args.literals.now c.args.below c.in-Order.is c.requires.0 in
    (order_ready o c.take_choice-r.ensures.taken, c.requires.1, touched_fit o c.take_choice-r.ensures.taken c.requires.3)

pub returns-in-Counter : goal.returns-in-Counter
returns-in-Counter c =
    record {
      runs = counter_returned c.args.literals.now c.args.below c.in-Counter.is
          c.take_choice-r.ensures.taken.ran;
      indexed = c.take_choice-r.ensures.taken.indexed;
      counts = c.take_choice-r.ensures.counts;
    }

pub returns-in-Order : goal.returns-in-Order
returns-in-Order c =
    let o = as_order c.args.literals.now c.args.below c.in-Order.is c.requires.0 in record {
      runs = order_returned c.args.literals.now c.args.below c.in-Order.is
          (order_runs o c.take_choice-r.ensures.taken c.order_choice.ensures.runs);
      indexed = c.order_choice.ensures.indexed;
      counts = c.take_choice-r.ensures.counts;
    }
