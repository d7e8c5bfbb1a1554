use Rattle.pass_order.proofs.Steps.{opposed_there, none_added, entry_room, added_ready, result_added}
use Rattle.pass_order.proofs.add_result.Goals as goal

pub returns-then-is_opposed : goal.returns-then-is_opposed
returns-then-is_opposed c =
    none_added c.requires.tabled.0 c.args.work.now c.args.from c.args.n c.requires.tabled.2
    c.requires.replaceable c.args.log.now
    (opposed_there c.requires.tabled.0 c.args.work.now c.args.from c.args.n c.requires.tabled.2
    c.requires.replaceable c.is_opposed.ensures c.if-is_opposed.true)

pub append_replaced-next-requires : goal.append_replaced-next-requires
append_replaced-next-requires c =
    record {
      n_bound = (c.requires.tabled.1, (c.requires.tabled.0.places, c.requires.tabled.0.small));
      work_in_bounds = entry_room c.requires.tabled.0 c.args.work.now c.args.from c.args.n c.requires.tabled.2
          c.requires.replaceable
          (opposed_there c.requires.tabled.0 c.args.work.now c.args.from c.args.n
          c.requires.tabled.2 c.requires.replaceable c.is_opposed.ensures c.if-is_opposed.false);
    }

pub record_added-requires : goal.record_added-requires
record_added-requires c =
    let done = added_ready c.requires.tabled.0 c.args.work.now c.args.from c.args.n c.requires.tabled.2
    c.requires.replaceable
    (opposed_there c.requires.tabled.0 c.args.work.now c.args.from c.args.n
    c.requires.tabled.2 c.requires.replaceable c.is_opposed.ensures c.if-is_opposed.false) c.append_replaced-next.ensures.next
    c.append_replaced-next.ensures.written in
    record { indexed = done.0; end_in_bounds = done.1.0; at_bound = done.1.1 }

pub returns : goal.returns
returns c =
    result_added c.requires.tabled.0 c.args.work.now c.args.from c.args.n c.requires.tabled.2
    c.requires.replaceable
    (opposed_there c.requires.tabled.0 c.args.work.now c.args.from c.args.n c.requires.tabled.2
    c.requires.replaceable c.is_opposed.ensures c.if-is_opposed.false) c.append_replaced-next.ensures.next c.append_replaced-next.ensures.written
    c.record_added.ensures
