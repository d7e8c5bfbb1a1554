use Rattle.std.proofs.Common.{rules, length}
use Rattle.pass_choose.proofs.Laws.{choice_room, other_joined}
use Rattle.pass_choose.proofs.collect_one.Goals as goal

pub append-requires : goal.append-requires
append-requires c = choice_room c.args.counts.now c.args.clause.now c.args.end (length c.args.chosen.now) c.is_choice.ensures (search rules) c.requires

pub returns-else-is_choice : goal.returns-else-is_choice
returns-else-is_choice c = other_joined c.args.counts.now c.args.clause.now c.args.chosen.now c.args.end c.is_choice.ensures (search rules) c.requires
