use Rattle.std.proofs.Common.{length}
use Rattle.pass_choose.proofs.Laws.{joined_one, room_for}
use Rattle.pass_choose.proofs.append.Goals as goal

pub returns : goal.returns
returns c = rw (c.unwrap_or.ensures, c.append_clause.ensures.end, room_for (length c.args.chosen.now) c.args.end c.args.clause.now c.requires.0 c.requires.1)
    (joined_one c.args.chosen.now _ c.args.end c.args.clause.now c.requires.0 c.requires.1 c.append_clause.ensures.written)
