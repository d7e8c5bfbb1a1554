use Rattle.refusals.specs.Numbers.{number}
use Rattle.carry.proofs.Writing.{carried_outcome}
use borrow.Author.Rules.{rules}
use Rattle.call_walk_back.proofs.walk_back.Goals as goal

pub returns : goal.returns
returns c =
    record {
      outcome = rw c.settle.ensures.same (carried_outcome _ _ c.args.out.now _ c.walk-r.ensures);
      buffer = c.settle.ensures.buffer number _ c.args.out.now c.walk-r.ensures (search rules);
    }
