use Rattle.refusals.specs.Numbers.{number}
use Rattle.carry.proofs.Writing.{carried_outcome}
use borrow.Author.Rules.{rules}
use Rattle.call_carry_forward.proofs.carry_forward.Goals as goal

pub returns : goal.returns
returns c =
    record {
      outcome = rw c.settle.ensures.same (carried_outcome _ _ c.args.out.now _ c.carry_texts-r.ensures);
      buffer = c.settle.ensures.buffer number _ c.args.out.now c.carry_texts-r.ensures (search rules);
    }
