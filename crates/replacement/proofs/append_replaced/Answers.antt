use mathlib.Core.Path.{◌∙◌}
use native.Mathlib.Omega.{arith}
use lib.IntN.{ℤ}
use lib.ListN.{take, drop}
use borrow.Author.Rules.{sfits_of}
use Rattle.literals.proofs.Laws.{at_arg}
use Rattle.replacement.specs.Replaced.{choice_in}
use Rattle.definition.specs.Order.{replaced}
use Rattle.replacement.proofs.Writing.{header_written}
use Rattle.replacement.proofs.append_replaced.Goals as goal

pub returns : goal.returns
returns c =
    let s = c.args.work.now in
    let W = replaced (choice_in c.args.choice.now)
    (take c.args.n (drop c.args.from s)) in record {
      next = omega (arith, c.put_replaced-next.ensures.next);
      written = header_written W s c.put_replaced-next.new.work c.args.end c.put_replaced-next.result c.put_replaced-next.ensures.written
          c.put_replaced-next.ensures.next
          (at_arg (λ (z : ℤ). z) c.header.result (sfits_of c.header.type_inv) ∙ c.header.ensures);
    }
