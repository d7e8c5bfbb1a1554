use mathlib.Core.Path.{◌∙◌, refl}
use Prim.Native.Nat.{◌+◌}
use native.Mathlib.Omega.{arith}
use borrow.Author.Rules.{sfits_of}
use lib.IntN.{ℤ}
use lib.ListN.{take, drop, length-drop}
use lib.Seq.{length-take-le}
use Rattle.literals.proofs.Laws.{at_arg}
use Rattle.replay.proofs.Copying.{copied, entry_written}
use Rattle.replay.proofs.append_part.Goals as goal

pub returns : goal.returns
returns c =
    let w = c.args.work.now in
    let n = c.args.n in
    let first = c.args.first in
    let end = c.args.end in record {
      next = refl;
      written = entry_written w _ end n (take n (drop first w)) _
          (length-take-le n (drop first w) (omega (arith, c.requires.0, c.requires.1, length-drop first w)))
          (c.copy_within.ensures.after
          ∙ copied w first n (end + 1) (omega (arith, c.requires.0, c.requires.1)) (omega (arith, c.requires.1)))
          (at_arg (λ (z : ℤ). z) c.header.result (sfits_of c.header.type_inv) ∙ c.header.ensures);
    }
