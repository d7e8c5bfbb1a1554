use mathlib.Core.Path.{◌≡◌}
use Prim.Native.Nat.{◌*◌}
use lib.ListN.{length, replicate}
use borrow.Author.Rules.{rules}
use Rattle.pairs.proofs.Clearing.{counts_cleared}
use Rattle.pairs.proofs.clear_counts.Goals as goal

pub returns : goal.returns
returns c =
    let e : c.fill.new.self ≡ replicate (length c.args.choice.now * 64) 0 = search rules in
    counts_cleared c.requires.0 c.requires.1 e
