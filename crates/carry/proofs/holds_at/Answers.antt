use mathlib.Core.Path.{◌≡◌}
use mathlib.Core.Bool.{cond}
use native.Mathlib.Omega.{arith}
use borrow.Author.Rules.{rules}
use Rattle.literals.specs.Literal.{header_literals}
use Rattle.literals.proofs.Laws.{answer}
use Rattle.store.specs.Store.{header_at, size_at}
use Rattle.store.proofs.Laws.{part_within}
use Rattle.carry.proofs.holds_at.Goals as goal

pub clause_part-clause-requires : goal.clause_part-clause-requires
clause_part-clause-requires c =
    let s = cond c.args.is_added c.args.added.now c.args.read.now in
    let n : c.header_length-n.result ≡ size_at s c.args.at = rw c.one_of.ensures at (answer header_literals (header_at c.one_of.result.now c.args.at) (search rules) c.header_length-n.ensures) in
    omega (arith, n, part_within s c.args.at c.requires.0 c.requires.1)
