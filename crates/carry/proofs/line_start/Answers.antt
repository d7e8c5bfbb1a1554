use mathlib.Core.Path.{◌≡◌}
use Prim.Native.Nat.{◌-◌}
use native.Mathlib.Omega.{arith}
use borrow.Author.Rules.{sfits_of}
use Rattle.literals.specs.Literal.{header_literals}
use Rattle.literals.proofs.Laws.{answer}
use Rattle.store.specs.Store.{header_at, size_at}
use Rattle.carry.proofs.LastLine.{last_fits, last_line}
use Rattle.carry.proofs.line_start.Goals as goal

pub overflow_sub-result : goal.overflow_sub-result
overflow_sub-result c =
    let h = header_at c.args.lines.now (c.args.end - 1) in
    omega (
      arith,
      answer header_literals h (sfits_of c.header_length-arg-1.given) c.header_length.ensures,
      last_fits c.args.lines.now c.args.end c.requires.0 c.requires.1 c.requires.2,
    )

pub returns : goal.returns
returns c =
    let s = c.args.lines.now in
    let end = c.args.end in
    let h = header_at s (end - 1) in
    let n : c.header_length.result ≡ size_at s (end - 1) = answer header_literals h
    (sfits_of c.header_length-arg-1.given) c.header_length.ensures in
    last_line s end c.requires.0 c.requires.1 c.requires.2 _ (omega arith)
