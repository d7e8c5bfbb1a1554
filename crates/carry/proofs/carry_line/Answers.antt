-- Whether the line is repaired is one test of its header and the direction (Carrying).
use mathlib.Core.Path.{◌≡◌}
use Rattle.carry.specs.Lines.{repairs}
use Prim.Native.Nat.{◌+◌, ◌-◌}
use native.Mathlib.Omega.{arith}
use borrow.Author.Rules.{sfits_of}
use lib.IntN.{ℤ}
use Rattle.literals.specs.Literal.{negative}
use Rattle.literals.proofs.Laws.{answered}
use Rattle.store.specs.Store.{header_at, size_at}
use Rattle.carry.proofs.Carrying.{over_repaired, over_kept}
use Rattle.carry.proofs.carry_line.Goals as goal

pub returns-then-is_repaired : goal.returns-then-is_repaired
returns-then-is_repaired c =
    let s = c.args.lines.now in
    let at = c.args.at in
    let direction = c.args.direction in
    let n : c.next_at-next.result - (at + 1) ≡ size_at s at = omega (arith, c.next_at-next.ensures) in
    over_repaired s at c.args.marks.now direction _
    (answered (λ (h : ℤ). repairs direction (negative h)) (header_at s at)
    (sfits_of c.is_repaired-arg-1.given) c.is_repaired.ensures c.if-is_repaired.true)
    (rw n at c.repair.ensures)

pub returns-else-is_repaired : goal.returns-else-is_repaired
returns-else-is_repaired c =
    let s = c.args.lines.now in
    let at = c.args.at in
    let direction = c.args.direction in
    λ w. over_kept s at c.args.marks.now direction
    (answered (λ (h : ℤ). repairs direction (negative h)) (header_at s at)
    (sfits_of c.is_repaired-arg-1.given) c.is_repaired.ensures c.if-is_repaired.false)
