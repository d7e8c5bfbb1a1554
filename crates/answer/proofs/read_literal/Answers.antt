use mathlib.Core.Path.{ap, ◌∙◌}
use Prim.Native.Nat.{ℕ}
use native.Mathlib.Omega.{arith}
use lib.IntN.{ℤ, nat_abs}
use lib.ListN.{get_or}
use Rattle.literals.proofs.Laws.{answer}
use Rattle.answer.specs.Table.{naming}
use Rattle.answer.proofs.Reading.{literal_zero, literal_above, literal_twice, literal_named}
use borrow.Author.Rules.{rules}
use Rattle.answer.proofs.read_literal.Goals as goal

pub returns-then-v-eq0 : goal.returns-then-v-eq0
returns-then-v-eq0 c =
    let l = c.args.l in
    let e = answer nat_abs l c.ranges.l c.variable-v.ensures in
    literal_zero c.args.x l c.args.marks.now (omega (arith, e))

pub returns-then-x-v : goal.returns-then-x-v
returns-then-x-v c =
    let l = c.args.l in
    let e = answer nat_abs l c.ranges.l c.variable-v.ensures in
    literal_above c.args.x l c.args.marks.now (λ q. c.if-v-eq0.false (e ∙ q)) (omega (arith, e))

pub returns-then-named-gt0 : goal.returns-then-named-gt0
returns-then-named-gt0 c =
    let l = c.args.l in
    let m = c.args.marks.now in
    let e = answer nat_abs l c.ranges.l c.variable-v.ensures in
    let n = c.entry_at-named.ensures ∙ ap (λ (v : ℕ). get_or m v 0) e in
    literal_twice c.args.x l m (λ q. c.if-v-eq0.false (e ∙ q)) (omega (arith, e)) (omega (arith, n))

pub returns : goal.returns
returns c =
    let l = c.args.l in
    let m = c.args.marks.now in
    let e = answer nat_abs l c.ranges.l c.variable-v.ensures in
    let n = c.entry_at-named.ensures ∙ ap (λ (v : ℕ). get_or m v 0) e in
    rw (answer (λ (z : ℤ). naming z m) l c.ranges.l c.make_true.ensures)
    (literal_named c.args.x l m (λ q. c.if-v-eq0.false (e ∙ q)) (omega (arith, e)) (search rules) (omega (arith, n)))
