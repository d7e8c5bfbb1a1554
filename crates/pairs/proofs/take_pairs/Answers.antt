use mathlib.Core.Path.{refl}
use native.Mathlib.Omega.{arith}
use mir.Syntax.{w32}
use mir.Val.{SFits}
use lib.IntN.{ℤ, pos}
use lib.ListN.{get_or, take}
use borrow.Author.Rules.{rules}
use Rattle.literals.proofs.Laws.{answer_negated}
use Rattle.index.proofs.Laws.{indexed_inside, indexed_length}
use Rattle.pairs.proofs.Taking.{through_next, negated_within, countable_zeros, countable_then, pairs_taken}
use Rattle.pairs.proofs.take_pairs.Goals as goal

pub take_with-requires-clause-indexed_2 : goal.take_with-requires-clause-indexed_2
take_with-requires-clause-indexed_2 c =
    let x = get_or c.args.choice.now c.loop-l.l-index (pos 0) in
    let f : SFits w32 x = search rules in
    let g : SFits w32 c.negated.result = search rules in
    (c.loop-l.invariant.indexed, negated_within c.requires.indexed_2.2 c.loop-l.l-index c.loop-l-test.true (answer_negated (λ (z : ℤ). z) x f g c.negated.ensures refl))

pub take_with-requires-clause-countable : goal.take_with-requires-clause-countable
take_with-requires-clause-countable c =
    countable_then c.requires.indexed_2.0.formed c.loop-l.invariant.less
    (countable_zeros c.args.places.now (take c.args.end c.args.work.now)
    (omega (arith, c.requires.indexed_2.0.small, indexed_inside c.requires.indexed_2.0, indexed_length c.requires.indexed_2.0))
    c.requires.counts_value)

pub loop-l-preserved : goal.loop-l-preserved
loop-l-preserved c =
    let x = get_or c.args.choice.now c.loop-l.l-index (pos 0) in
    let f : SFits w32 x = search rules in
    let g : SFits w32 c.negated.result = search rules in
    through_next c.requires.indexed_2.0 c.loop-l.invariant (answer_negated (λ (z : ℤ). z) x f g c.negated.ensures refl) c.take_with.auto.work c.take_with.ensures.less
    c.take_with.ensures.none c.take_with.ensures.indexed

pub returns-clause-taken : goal.returns-clause-taken
returns-clause-taken c =
    pairs_taken c.requires.indexed_2.1 c.requires.indexed_2.2 c.requires.indexed_2.0.formed c.requires.counts_value c.loop-l.invariant.less
    (λ k h. c.loop-l.invariant.none k (omega arith))
