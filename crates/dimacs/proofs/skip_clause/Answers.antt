use native.Mathlib.Omega.{arith}
use Rattle.std.proofs.lemmas.Result.{err_from_is_err_and}
use Rattle.definition.specs.Text.{blank}
use Rattle.text.proofs.Words.{word_answer}
use Rattle.dimacs.proofs.Gathering.{skipping_end, skipping_fault, skipping_done, skipping_on}
use Rattle.dimacs.proofs.skip_clause.Goals as goal

pub slice_bounds-number_item-count : goal.slice_bounds-number_item-count
slice_bounds-number_item-count c = omega (arith, (word_answer blank c.args.text.now c.loop-word.at c.in-Some.ensures).some)

pub slice_bounds-number_item-start : goal.slice_bounds-number_item-start
slice_bounds-number_item-start c = omega (arith, (word_answer blank c.args.text.now c.loop-word.at c.in-Some.ensures).some)

pub slice_bounds-number_item-end : goal.slice_bounds-number_item-end
slice_bounds-number_item-end c = let f = word_answer blank c.args.text.now c.loop-word.at c.in-Some.ensures in omega (arith, f.some, f.within)

pub returns-in_err-number_item : goal.returns-in_err-number_item
returns-in_err-number_item c =
    let p = err_from_is_err_and c.from_residual.result c.from_residual.ensures.1 in
    rw (p.1, p.2) (skipping_fault c.loop-word.invariant c.in-Some.ensures c.in_err-number_item.ensures)

pub returns-then-is_none : goal.returns-then-is_none
returns-then-is_none c = skipping_done c.loop-word.invariant c.in-Some.ensures c.in_ok-number_item.ensures c.if-is_none.ensures

pub loop-word-smaller : goal.loop-word-smaller
loop-word-smaller c = let f = word_answer blank c.args.text.now c.loop-word.at c.in-Some.ensures in omega (arith, f.after, f.some, f.within)

pub loop-word-preserved : goal.loop-word-preserved
loop-word-preserved c = skipping_on c.loop-word.invariant c.in-Some.ensures c.in_ok-number_item.ensures c.if-is_none.ensures

pub returns : goal.returns
returns c = skipping_end c.loop-word.invariant c.in_default.ensures
