use lib.IntN.{ℤ, pos}
use lib.ListN.{replicate}
use native.Mathlib.Omega.{arith}
use Rattle.std.proofs.lemmas.Result.{err_from_is_err_and}
use Rattle.theory_base.proofs.Slices.{rest_is}
use Rattle.tables.specs.Sizes.{log_size}
use Rattle.dimacs.specs.Limits.{limits_of}
use Rattle.dimacs.proofs.Reading.{reading_start, reading_filled, reading_end, reading_more, reading_fault, reading_on}
use Rattle.dimacs.proofs.read_clauses.Goals as goal

pub loop-done-init : goal.loop-done-init
loop-done-init c = reading_start (limits_of c.args.most) c.args.counts c.args.text.now c.args.store.now (replicate {A = ℤ} 70_001 (pos 0)) log_size

pub returns-in_err-clause : goal.returns-in_err-clause
returns-in_err-clause c =
    let p = err_from_is_err_and c.from_residual.result c.from_residual.ensures.1 in
    let done = reading_fault c.loop-done.invariant c.loop-done-test.true (rest_is c.args.text.now c.loop-done.at) c.min-end.ensures c.read.new.self c.read.new.store c.in_err-clause.ensures in
    rw (p.1, p.2) (record { outcome = done.0; stored = done.1 })

pub loop-done-preserved : goal.loop-done-preserved
loop-done-preserved c =
    reading_on c.loop-done.invariant c.loop-done-test.true (rest_is c.args.text.now c.loop-done.at) c.min-end.ensures c.read.new.self c.read.new.store c.in_ok-clause.ensures

pub overflow_add-filled : goal.overflow_add-filled
overflow_add-filled c =
    let g = loop-done-preserved c in
    record { fits = omega (arith, c.requires.clauses_bound, c.requires.literals_bound, reading_filled g, g.few, g.low) }

pub returns-then-is_some : goal.returns-then-is_some
returns-then-is_some c =
    let done = reading_more c.loop-done.invariant c.loop-done-test.false c.next_word.ensures c.if-is_some.ensures in
    record { outcome = done.0; stored = done.1 }

pub returns : goal.returns
returns c =
    let done = reading_end c.loop-done.invariant c.loop-done-test.false c.next_word.ensures c.if-is_some.ensures in
    record { outcome = done.0; stored = done.1 }
