use Rattle.std.proofs.Common.{arith, ap, ◌+◌, ◌∙◌, ℤ, set, refl}
use borrow.Author.Rules.{sfits_of}
use Rattle.literals.proofs.Laws.{answer}
use Rattle.drat.proofs.Rest.{word_literal, word_argument, word_last, word_fault}
use Rattle.drat.proofs.Clause.{reading_start, reading_step, reading_taken, reading_last, reading_fault}
use Rattle.drat.proofs.read_clause.Goals as goal

pub loop-word-init : goal.loop-word-init
loop-word-init c = (refl, reading_start _ _ _ _ _ _ c.requires.fresh c.requires.from_in_bounds)

pub mark-requires : goal.mark-requires
mark-requires c =
    let m = word_argument _ _ c.in_ok-word.ensures c.in-Literal.is in
    record { l_bound = m.small; log_size_in_bounds = omega (arith, c.requires.log_size_in_bounds, c.loop-word.invariant.0) }

pub overflow_add-to : goal.overflow_add-to
overflow_add-to c =
    let m = word_literal _ _ c.in_ok-word.ensures c.in-Literal.is in
    record { fits = omega (arith, c.loop-word.invariant.1.room, m.after, m.within, c.requires.text_bound) }

pub loop-word-smaller : goal.loop-word-smaller
loop-word-smaller c = let m = word_literal _ _ c.in_ok-word.ensures c.in-Literal.is in omega (arith, m.after, m.within)

pub loop-word-preserved : goal.loop-word-preserved
loop-word-preserved c =
    let i = c.loop-word.invariant.1 in (
      c.mark.auto.seen ∙ c.loop-word.invariant.0,
      reading_step i (word_argument _ _ c.in_ok-word.ensures c.in-Literal.is) _ _ (c.mark.ensures i.c i.marks) c.in-New.is
          c.variable.ensures c.max-highest.ensures c.put.ensures,
    )

pub returns-in-Repeated : goal.returns-in-Repeated
returns-in-Repeated c =
    let i = c.loop-word.invariant.1 in
    let done = reading_taken i (word_argument _ _ c.in_ok-word.ensures c.in-Literal.is) _ _ (c.mark.ensures i.c i.marks) c.in-Repeated.is in
    record { read = done.0; table = done.1 }

pub overflow_add-to-in-End : goal.overflow_add-to-in-End
overflow_add-to-in-End c =
    let m = word_last _ _ c.in_ok-word.ensures c.in-End.is in
    record { fits = omega (arith, c.loop-word.invariant.1.room, m.after, m.within, c.requires.text_bound) }

pub returns-in-End-clause-read : goal.returns-in-End-clause-read
returns-in-End-clause-read c =
    reading_last c.loop-word.invariant.1 (word_last _ _ c.in_ok-word.ensures c.in-End.is)
    (answer (λ (z : ℤ). set c.loop-word.store (c.args.to + c.loop-word.count) z) c.header.result (sfits_of c.header.type_inv) c.put-in-End.ensures
    ∙ ap (λ (z : ℤ). set c.loop-word.store (c.args.to + c.loop-word.count) z) c.header.ensures)

pub returns-in_err-word-clause-read : goal.returns-in_err-word-clause-read
returns-in_err-word-clause-read c = rw c.from_residual.ensures (reading_fault c.loop-word.invariant.1 (word_fault _ _ c.in_err-word.ensures))
