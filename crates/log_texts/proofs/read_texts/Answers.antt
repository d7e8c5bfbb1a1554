use Rattle.std.proofs.Common.{arith, sym, ◌∙◌}
use Rattle.log_texts.proofs.Handing.{n_small, short_refused, lines_fit_work, handed_on}
use Rattle.std.proofs.lemmas.Result.{err_from_is_err_and}
use borrow.Author.Rules.{rules}
use Rattle.log_texts.proofs.read_texts.Goals as goal

pub returns-in_err-words : goal.returns-in_err-words
returns-in_err-words c =
    let p = err_from_is_err_and c.from_residual.result c.from_residual.ensures.1 in
    rw (p.1, p.2) (c.in_err-words.ensures _)

pub is_short-requires : goal.is_short-requires
is_short-requires c = n_small c.in_ok-words.ensures

pub returns-then-is_short : goal.returns-then-is_short
returns-then-is_short c = short_refused c.in_ok-words.ensures _ c.read_words.auto.work (sym c.is_short.ensures ∙ c.if-is_short.true)

pub overflow_add-result : goal.overflow_add-result
overflow_add-result c =
    record { fits = omega (arith, lines_fit_work c.in_ok-words.ensures _ c.read_words.auto.work (sym c.is_short.ensures ∙ c.if-is_short.false)) }

pub returns : goal.returns
returns c =
    handed_on c.in_ok-words.ensures _ c.read_words.auto.work (sym c.is_short.ensures ∙ c.if-is_short.false) c.by_way.ensures (search rules)
