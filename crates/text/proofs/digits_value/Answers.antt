use Rattle.std.proofs.Common.{rules, ◌≡◌, ◌∙◌, sym, min, get_or, ◌+◌, ◌*◌, ◌-◌}
use Rattle.text.proofs.Numbers.{digits_step, digits_stop, digits_end, digits_large, digit_least}
use Rattle.text.proofs.digits_value.Goals as goal

pub returns-then-not-is_digit : goal.returns-then-not-is_digit
returns-then-not-is_digit c = digits_stop c.args.most (search rules) c.args.word.now c.loop-b.b-index c.loop-b.value (search rules)
    (sym c.is_digit.ensures ∙ c.if-not-is_digit.true)
    ∙ c.loop-b.invariant.1

pub returns-then-value-most : goal.returns-then-value-most
returns-then-value-most c = digits_end c.args.most (search rules) c.args.word.now c.loop-b.b-index c.loop-b.value (search rules)
    (search rules)
    ∙ c.loop-b.invariant.1

pub returns-else-value-most : goal.returns-else-value-most
returns-else-value-most c = digits_large c.args.most (search rules) c.args.word.now c.loop-b.b-index c.loop-b.value (search rules)
    (search rules)
    ∙ c.loop-b.invariant.1

pub overflow_sub-b : goal.overflow_sub-b
overflow_sub-b c = digit_least _ (sym c.is_digit.ensures ∙ c.if-not-is_digit.false)

pub loop-b-preserved : goal.loop-b-preserved
loop-b-preserved c =
    let e : c.min-value.result ≡ min (c.loop-b.value * 10 + (get_or c.args.word.now c.loop-b.b-index 0 - 48)) 1_000_001 = search rules in (
      search rules,
      rw e
          (digits_step c.args.most (search rules) c.args.word.now c.loop-b.b-index c.loop-b.value (search rules)
          (sym c.is_digit.ensures ∙ c.if-not-is_digit.false)
          ∙ c.loop-b.invariant.1),
    )
