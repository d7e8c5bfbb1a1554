use Rattle.std.proofs.Common.{rules, ap, ◌∙◌, true, false}
use Rattle.text.specs.Numbers.{with_sign}
use Rattle.text.proofs.Numbers.{minus_read, plain_read}
use Rattle.text.proofs.read_number.Goals.{in_default-via-then-word-lt1, in_default-via-else-word-lt1+in_default-1}
use Rattle.text.proofs.read_number.Goals as goal

pub returns-in-45 : goal.returns-in-45
returns-in-45 c = c.signed_number.ensures ∙ ap (with_sign true) c.natural_up_to.ensures ∙ minus_read c.args.word.now (search rules) (search rules)

pub returns-in_default : goal.returns-in_default
returns-in_default c =
    c.signed_number-in_default.ensures
    ∙ ap (with_sign false) c.natural_up_to-in_default.ensures
    ∙ plain_read c.args.word.now
    (λ h e. elim c.in_default.branch [ in_default-via-then-word-lt1 w ↦ search rules | in_default-via-else-word-lt1+in_default-1 w ↦ search rules ])
