use Rattle.std.proofs.Common.{rules, ap, ◌∙◌}
use Rattle.text.proofs.Numbers.{natural_digits}
use Rattle.text.specs.Numbers.{natural_class}
use Rattle.text.proofs.natural_up_to.Goals.{in_default-via-then-word-lt2, in_default-via-else-word-lt2+in_default-1}
use Rattle.text.proofs.natural_up_to.Goals as goal

pub returns-in_default : goal.returns-in_default
returns-in_default c =
    c.digits_value.ensures
    ∙ ap (natural_class c.args.most)
    (natural_digits c.args.word.now (search rules)
    (λ h e. elim c.in_default.branch [ in_default-via-then-word-lt2 w ↦ search rules | in_default-via-else-word-lt2+in_default-1 w ↦ search rules ]))
