use mathlib.Core.Path.{ap, ap₂, ◌∙◌}
use Rattle.definition.specs.Text.{Bytes, natural}
use Rattle.theory_base.proofs.Slices.{rest_is}
use Rattle.text.specs.Numbers.{natural_class}
use Rattle.dimacs.specs.HeaderLine.{counts_by}
use Rattle.dimacs.proofs.HeaderLine.{counts_no, counts_one, counts_two}
use Rattle.dimacs.proofs.read_counts.Goals as goal

pub returns-in_default : goal.returns-in_default
returns-in_default c = counts_no c.args.most c.requires c.args.line.now c.in_default.ensures.cases

pub returns-in_default-first_blank : goal.returns-in_default-first_blank
returns-in_default-first_blank c =
    counts_one c.args.most c.requires c.args.line.now c.in-Some.rest.now c.in-Some.ensures.cases.0 c.in-Some.ensures.cases.1 c.in_default-first_blank.ensures

pub returns : goal.returns
returns c =
    let t = c.in-Some.rest.now in
    c.counts_from.ensures
    ∙ ap₂ (counts_by c.args.most) c.read_natural-v.ensures (c.read_natural-c.ensures ∙ ap (λ (u : Bytes). natural_class 1_000_000 (natural u)) (rest_is t _))
    ∙ counts_two c.args.most c.requires c.args.line.now t c.in-Some.ensures.cases.0 c.in-Some.ensures.cases.1 c.in-Some-first_blank.ensures
