use mathlib.Core.Path.{◌∙◌}
use native.Mathlib.Omega.{arith}
use Rattle.theory_text.proofs.HeaderLine.{comments_end}
use Rattle.dimacs.proofs.HeaderLine.{comment_past, no_line}
use Rattle.dimacs.proofs.header_line.Goals as goal

pub returns-then-text-at-ne99 : goal.returns-then-text-at-ne99
returns-then-text-at-ne99 c =
    record {
      at = c.loop-line.at;
      rest = comments_end c.args.text.now c.loop-line.at (omega (arith, c.in-Some.ensures.forward, c.in-Some.ensures.within)) c.if-text-at-ne99.true
          ∙ c.loop-line.invariant;
      says = c.in-Some.ensures;
    }

pub loop-line-preserved : goal.loop-line-preserved
loop-line-preserved c = comment_past c.args.text.now c.loop-line.at c.in-Some.ensures c.if-text-at-ne99.false ∙ c.loop-line.invariant

pub returns : goal.returns
returns c = record { at = c.loop-line.at; rest = no_line c.args.text.now c.loop-line.at c.in_default.ensures ∙ c.loop-line.invariant; says = c.in_default.ensures }
