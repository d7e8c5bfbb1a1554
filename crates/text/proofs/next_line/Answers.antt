use Rattle.std.proofs.Common.{rules, refl}
use Rattle.theory_text.proofs.TextLines.{line_last, line_ended, lines_none}
use Rattle.text.proofs.Lines.{lf_found, lf_none}
use Rattle.text.proofs.next_line.Goals as goal

pub returns-then-text-at : goal.returns-then-text-at
returns-then-text-at c = lines_none c.args.text.now c.args.at (search rules)

pub returns-in-Some : goal.returns-in-Some
returns-in-Some c = let l = lf_found c.args.text.now c.args.at (search rules) c.in-Some.is c.newline.ensures in
    line_ended c.args.text.now c.args.at _ (search rules) l.0 c.without_cr-end.result l.1 c.without_cr-end.ensures

pub returns-in-None : goal.returns-in-None
returns-in-None c = line_last c.args.text.now c.args.at _ (search rules) (lf_none c.args.text.now c.args.at (search rules) c.in-None.is c.newline.ensures) refl
