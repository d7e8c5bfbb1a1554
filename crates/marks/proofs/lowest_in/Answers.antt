use borrow.Author.Rules.{rules}
use Rattle.marks.proofs.Digits.{trailing_lowest}
use Rattle.marks.proofs.lowest_in.Goals as goal

pub returns : goal.returns
returns c = let r = trailing_lowest 32 c.args.word (search rules) c.requires in
    record { inside = r.0; found = r.1; before = r.2 }
