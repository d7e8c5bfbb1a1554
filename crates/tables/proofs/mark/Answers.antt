-- By the entries of the literal and of its negation.
use lib.IntN.{ℤ}
use lib.ListN.{set}
use borrow.Author.Rules.{rules, sfits_of}
use Rattle.literals.specs.Literal.{index_of}
use Rattle.literals.proofs.Laws.{answer, answer_negated}
use Rattle.tables.specs.Entries.{entry_of}
use Rattle.tables.proofs.Laws.{mark_new}
use Rattle.tables.proofs.mark.Goals as goal

pub returns : goal.returns
returns c = let t = c.args.seen.now in
    let l = c.args.l in
    let a = answer (entry_of t) l c.ranges.l c.entry_of.ensures in
    let b = answer_negated (entry_of t) l c.ranges.l (sfits_of c.negated.type_inv) c.negated.ensures c.entry_of-2.ensures in
    λ here k. mark_new l c.requires.l_bound t c.args.stamp a here k c.if-entry_of-stamp.false b (search rules) c.requires.log_size_in_bounds
    (answer (λ (z : ℤ). set t (index_of z) c.args.stamp) l c.ranges.l c.set_entry.ensures)
