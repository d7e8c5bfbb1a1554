use borrow.Author.Rules.{sfits_of}
use mathlib.Core.Path.{refl}
use lib.IntN.{ℤ, pos}
use lib.ListN.{get_or}
use Rattle.literals.proofs.Laws.{answer}
use Rattle.tables.specs.Entries.{entry_of}
use Rattle.index.specs.Index.{nodes, with_node, with_last}
use Rattle.index.proofs.Entering.{entering_start, entering_room, entering_step, entering_end}
use Rattle.index.proofs.enter.Goals as goal

pub loop-i-init : goal.loop-i-init
loop-i-init c =
    entering_start c.args.work.now c.args.newest.now c.args.at c.args.next
    c.requires.indexed_2.0 c.requires.indexed_2.1 c.requires.at_in_bounds

pub enter_literal-requires : goal.enter_literal-requires
enter_literal-requires c =
    entering_room c.args.work.now c.args.newest.now c.args.at c.args.next
    c.requires.indexed_2.0 c.requires.indexed_2.1 c.requires.at_in_bounds c.loop-i.work c.loop-i.newest c.loop-i.i c.loop-i.invariant
    c.loop-i-test.true

pub loop-i-preserved : goal.loop-i-preserved
loop-i-preserved c =
    let l = get_or c.loop-i.work c.loop-i.i (pos 0) in
    entering_step c.args.work.now c.args.newest.now c.args.at c.args.next
    c.requires.indexed_2.0 c.requires.indexed_2.1 c.requires.at_in_bounds c.loop-i.work c.loop-i.newest c.loop-i.i c.loop-i.invariant
    c.loop-i-test.true l refl _ _
    (answer (λ (z : ℤ). with_node c.loop-i.work (nodes c.loop-i.newest) c.args.at (entry_of c.loop-i.newest z)) l
    (sfits_of c.l-1.given) c.enter_literal.ensures.node)
    (answer (λ (z : ℤ). with_last c.loop-i.newest z) l (sfits_of c.l-1.given) c.enter_literal.ensures.table)

pub returns : goal.returns
returns c =
    let done = entering_end c.args.work.now c.args.newest.now c.args.at c.args.next
    c.requires.indexed_2.0 c.requires.indexed_2.1 c.requires.at_in_bounds c.loop-i.work c.loop-i.newest c.loop-i.i c.loop-i.invariant
    c.loop-i-test.false in record { indexed = done.0; kept = done.1.0; nodes = done.1.1.0; below = done.1.1.1 }
