use borrow.Author.Rules.{sfits_of}
use native.Mathlib.Omega.{arith}
use lib.IntN.{pos}
use lib.ListN.{get_or}
use Rattle.literals.proofs.Laws.{answer_negated}
use Rattle.tables.specs.Entries.{entry_of}
use Rattle.lookup.proofs.Cursors.{starting_more, last_readable}
use Rattle.lookup.proofs.start_cursors.Goals as goal

pub cursor_before-requires : goal.cursor_before-requires
cursor_before-requires c =
    last_readable c.requires.searchable.1 c.loop-i.i c.loop-i-test.true
    (answer_negated (entry_of c.args.newest.now) (get_or c.args.choice.now c.loop-i.i (pos 0))
    (sfits_of c.negated-arg-1.given) (sfits_of c.negated.type_inv) c.negated.ensures c.last_node-node.ensures) c.requires.searchable.0.indexed

pub loop-i-preserved : goal.loop-i-preserved
loop-i-preserved c =
    starting_more c.requires.searchable.1 c.loop-i.i c.loop-i-test.true
    (answer_negated (entry_of c.args.newest.now) (get_or c.args.choice.now c.loop-i.i (pos 0))
    (sfits_of c.negated-arg-1.given) (sfits_of c.negated.type_inv) c.negated.ensures c.last_node-node.ensures)
    (omega (arith, c.loop-i.auto.cursors, c.requires.one_each)) c.loop-i.invariant c.cursor_before.ensures
