use Rattle.std.specs.Prelude.{Some}
use mathlib.Core.Path.{◌≡◌}
use Prim.Native.Nat.{◌+◌}
use native.Mathlib.Omega.{arith}
use borrow.Author.Rules.{sfits_of}
use lib.ListN.{length, drop, length-drop}
use lib.Seq.{length-take-le}
use Rattle.literals.specs.Literal.{negative, header_literals}
use Rattle.literals.proofs.Laws.{answer, answered, literals_within}
use Rattle.store.specs.Store.{stored, header_at, size_at, clause_at}
use Rattle.theory_base.specs.Slices.{between}
use Rattle.replay.specs.Replayed.{ClauseAdded}
use Rattle.replay.proofs.Replaying.{addition_replays, replays_addition, replays_deletion}
use Rattle.replay.proofs.replay_line.Goals as goal

pub returns-then-is_negative : goal.returns-then-is_negative
returns-then-is_negative c =
    let w = c.args.work.now in
    let at = c.args.at in
    let store = c.args.layout.store in
    let end = c.args.layout.end in
    let n : c.header_length-n.result ≡ size_at w at = answer header_literals (header_at w at)
    (sfits_of c.header_length-arg-1.given) c.header_length-n.ensures in record {
      result = replays_deletion (stored (between store end w)) w at store end _ c.delete_part.result _ (omega arith)
          (answered negative (header_at w at) (sfits_of c.is_negative-arg-1.given) c.is_negative.ensures c.if-is_negative.true)
          (rw n at c.delete_part.ensures.result);
      kept = c.delete_part.ensures.kept;
      linked = c.delete_part.ensures.linked;
    }

pub returns : goal.returns
returns c =
    let w = c.args.work.now in
    let at = c.args.at in
    let store = c.args.layout.store in
    let end = c.args.layout.end in
    let l = c.requires.2 in
    let n : c.header_length-n.result ≡ size_at w at = answer header_literals (header_at w at)
    (sfits_of c.header_length-arg-1.given) c.header_length-n.ensures in
    let k : length (clause_at w at) ≡ size_at w at = length-take-le (size_at w at) (drop (at + 1) w)
    (omega (arith, c.requires.0, l.order, l.within, l.room, length-drop (at + 1) w)) in
    let a : ClauseAdded w c.args.layout (clause_at w at) c.add_part.result c.add_part.new.work = rw n at
    c.add_part.ensures.added in record {
      result = replays_addition (stored (between store end w)) w at store (end + (length (clause_at w at) + 1))
          (end + (size_at w at + 1)) (Some c.add_part.result) c.add_part.new.work (omega arith)
          (answered negative (header_at w at) (sfits_of c.is_negative-arg-1.given) c.is_negative.ensures c.if-is_negative.false)
          (addition_replays w c.add_part.new.work c.args.layout c.add_part.result (clause_at w at) l.order
          (omega (arith, k, literals_within (header_at w at) (sfits_of c.header_length-arg-1.given))) l.formed a);
      kept = a.kept;
      linked = c.add_part.ensures.linked;
    }
