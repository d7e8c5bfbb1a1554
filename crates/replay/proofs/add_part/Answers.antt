use mathlib.Core.Path.{◌≡◌}
use native.Mathlib.Omega.{arith}
use Prim.Native.Nat.{◌+◌}
use lib.ListN.{length, take, drop, length-drop}
use lib.Seq.{length-take-le}
use Rattle.replay.proofs.Indexing.{part_rest, part_link, clause_added, linked_added}
use Rattle.replay.proofs.add_part.Goals as goal

pub index_entry-requires : goal.index_entry-requires
index_entry-requires c =
    let w = c.args.work.now in
    let l = c.requires.3 in
    let d = take c.args.n (drop c.args.first w) in
    let m : length d ≡ c.args.n = length-take-le c.args.n (drop c.args.first w)
    (omega (arith, c.requires.0, l.order, l.within, l.room, length-drop c.args.first w)) in
    let x : c.append_part-end.result ≡ c.args.layout.end + (length d + 1) = omega (arith, c.append_part-end.ensures.next, m) in (
      omega (arith, x, l.order),
      omega (arith, x, m, c.requires.1),
      part_link w c.append_part-end.new.work w c.args.heads.now c.args.heads.now c.args.layout c.append_part-end.result d l (omega (arith, m, c.requires.2)) x
          (omega (arith, x, m, c.requires.1)) c.append_part-end.ensures.written,
      l.table,
      part_rest w c.append_part-end.new.work w c.args.heads.now c.args.heads.now
          c.args.layout c.append_part-end.result d l
          (omega (arith, m, c.requires.2)) x (omega (arith, x, m, c.requires.1)) c.append_part-end.ensures.written,
    )

pub returns : goal.returns
returns c =
    let w = c.args.work.now in
    let l = c.requires.3 in
    let d = take c.args.n (drop c.args.first w) in
    let m : length d ≡ c.args.n = length-take-le c.args.n (drop c.args.first w)
    (omega (arith, c.requires.0, l.order, l.within, l.room, length-drop c.args.first w)) in
    let x : c.append_part-end.result ≡ c.args.layout.end + (length d + 1) = omega (arith, c.append_part-end.ensures.next, m) in record {
      added = clause_added w c.append_part-end.new.work _ c.args.heads.now _ c.args.layout c.append_part-end.result d l (omega (arith, m, c.requires.2)) x
          (omega (arith, x, m, c.requires.1)) c.append_part-end.ensures.written c.index_entry.ensures.linked
          c.index_entry.ensures.newest;
      linked = linked_added w c.append_part-end.new.work _ c.args.heads.now _ c.args.layout c.append_part-end.result d l (omega (arith, m, c.requires.2)) x
          (omega (arith, x, m, c.requires.1)) c.append_part-end.ensures.written c.index_entry.ensures.linked
          c.index_entry.ensures.newest;
    }
