-- Making room runs no event; the lowest mark is the first clash left (Scanning).
use mathlib.Core.Path.{sym, ◌∙◌}
use Rattle.pass_clashes.proofs.Scanning.{step_room, scanned_none, none_fewer, lowest_small, there_clashes, light_there, resolvable, scanned_clash, clash_fewer}
use Rattle.pass_clashes.proofs.clear_next.Goals as goal

pub make_room-p-requires : goal.make_room-p-requires
make_room-p-requires c = (c.requires.0.indexed, step_room c.requires.0)

pub find_clash-clash-requires : goal.find_clash-clash-requires
find_clash-clash-requires c = (c.make_room-p.ensures.indexed, lowest_small c.requires.0 (sym c.lowest_from.ensures ∙ c.in-Some.is))

pub resolve-requires : goal.resolve-requires
resolve-requires c =
    let e = sym c.lowest_from.ensures ∙ c.in-Some.is in
    let k = c.make_room-p.ensures.runs c.args.log.now in (
      rw c.find_clash-clash.ensures.variable (resolvable c.requires.0 e k (c.find_clash-clash.ensures.places (there_clashes c.requires.0 e k))
          c.make_room-p.ensures.indexed c.make_room-p.ensures.roomy),
      c.requires.0.zeros,
      light_there c.requires.0 e k,
    )

pub returns-in-Some : goal.returns-in-Some
returns-in-Some c =
    let e = sym c.lowest_from.ensures ∙ c.in-Some.is in
    let k = c.make_room-p.ensures.runs c.args.log.now in
    let n = c.find_clash-clash.ensures.variable in
    let h = c.find_clash-clash.ensures.places (there_clashes c.requires.0 e k) in
    record {
      scanned = rw c.word_of.ensures (scanned_clash c.requires.0 e k h (rw n at c.resolve.ensures.runs) c.resolve.new.marks
          (rw n at c.resolve.ensures.ended) c.resolve.auto.marks c.resolve.ensures.indexed
          c.resolve.ensures.table (rw n at c.resolve.ensures.weights));
      fewer = rw c.word_of.ensures (clash_fewer c.requires.0 e k h (rw n at c.resolve.ensures.runs));
    }

pub returns-in-None : goal.returns-in-None
returns-in-None c =
    record {
      scanned = scanned_none c.requires.0 (sym c.lowest_from.ensures ∙ c.in-None.is)
          c.args.log.now;
      fewer = none_fewer c.requires.0 c.requires.1;
    }
