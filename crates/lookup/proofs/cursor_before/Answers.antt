use native.Mathlib.Omega.{arith}
use Rattle.lookup.proofs.Cursors.{placed_none, placed_node, moved_place}
use Rattle.lookup.proofs.cursor_before.Goals as goal

pub returns-then-t-eq0 : goal.returns-then-t-eq0
returns-then-t-eq0 c = placed_none c.standing_before-t.ensures c.if-t-eq0.true

pub place_at-place-requires : goal.place_at-place-requires
place_at-place-requires c = let m = moved_place c.standing_before-t.ensures (omega (arith, c.if-t-eq0.false)) in (m.0, m.1)

pub overflow_add-place : goal.overflow_add-place
overflow_add-place c = let m = moved_place c.standing_before-t.ensures (omega (arith, c.if-t-eq0.false)) in record { fits = omega (arith, c.place_at-place.ensures, m.2) }

pub overflow_cast-result-2 : goal.overflow_cast-result-2
overflow_cast-result-2 c = let m = moved_place c.standing_before-t.ensures (omega (arith, c.if-t-eq0.false)) in record { fits = omega (arith, c.place_at-place.ensures, m.2) }

pub returns : goal.returns
returns c = placed_node c.standing_before-t.ensures (omega (arith, c.if-t-eq0.false)) c.place_at-place.ensures
