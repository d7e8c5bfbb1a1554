use native.Mathlib.Omega.{arith}
use mathlib.Core.Path.{sym, ◌∙◌}
use Rattle.lookup.proofs.Cursors.{moving_led, moving_older, moved_at, led_within, led_place, led_falls}
use Rattle.lookup.proofs.standing_before.Goals as goal

pub stands_before-requires : goal.stands_before-requires
stands_before-requires c = let d = moving_led c.requires c.loop-t.invariant in (omega (arith, c.loop-t-test.true), led_within d, led_place d (omega (arith, c.loop-t-test.true)))

pub returns-then-stands_before : goal.returns-then-stands_before
returns-then-stands_before c =
    moved_at c.requires c.loop-t.invariant (omega (arith, c.loop-t-test.true))
    (sym c.stands_before.ensures ∙ c.if-stands_before.true)

pub older-t-requires : goal.older-t-requires
older-t-requires c = let d = moving_led c.requires c.loop-t.invariant in (omega (arith, c.loop-t-test.true), led_within d)

pub loop-t-smaller : goal.loop-t-smaller
loop-t-smaller c = omega (arith, c.older-t.ensures, led_falls (moving_led c.requires c.loop-t.invariant) (omega (arith, c.loop-t-test.true)))

pub loop-t-preserved : goal.loop-t-preserved
loop-t-preserved c =
    moving_older c.requires c.loop-t.invariant (omega (arith, c.loop-t-test.true))
    (sym c.stands_before.ensures ∙ c.if-stands_before.false) c.older-t.ensures
