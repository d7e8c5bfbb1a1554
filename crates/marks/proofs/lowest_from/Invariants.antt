-- Invariant: the words from the first up to w are 0.
use mathlib.Core.Path.{◌≡◌}
use Prim.Native.Nat.{ℕ, ◌≤◌, ◌<◌}
use lib.ListN.{get_or}
use Rattle.marks.proofs.lowest_from.Given as goal

abbrev pub invariant-loop-w : goal.invariant-loop-w
invariant-loop-w l = (i : ℕ) → l.from ≤ i → i < l.w → get_or l.marks i 0 ≡ 0
