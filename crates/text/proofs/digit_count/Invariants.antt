use Rattle.std.proofs.Common.{◌≡◌, ◌+◌, length}
use Rattle.definition.specs.Text.{digits}
use Rattle.text.proofs.digit_count.Given as goal

abbrev pub invariant-loop-m : goal.invariant-loop-m
invariant-loop-m l = l.count + length (digits l.m) ≡ length (digits l.n) + 1

abbrev pub decreases-loop-m : goal.decreases-loop-m
decreases-loop-m l = l.m
