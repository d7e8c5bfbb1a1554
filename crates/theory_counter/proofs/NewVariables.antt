-- The first new variable of a choice is above all used, and a step further at most.
use Prim.Native.Nat.{ℕ, zero, suc, ◌+◌, ◌-◌, ◌%◌, ◌≤◌}
use native.Mathlib.Omega.{arith}
use native.Mathlib.Nat.{mod-lt, mod-zero}
use Rattle.definition.specs.Events.{choice_of}
use Rattle.definition.specs.Literals.{Clause}
use Rattle.definition.specs.Counter.{below_new, last_new}

pub below_new_least : (g n : ℕ) → n ≤ below_new g n
unfolding below_new
below_new_least g n = omega arith

pub below_new_most : (g n : ℕ) → below_new g n ≤ n + g
unfolding below_new
below_new_most zero n = omega (arith, mod-zero (0 - n % 0))
below_new_most (suc g) n = omega (arith, mod-lt (suc g - n % suc g) {m = suc g} (omega arith))

pub last_new_above : (g : ℕ) (l : Clause) (n : ℕ) → n ≤ last_new (choice_of l (below_new g n))
unfolding last_new
last_new_above g l n = omega (arith, below_new_least g n)
