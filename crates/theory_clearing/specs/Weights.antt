-- Weights of literals, by which each clause that stands has a count.
use Rattle.std.specs.Prelude.{◌≡◌, ℕ, ◌+◌, ◌<◌, ℤ, length}
use mathlib.Core.List.{Memᴰ}
use Rattle.definition.specs.Lists.{sum_of}
use Rattle.definition.specs.Literals.{Clause, Formula}

-- the count of each clause with a literal is 1 and the weights of its literals
abbrev pub Weighs : (Clause → ℕ) → (ℤ → ℕ) → Formula → Type 0
Weighs count w F = (d : Clause) → Memᴰ d F → 0 < length d → sum_of w d + 1 ≡ count d
