-- No clash is left.
use mathlib.Core.List.{Memᴰ}
use Rattle.std.specs.Prelude.{T, ℤ, neg_ℤ}
use Rattle.definition.specs.Literals.{Clause, Formula}
use Rattle.definition.specs.Clearing.{unique}

-- no two unique literal clauses hold a literal and its negation
abbrev pub ClashFree : Formula → Type 0
ClashFree G = (c k : Clause) → Memᴰ c G → Memᴰ k G → T (unique G c) → T (unique G k) → (x : ℤ) → Memᴰ x c → Memᴰ (neg_ℤ x) k → ⊥
