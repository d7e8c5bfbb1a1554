-- Which variables clash, and whose clashes end when one is cleared.
use Rattle.std.specs.Prelude.{Bool, true, false, cond, ◌&&◌, ◌||◌, ℕ, eqb, ℤ, nat_abs}
use Rattle.std.proofs.Math.Option.{Option, some, none}
use Rattle.definition.specs.Lists.{any}
use Rattle.definition.specs.Literals.{Clause, Formula, holds, opposed}
use Rattle.definition.specs.Events.{Clash}
use Rattle.definition.specs.Clearing.{unique, clash_at, resolvent}

abbrev pub found : {A : Type 0} → Option A → Bool
found (some x) = true
found none = false

-- the variable v clashes
abbrev pub clashes : Formula → ℕ → Bool
clashes F v = found (clash_at F v)

-- a literal stands in a clause of G that is a unique literal clause of F
abbrev pub in_ulc : Formula → Formula → ℤ → Bool
in_ulc F G l = any (λ c. holds l c && unique F c) G

-- v is the variable of a literal of c
abbrev pub mentions : Clause → ℕ → Bool
mentions c v = any (λ l. eqb (nat_abs l) v) c

-- clearing c ends the clash of v: v is c's variable, or the resolvent is not added and v is one of A's or B's
abbrev pub ends : Clash → ℕ → Bool
ends c v = cond (opposed (resolvent c)) (mentions c.one v || mentions c.other v) (eqb (nat_abs c.v) v)
