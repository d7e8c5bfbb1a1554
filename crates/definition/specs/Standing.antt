-- "Standing and carried back": log lines, and how they change the standing clauses.
use Rattle.std.specs.Prelude.{Bool, not, cond, List, [], ◌∷◌, ◌++◌, ℕ, max}
use Rattle.definition.specs.Lists.{any}
use Rattle.definition.specs.Checked.{Checked, value, refuse_if, through}
use Rattle.definition.specs.Literals.{Clause, Formula, same_set, highest}

-- a line of the log
pub data Line : Type 0 where
  addition : Clause → Line
  deletion : Clause → Line

unfoldable pub literals : Line → Clause
literals (addition c) = c
literals (deletion c) = c

-- the highest variable in the lines
unfoldable pub highest_in : List Line → ℕ
highest_in [] = 0
highest_in (s ∷ ss) = max (highest (literals s)) (highest_in ss)

-- a clause with the same set of literals stands
unfoldable pub stands : Clause → Formula → Bool
stands c f = any (same_set c) f

-- without the first clause with the same set of literals
unfoldable pub take_out : Clause → Formula → Formula
take_out c [] = []
take_out c (d ∷ f) = cond (same_set c d) f (d ∷ take_out c f)

-- an addition puts its clause at the end, a deletion takes out the first clause with the same set of literals
unfoldable pub changed : Formula → Line → Formula
changed f (addition c) = f ++ (c ∷ [])
changed f (deletion c) = take_out c f

-- what stands after the lines
unfoldable pub after : Formula → List Line → Formula
after f [] = f
after f (s ∷ ss) = after (changed f s) ss

-- a deletion without its clause: number 32
unfoldable pub replay_line : Formula → Line → Checked Formula
replay_line f (addition c) = value (changed f (addition c))
replay_line f (deletion c) = refuse_if (not (stands c f)) 32 (value (changed f (deletion c)))

unfoldable pub replay : Formula → List Line → Checked Formula
replay f ss = through replay_line f ss

-- all of this file, for a proof that computes: `unfolding computing` opens every name of the next line
unfoldable pub computing : Unit {0}
unfolding literals highest_in stands take_out changed after replay_line replay
computing = tt
