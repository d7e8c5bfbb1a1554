-- "Standing and carried back" and M-121: assignments, what they satisfy, and carrying one back or forward over log lines.
use Rattle.std.specs.Prelude.{◌≡◌, Bool, true, false, not, cond, List, [], ◌∷◌, ℕ, suc, T, eqb, ℤ, pos, negsuc, nat_abs}
use Rattle.definition.specs.Lists.{all, any, count}
use Rattle.definition.specs.Literals.{Clause, Formula}
use Rattle.definition.specs.Standing.{Line, addition, deletion}

-- an assignment gives every variable true or false
abbrev pub Assignment : Type 0
Assignment = ℕ → Bool

unfoldable pub true_in : Assignment → ℤ → Bool
true_in a (pos n) = a n
true_in a (negsuc n) = not (a (suc n))

-- a clause has a true literal; an empty clause has none
unfoldable pub has_true : Assignment → Clause → Bool
has_true a c = any (true_in a) c

-- it satisfies a list of clauses if each has a true literal
unfoldable pub satisfies : Assignment → Formula → Bool
satisfies a f = all (has_true a) f

-- a list can be satisfied if some assignment satisfies it
pub record Satisfiable (f : Formula) : Type 0 where
  pub by : Assignment
  pub holds : T (satisfies by f)

-- how many of a clause's literals are true
unfoldable pub trues : Assignment → Clause → ℕ
trues a c = count (true_in a) c

-- exactly one literal of the clause is true
unfoldable pub ExactlyOne : Assignment → Clause → Type 0
ExactlyOne a c = trues a c ≡ 1

-- the value that makes a literal true
unfoldable pub sign : ℤ → Bool
sign (pos n) = true
sign (negsuc n) = false

unfoldable pub make_true : ℤ → Assignment → Assignment
make_true l a v = cond (eqb v (nat_abs l)) (sign l) (a v)

-- all literals false: the first is made true; else, or without literals, nothing changes
unfoldable pub repaired : Clause → Assignment → Assignment
repaired [] a = a
repaired (l ∷ c) a = cond (has_true a (l ∷ c)) a (make_true l a)

-- carried back over a line: only a deletion may change something
unfoldable pub carried : Assignment → Line → Assignment
carried a (addition c) = a
carried a (deletion c) = repaired c a

-- through the lines, the last one first
unfoldable pub carried_back : Assignment → List Line → Assignment
carried_back a [] = a
carried_back a (s ∷ ss) = carried (carried_back a ss) s

-- M-121, carried forward over a line: only an addition may change something
unfoldable pub forwarded : Assignment → Line → Assignment
forwarded a (addition c) = repaired c a
forwarded a (deletion c) = a

-- through the lines, the first one first
unfoldable pub carried_forward : Assignment → List Line → Assignment
carried_forward a [] = a
carried_forward a (s ∷ ss) = carried_forward (forwarded a s) ss

-- all of this file, for a proof that computes: `unfolding computing` opens every name of the next line
unfoldable pub computing : Unit {0}
unfolding true_in has_true satisfies trues sign make_true repaired carried carried_back forwarded carried_forward
computing = tt
