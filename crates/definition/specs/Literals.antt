-- "Text and literals": a literal is a whole number, negative for a negated variable; a clause is a list of literals; a formula a list of clauses.
-- ℤ is the value of an i32 in a contract.
use Rattle.std.specs.Prelude.{Bool, false, not, ◌&&◌, ◌||◌, cond, List, [], ◌∷◌, ◌++◌, ℕ, max, eqb, ℤ, pos, negsuc, neg_ℤ, nat_abs, length}
use Rattle.definition.specs.Lists.{any, all, those, sum_of}

abbrev pub Clause : Type 0
Clause = List ℤ

-- the formula is a list: the same clause may stand twice
abbrev pub Formula : Type 0
Formula = List Clause

unfoldable pub same : ℤ → ℤ → Bool
same (pos a) (pos b) = eqb a b
same (pos a) (negsuc b) = false
same (negsuc a) (pos b) = false
same (negsuc a) (negsuc b) = eqb a b

unfoldable pub holds : ℤ → Clause → Bool
holds l c = any (same l) c

-- the same set of literals
unfoldable pub same_set : Clause → Clause → Bool
same_set c d = all (λ l. holds l d) c && all (λ l. holds l c) d

unfoldable pub without : ℤ → Clause → Clause
without l c = those (λ m. not (same l m)) c

-- l written first, the other literals in order
unfoldable pub with_first : ℤ → Clause → Clause
with_first l c = l ∷ without l c

-- l at the end, unless it is there already
abbrev pub with_literal : ℤ → Clause → Clause
with_literal l c = cond (holds l c) c (c ++ (l ∷ []))

-- a literal of c whose negation is in d
unfoldable pub opposes : Clause → Clause → Bool
opposes c d = any (λ l. holds (neg_ℤ l) d) c

-- a literal and its negation
unfoldable pub opposed : Clause → Bool
opposed c = opposes c c

unfoldable pub repeated : Clause → Bool
repeated [] = false
repeated (l ∷ c) = holds l c || repeated c

-- the highest variable of a clause, of a formula; 0 where there is none
unfoldable pub highest : Clause → ℕ
highest [] = 0
highest (l ∷ c) = max (nat_abs l) (highest c)

unfoldable pub highest_of : Formula → ℕ
highest_of [] = 0
highest_of (c ∷ f) = max (highest c) (highest_of f)

-- the literals of a formula, counted
unfoldable pub literals_of : Formula → ℕ
literals_of f = sum_of length f

-- all of this file, for a proof that computes: `unfolding computing` opens every name of the next line
unfoldable pub computing : Unit {0}
unfolding same holds same_set without with_first opposes opposed repeated highest highest_of literals_of
computing = tt
