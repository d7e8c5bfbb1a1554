-- Log lines one by one: their numbers, replayed, and an assignment carried back over them.
use mathlib.Core.Path.{◌≡◌, refl, ap}
use mathlib.Core.Bool.{true}
use mathlib.Core.List.{List, [], ◌∷◌, ◌++◌}
use Prim.Native.Nat.{ℕ, ◌+◌, ◌≤◌}
use native.Mathlib.Omega.{arith}
use lib.ListN.{length}
use Rattle.definition.specs.Checked.{fault, value, ◌>>=◌, through}
use Rattle.definition.specs.Lists.{sum_of}
use Rattle.definition.specs.Literals.{Clause, Formula}
use Rattle.definition.specs.Standing.{Line, literals, replay_line, replay}
use Rattle.definition.specs.LogReading.{numbers_in}
use Rattle.definition.specs.Assignments.{Assignment, has_true, repaired, carried, carried_back}

-- ---- numbers

pub numbers_in_cons : (x : Line) (xs : List Line) → numbers_in (x ∷ xs) ≡ (length (literals x) + 1) + numbers_in xs
unfolding numbers_in sum_of
numbers_in_cons x xs = refl

-- each line has a number of its own, its 0
pub lines_few : (xs : List Line) → length xs ≤ numbers_in xs
unfolding numbers_in sum_of
lines_few [] = omega arith
lines_few (x ∷ xs) = omega (arith, lines_few xs)

-- ---- replayed

pub replay_cons : (f g : Formula) (x : Line) (xs : List Line) → replay_line f x ≡ value g → replay f (x ∷ xs) ≡ replay g xs
unfolding replay through ◌>>=◌
replay_cons f g x xs e = rw e

pub replay_refused : (f : Formula) (x : Line) (xs : List Line) (n : ℕ) → replay_line f x ≡ fault n → replay f (x ∷ xs) ≡ fault n
unfolding replay through ◌>>=◌
replay_refused f x xs n e = rw e

-- ---- carried back

pub carried_back_snoc : (a : Assignment) (xs : List Line) (x : Line) → carried_back a (xs ++ (x ∷ [])) ≡ carried_back (carried a x) xs
unfolding carried_back
carried_back_snoc a [] x = refl
carried_back_snoc a (y ∷ xs) x = ap (λ (b : Assignment). carried b y) (carried_back_snoc a xs x)

pub repaired_empty : (c : Clause) (a : Assignment) → length c ≡ 0 → a ≡ repaired c a
unfolding repaired
repaired_empty [] a e = refl
repaired_empty (l ∷ c) a e = absurd (omega arith)

pub repaired_true : (c : Clause) (a : Assignment) → has_true a c ≡ true → a ≡ repaired c a
unfolding repaired
repaired_true [] a e = refl
repaired_true (l ∷ c) a e = rw e
