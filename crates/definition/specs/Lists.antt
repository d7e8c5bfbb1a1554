-- Tests and loops over lists, as the other files use them.
use Rattle.std.specs.Prelude.{Bool, true, false, ◌&&◌, ◌||◌, cond, List, [], ◌∷◌, ◌++◌, ℕ, zero, suc, ◌+◌}
use Rattle.std.proofs.Math.Option.{Option, some, none}

-- 1 for true, 0 for false
abbrev pub bit : Bool → ℕ
bit true = 1
bit false = 0

module _ {A : Type 0} where
  unfoldable pub all : (A → Bool) → List A → Bool
  all p [] = true
  all p (x ∷ xs) = p x && all p xs

  unfoldable pub any : (A → Bool) → List A → Bool
  any p [] = false
  any p (x ∷ xs) = p x || any p xs

  -- those that pass, in order
  unfoldable pub those : (A → Bool) → List A → List A
  those p [] = []
  those p (x ∷ xs) = cond (p x) (x ∷ those p xs) (those p xs)

  -- the first that passes
  unfoldable pub first : (A → Bool) → List A → Option A
  first p [] = none
  first p (x ∷ xs) = cond (p x) (some x) (first p xs)

  -- how many pass
  unfoldable pub count : (A → Bool) → List A → ℕ
  count p [] = 0
  count p (x ∷ xs) = bit (p x) + count p xs

  unfoldable pub sum_of : (A → ℕ) → List A → ℕ
  sum_of f [] = 0
  sum_of f (x ∷ xs) = f x + sum_of f xs

  -- xs, or nothing
  unfoldable pub only_if : Bool → List A → List A
  only_if true xs = xs
  only_if false xs = []

  unfoldable pub or_else : Option A → Option A → Option A
  or_else none b = b
  or_else (some a) b = some a

  -- the first that f gives for i, i + 1, .. : n numbers
  unfoldable pub first_from : ℕ → ℕ → (ℕ → Option A) → Option A
  first_from i zero f = none
  first_from i (suc n) f = or_else (f i) (first_from (suc i) n f)

  -- what f gives for i, i + 1, .. : n numbers
  unfoldable pub for_from : ℕ → ℕ → (ℕ → List A) → List A
  for_from i zero f = []
  for_from i (suc n) f = f i ++ for_from (suc i) n f

module _ {A B : Type 0} where
  -- what f gives for each, one after the other
  unfoldable pub for_each : List A → (A → List B) → List B
  for_each [] f = []
  for_each (x ∷ xs) f = f x ++ for_each xs f

-- all of this file, for a proof that computes: `unfolding computing` opens every name of the next line
unfoldable pub computing : Unit {0}
unfolding all any those first count sum_of only_if or_else first_from for_from for_each
computing = tt
