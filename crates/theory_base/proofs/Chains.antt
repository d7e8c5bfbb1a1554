-- The definition's tests and sums are those of the library, in which chains of iterators answer.
use Rattle.std.proofs.Common.{◌≡◌, refl, ap, ◌∙◌, List, [], ◌∷◌, ℕ, ◌+◌, Bool, ◌&&◌, ◌||◌}
use Rattle.std.proofs.lemmas.List.Sums.{sum_by-cons}
use Rattle.std.specs.List.{list_any, list_all, sum_by}
use Rattle.definition.specs.Lists.{any, all, sum_of}

module _ {A : Type 0} where
  pub any_is : (p : A → Bool) (xs : List A) → list_any p xs ≡ any p xs
  unfolding any
  any_is p [] = refl
  any_is p (x ∷ xs) = ap (λ (b : Bool). p x || b) (any_is p xs)

  pub all_is : (p : A → Bool) (xs : List A) → list_all p xs ≡ all p xs
  unfolding all
  all_is p [] = refl
  all_is p (x ∷ xs) = ap (λ (b : Bool). p x && b) (all_is p xs)

  pub sum_is : (f : A → ℕ) (xs : List A) → sum_by f xs ≡ sum_of f xs
  unfolding sum_of
  sum_is f [] = refl
  sum_is f (x ∷ xs) = sum_by-cons f x xs ∙ ap (λ (n : ℕ). f x + n) (sum_is f xs)
