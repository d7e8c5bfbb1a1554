-- Sums over lists, and lists that hold no element twice. Assumes nothing.
use mathlib.Core.Path.{◌≡◌, refl, sym, ◌∙◌, ap}
use mathlib.Core.Logic.{◌≢◌}
use mathlib.Core.Bool.{Bool, true, false, cond}
use mathlib.Core.List.Memᴰ
use mathlib.Core.List.Memᴰ.{head as here}
use mathlib.Core.List.Memᴰ.{tail as there}
use mathlib.Core.List.{List, [], ◌∷◌, ◌++◌, map, Memᴰ}
use Prim.Native.Nat.{ℕ, zero, suc, ◌+◌, ◌*◌, ◌≤◌, ◌<◌}
use native.Mathlib.Omega.{arith}
use lib.ListN.{length}
use Rattle.definition.specs.Lists.{bit, count, those, sum_of, for_from, for_each}

module _ {A : Type 0} where
  pub sum-++ : (w : A → ℕ) (xs ys : List A) → sum_of w (xs ++ ys) ≡ sum_of w xs + sum_of w ys
  unfolding sum_of
  sum-++ w [] ys = omega arith
  sum-++ w (x ∷ xs) ys = omega (arith, sum-++ w xs ys)

  pub sum-≤ : (v w : A → ℕ) (xs : List A) → ((x : A) → Memᴰ x xs → v x ≤ w x) → sum_of v xs ≤ sum_of w xs
  unfolding sum_of
  sum-≤ v w [] h = omega arith
  sum-≤ v w (x ∷ xs) h = omega (arith, h x (here refl), sum-≤ v w xs (λ y m. h y (there m)))

  pub sum_at : (w : A → ℕ) {x : A} {xs : List A} → Memᴰ x xs → w x ≤ sum_of w xs
  unfolding sum_of
  sum_at w (here {xs = xs} e) = omega (arith, ap w e)
  sum_at w (there m) = omega (arith, sum_at w m)

  pub sum_none : (w : A → ℕ) (xs : List A) → ((x : A) → Memᴰ x xs → w x ≡ 0) → sum_of w xs ≡ 0
  unfolding sum_of
  sum_none w [] h = refl
  sum_none w (x ∷ xs) h = omega (arith, h x (here refl), sum_none w xs (λ y m. h y (there m)))

  -- where each has at most, or at least, b
  pub sum_most : (b : ℕ) (w : A → ℕ) → ((x : A) → w x ≤ b) → (xs : List A) → sum_of w xs ≤ length xs * b
  unfolding sum_of
  sum_most b w h [] = omega arith
  sum_most b w h (x ∷ xs) = omega (arith, h x, sum_most b w h xs)

  pub sum_least : (b : ℕ) (w : A → ℕ) → ((x : A) → b ≤ w x) → (xs : List A) → length xs * b ≤ sum_of w xs
  unfolding sum_of
  sum_least b w h [] = omega arith
  sum_least b w h (x ∷ xs) = omega (arith, h x, sum_least b w h xs)

  pub count_length : (xs : List A) → sum_of (λ _. 1) xs ≡ length xs
  unfolding sum_of
  count_length [] = refl
  count_length (x ∷ xs) = omega (arith, count_length xs)

  pub count_sum : (p : A → Bool) (xs : List A) → count p xs ≡ sum_of (λ x. bit (p x)) xs
  unfolding count sum_of
  count_sum p [] = refl
  count_sum p (x ∷ xs) = omega (arith, count_sum p xs)

  pub sum_those : (w : A → ℕ) (p : A → Bool) (xs : List A) → sum_of w (those p xs) ≤ sum_of w xs
  unfolding sum_of those
  sum_those w p [] = omega arith
  sum_those w p (x ∷ xs) = go (p x) (sum_those w p xs)
    where
      go : (b : Bool) → sum_of w (those p xs) ≤ sum_of w xs → sum_of w (cond b (x ∷ those p xs) (those p xs)) ≤ w x + sum_of w xs
      go true ih = omega arith
      go false ih = omega arith

  -- where each number gives at most b
  pub sum_for_from : (w : A → ℕ) (b i n : ℕ) (f : ℕ → List A) → ((j : ℕ) → i ≤ j → j < i + n → sum_of w (f j) ≤ b) → sum_of w (for_from i n f) ≤ n * b
  unfolding sum_of for_from
  sum_for_from w b i zero f h = omega arith
  sum_for_from w b i (suc n) f h = omega (arith, sum-++ w (f i) (for_from (suc i) n f), h i (omega arith) (omega arith), sum_for_from w b (suc i) n f (λ j p q. h j (omega arith) (omega arith)))

  -- ---- no element twice
  abbrev pub Distinct : List A → Type 0
  Distinct [] = Unit {0}
  Distinct (x ∷ xs) = (Memᴰ x xs → ⊥) × Distinct xs

  -- ys without one x: no less than the others, and lighter by x
  abbrev Without : (A → ℕ) → A → List A → Type 0
  Without w x ys = (zs : List A) × (sum_of w ys ≡ w x + sum_of w zs) × ((y : A) → Memᴰ y ys → y ≢ x → Memᴰ y zs)

  taken_out : (w : A → ℕ) {x : A} {ys : List A} → Memᴰ x ys → Without w x ys
  unfolding sum_of
  taken_out w {x} (here {x = z} {xs = zs} e) = (zs, rw e refl, rest)
    where
      rest : (y : A) → Memᴰ y (z ∷ zs) → y ≢ x → Memᴰ y zs
      rest y (here q) n = absurd (n (q ∙ sym e))
      rest y (there m) n = m
  taken_out w {x} (there {x = z} {xs = ys} m) = let r = taken_out w m in (z ∷ r.0, omega (arith, r.1), rest r.0 r.2)
    where
      rest : (zs : List A) → ((y : A) → Memᴰ y ys → y ≢ x → Memᴰ y zs) → (y : A) → Memᴰ y (z ∷ ys) → y ≢ x → Memᴰ y (z ∷ zs)
      rest zs h y (here q) n = here q
      rest zs h y (there m) n = there (h y m n)

  -- distinct elements of a list sum up to no more than the list
  pub sum_within : (w : A → ℕ) (xs ys : List A) → Distinct xs → ((x : A) → Memᴰ x xs → Memᴰ x ys) → sum_of w xs ≤ sum_of w ys
  unfolding sum_of
  sum_within w [] ys d h = omega arith
  sum_within w (x ∷ xs) ys d h =
      let r = taken_out w (h x (here refl)) in
      omega (arith, r.1, sum_within w xs r.0 d.1 (λ y m. r.2 y (h y (there m)) (λ q. d.0 (Memᴰ.cast (sym q) m))))

module _ {A B : Type 0} where
  pub sum_map : (w : B → ℕ) (f : A → B) (xs : List A) → sum_of w (map f xs) ≡ sum_of (λ x. w (f x)) xs
  unfolding sum_of
  sum_map w f [] = refl
  sum_map w f (x ∷ xs) = omega (arith, sum_map w f xs)

  pub sum_for_each : (w : B → ℕ) (xs : List A) (f : A → List B) → sum_of w (for_each xs f) ≡ sum_of (λ x. sum_of w (f x)) xs
  unfolding sum_of for_each
  sum_for_each w [] f = refl
  sum_for_each w (x ∷ xs) f = omega (arith, sum-++ w (f x) (for_each xs f), sum_for_each w xs f)
