-- What the loops over lists give: members, first finds, one list after another. Assumes nothing.
use mathlib.Core.Path.{◌≡◌, refl, sym, ◌∙◌, ap}
use mathlib.Core.Logic.{⊎_elim}
use mathlib.Core.Bool.{Bool, true, false, cond}
use mathlib.Core.List.Memᴰ
use mathlib.Core.List.Memᴰ.{head as here}
use mathlib.Core.List.Memᴰ.{tail as there}
use mathlib.Core.List.{List, [], ◌∷◌, ◌++◌, append_assoc, Memᴰ, append-nil, map}
use mathlib.Core.Option.{Option, some, none}
use Prim.Native.Nat.{ℕ, zero, suc, ◌+◌, ◌≤◌, ◌<◌, ◌-◌}
use native.Mathlib.Omega.{arith}
use native.Mathlib.Decide.{ℕ_discrete}
use lib.Dec.{T}
use lib.ListN.{length, get_or, replicate}
use Rattle.definition.specs.Lists.{first, count, only_if, or_else, first_from, for_from, for_each}
use Rattle.theory_base.proofs.Tests.{of_true, differ, bit≤1}

-- ---- what `for_each` and `only_if` give
module _ {A B : Type 0} where
  pub for_each_mem : (xs : List A) (f : A → List B) (y : B) → Memᴰ y (for_each xs f) → (x : A) × Memᴰ x xs × Memᴰ y (f x)
  unfolding for_each
  for_each_mem (x ∷ xs) f y i =
      ⊎_elim (λ j. (x, here refl, j)) (λ j. let r = for_each_mem xs f y j in (r.0, there r.1, r.2)) (Memᴰ.append_cases (f x) i)
  for_each_mem [] f y i = elim i [ ]

  pub mem_for_each : (xs : List A) (f : A → List B) (x : A) (y : B) → Memᴰ x xs → Memᴰ y (f x) → Memᴰ y (for_each xs f)
  unfolding for_each
  mem_for_each (z ∷ xs) f x y (here e) j = Memᴰ.append_left (for_each xs f) (rw e at j)
  mem_for_each (z ∷ xs) f x y (there i) j = Memᴰ.append_right (f z) (mem_for_each xs f x y i j)
  mem_for_each [] f x y x4 j = elim x4 [ ]

module _ {A : Type 0} where
  pub only_if_mem : (b : Bool) (xs : List A) (x : A) → Memᴰ x (only_if b xs) → T b × Memᴰ x xs
  unfolding only_if
  only_if_mem true xs x i = (tt, i)
  only_if_mem false xs x i = elim i [ ]

  pub mem_only_if : (b : Bool) (xs : List A) (x : A) → T b → Memᴰ x xs → Memᴰ x (only_if b xs)
  unfolding only_if
  mem_only_if true xs x t i = i
  mem_only_if false xs x t i = elim t [ ]

  pub replicate_mem : (n : ℕ) (x y : A) → Memᴰ y (replicate n x) → y ≡ x
  replicate_mem (suc n) x y (here e) = e
  replicate_mem (suc n) x y (there i) = replicate_mem n x y i
  replicate_mem zero x y x3 = elim x3 [ ]

  -- what `for_from` gives
  pub for_from_mem : (i n : ℕ) (f : ℕ → List A) (x : A) → Memᴰ x (for_from i n f) → (j : ℕ) × (i ≤ j) × (j < i + n) × Memᴰ x (f j)
  unfolding for_from
  for_from_mem i (suc n) f x m =
      ⊎_elim (λ k. (i, omega arith, omega arith, k))
      (λ k. let r = for_from_mem (suc i) n f x k in (r.0, omega (arith, r.1), omega (arith, r.2), r.3))
      (Memᴰ.append_cases (f i) m)
  for_from_mem i zero f x m = elim m [ ]

pub for_each-++ : {A B : Type 0} (xs ys : List A) (f : A → List B) → for_each (xs ++ ys) f ≡ for_each xs f ++ for_each ys f
unfolding for_each
for_each-++ [] ys f = refl
for_each-++ (x ∷ xs) ys f = rw (for_each-++ xs ys f, append_assoc)

pub getD_mem : {A : Type 0} (xs : List A) (i : ℕ) (d : A) → i < length xs → Memᴰ (get_or xs i d) xs
getD_mem [] i d h = absurd (omega arith)
getD_mem (x ∷ xs) zero d h = here refl
getD_mem (x ∷ xs) (suc i) d h = there (getD_mem xs i d (omega arith))

pub count-++ : {A : Type 0} (t : A → Bool) (xs ys : List A) → count t (xs ++ ys) ≡ count t xs + count t ys
unfolding count
count-++ t [] ys = omega arith
count-++ t (x ∷ xs) ys = omega (arith, count-++ t xs ys)

-- nothing is not something
pub none_some : {A : Type 0} {P : Type 0} {x : A} → none ≡ some x → P
none_some e = let z : ◌≡◌ {A = ℕ} 0 1 = cc in absurd (omega arith)

pub some_same : {A : Type 0} {a b : A} → some a ≡ some b → a ≡ b
some_same e = cc

-- ---- numbers
pub by_order : {X : Type 0} (i k : ℕ) → i ≤ k → (i ≡ k → X) → (i < k → X) → X
by_order {X} i k h f g = go (ℕ_discrete i k)
  where
    go : Dec (i ≡ k) → X
    go (yes d) = f d
    go (no d) = g (omega arith)

-- ---- the first that passes
module _ {A : Type 0} where
  pub first_some : (p : A → Bool) (xs : List A) (x : A) → first p xs ≡ some x → Memᴰ x xs × T (p x)
  unfolding first
  first_some p [] x e = none_some e
  first_some p (y ∷ xs) x e = go (p y) refl e (first_some p xs x)
    where
      go : (b : Bool) → p y ≡ b → cond b (some y) (first p xs) ≡ some x → (first p xs ≡ some x → Memᴰ x xs × T (p x)) → Memᴰ x (y ∷ xs) × T (p x)
      go true t e ih = let y=x : y ≡ x = cc in (here (sym y=x), rw y=x at (of_true t))
      go false t e ih = let r = ih e in (there r.0, r.1)

  pub first_none : (p : A → Bool) (xs : List A) → first p xs ≡ none → (x : A) → Memᴰ x xs → T (p x) → ⊥
  unfolding first
  first_none p (y ∷ xs) e x i t = go (p y) refl e i (λ q j. first_none p xs q x j t)
    where
      go : (b : Bool) → p y ≡ b → cond b (some y) (first p xs) ≡ none → Memᴰ x (y ∷ xs) → (first p xs ≡ none → Memᴰ x xs → ⊥) → ⊥
      go true u e j ih = none_some (sym e)
      go false u e (here q) ih = differ t (ap p q ∙ u)
      go false u e (there j) ih = ih e j
  first_none p [] e x i t = elim i [ ]

  -- ---- the first number for which something is found
  pub first_from_none : (f : ℕ → Option A) (i n : ℕ) → first_from i n f ≡ none → (k : ℕ) → i ≤ k → k < i + n → f k ≡ none
  unfolding first_from or_else
  first_from_none f i zero e k lo hi = absurd (omega arith)
  first_from_none f i (suc n) e k lo hi = go (f i) refl e (λ q l. first_from_none f (suc i) n q k l (omega arith))
    where
      go : (o : Option A) → f i ≡ o → or_else o (first_from (suc i) n f) ≡ none → (first_from (suc i) n f ≡ none → i < k → f k ≡ none) → f k ≡ none
      go none q e ih = by_order i k lo (λ d. rw (← d) q) (ih e)
      go (some x) q e ih = none_some (sym e)

  -- and for none before it
  pub first_from_some : (f : ℕ → Option A) (i n : ℕ) (x : A) → first_from i n f ≡ some x → (k : ℕ) × (i ≤ k) × (k < i + n) × (f k ≡ some x) × ((j : ℕ) → i ≤ j → j < k → f j ≡ none)
  unfolding first_from or_else
  first_from_some f i zero x e = none_some e
  first_from_some f i (suc n) x e = go (f i) refl e (first_from_some f (suc i) n x)
    where
      before : f i ≡ none → (k : ℕ) → ((j : ℕ) → suc i ≤ j → j < k → f j ≡ none) → (j : ℕ) → i ≤ j → j < k → f j ≡ none
      before q k h j a b = by_order i j a (λ d. rw (← d) q) (λ l. h j l b)

      go : (o : Option A) → f i ≡ o → or_else o (first_from (suc i) n f) ≡ some x →
          (first_from (suc i) n f ≡ some x → (k : ℕ) × (suc i ≤ k) × (k < suc i + n) × (f k ≡ some x) × ((j : ℕ) → suc i ≤ j → j < k → f j ≡ none)) →
          (k : ℕ) × (i ≤ k) × (k < i + suc n) × (f k ≡ some x) × ((j : ℕ) → i ≤ j → j < k → f j ≡ none)
      go none q e ih = let r = ih e in (r.0, omega (arith, r.1), omega (arith, r.2), r.3, before q r.0 r.4)
      go (some y) q e ih = (i, omega arith, omega arith, q ∙ e, λ j a b. absurd (omega arith))

  pub none_first_from : (f : ℕ → Option A) (i n : ℕ) → ((k : ℕ) → i ≤ k → k < i + n → f k ≡ none) → first_from i n f ≡ none
  unfolding first_from or_else
  none_first_from f i zero h = refl
  none_first_from f i (suc n) h = rw (h i (omega arith) (omega arith), or_else) (none_first_from f (suc i) n (λ k a b. h k (omega arith) (omega arith)))

  pub some_first_from : (f : ℕ → Option A) (i n j : ℕ) (x : A) → i ≤ j → j < i + n → ((k : ℕ) → i ≤ k → k < j → f k ≡ none) → f j ≡ some x → first_from i n f ≡ some x
  unfolding first_from or_else
  some_first_from f i zero j x lo hi h e = absurd (omega arith)
  some_first_from f i (suc n) j x lo hi h e =
      by_order i j lo (λ d. rw (d, e)) (λ l. rw (h i (omega arith) l, or_else) (some_first_from f (suc i) n j x l (omega arith) (λ k a b. h k (omega arith) b) e))

-- a number more
pub for_from_snoc : {A : Type 0} (k n : ℕ) (f : ℕ → List A) → for_from k (suc n) f ≡ for_from k n f ++ f (k + n)
unfolding for_from
for_from_snoc k zero f = let e : k + 0 ≡ k = omega arith in rw (append-nil (f k), e) refl
for_from_snoc k (suc n) f = let e : suc k + n ≡ k + suc n = omega arith in ap (λ (r : List _). f k ++ r) (for_from_snoc (suc k) n f) ∙ (rw (append_assoc, e) refl)

-- the turns before j, the turn of j, and those behind it
pub for_from_around : {A : Type 0} (k n j : ℕ) (f : ℕ → List A) → k ≤ j → j < k + n → for_from k n f ≡ for_from k (j - k) f ++ (f j ++ for_from (suc j) (k + n - suc j) f)
unfolding for_from
for_from_around k zero j f a b = absurd (omega arith)
for_from_around k (suc n) j f a b = by_order k j a now_there (λ l. later l (for_from_around (suc k) n j f (omega arith) (omega arith)))
  where
    now_there : k ≡ j → f k ++ for_from (suc k) n f ≡ for_from k (j - k) f ++ (f j ++ for_from (suc j) (k + suc n - suc j) f)
    now_there e =
        let x : j - k ≡ 0 = omega arith in
        let y : k + suc n - suc j ≡ n = omega arith in
        rw (x, y, ← e) refl

    later : k < j → for_from (suc k) n f ≡ for_from (suc k) (j - suc k) f ++ (f j ++ for_from (suc j) (suc k + n - suc j) f) →
        f k ++ for_from (suc k) n f ≡ for_from k (j - k) f ++ (f j ++ for_from (suc j) (k + suc n - suc j) f)
    later l ih =
        let x : j - k ≡ suc (j - suc k) = omega arith in
        let y : k + suc n - suc j ≡ suc k + n - suc j = omega arith in
        rw (x, y, ih) (sym (append_assoc (f k) (for_from (suc k) (j - suc k) f) (f j ++ for_from (suc j) (suc k + n - suc j) f)))

-- one turn more
pub for_from_next : {A : Type 0} (k j : ℕ) (f : ℕ → List A) → k ≤ j → for_from k (j + 1 - k) f ≡ for_from k (j - k) f ++ f j
for_from_next k j f a =
    let x : j + 1 - k ≡ suc (j - k) = omega arith in
    let y : k + (j - k) ≡ j = omega arith in
    ap (λ (n : ℕ). for_from k n f) x ∙ for_from_snoc k (j - k) f ∙ ap (λ (i : ℕ). for_from k (j - k) f ++ f i) y

-- the same in each turn
pub for_from_same : {A : Type 0} (k n : ℕ) (f g : ℕ → List A) → ((j : ℕ) → k ≤ j → j < k + n → f j ≡ g j) → for_from k n f ≡ for_from k n g
unfolding for_from
for_from_same k zero f g h = refl
for_from_same k (suc n) f g h = rw (h k (omega arith) (omega arith), for_from_same (suc k) n f g (λ j a b. h j (omega arith) (omega arith))) refl

-- counted from one number lower
pub for_from_lower : {A : Type 0} (k n : ℕ) (f : ℕ → List A) → for_from (suc k) n f ≡ for_from k n (λ i. f (suc i))
unfolding for_from
for_from_lower k zero f = refl
for_from_lower k (suc n) f = rw (for_from_lower (suc k) n f) refl

pub mem_for_from : {A : Type 0} (k n j : ℕ) (f : ℕ → List A) (x : A) → k ≤ j → j < k + n → Memᴰ x (f j) → Memᴰ x (for_from k n f)
mem_for_from k n j f x a b i =
    rw (for_from_around k n j f a b) (Memᴰ.append_right (for_from k (j - k) f) (Memᴰ.append_left (for_from (suc j) (k + n - suc j) f) i))

-- for each of what the turns give
pub for_each_from : {A B : Type 0} (k n : ℕ) (f : ℕ → List A) (g : A → List B) → for_each (for_from k n f) g ≡ for_from k n (λ i. for_each (f i) g)
unfolding for_from for_each
for_each_from k zero f g = refl
for_each_from k (suc n) f g = for_each-++ (f k) (for_from (suc k) n f) g ∙ ap (λ r. for_each (f k) g ++ r) (for_each_from (suc k) n f g)

-- ---- as many as pass
pub count_within : {A : Type 0} (p : A → Bool) (xs : List A) → count p xs ≤ length xs
unfolding count
count_within p [] = omega arith
count_within p (x ∷ xs) = omega (arith, bit≤1 (p x), count_within p xs)

pub count_same : {A : Type 0} (p q : A → Bool) (xs : List A) → ((x : A) → Memᴰ x xs → p x ≡ q x) → count p xs ≡ count q xs
unfolding count
count_same p q [] h = refl
count_same p q (x ∷ xs) h = rw (h x (here refl), count_same p q xs (λ y i. h y (there i))) refl

-- functions that agree on the members of a list
pub map_agree : {A B : Type 0} (f g : A → B) (xs : List A) → ((x : A) → Memᴰ x xs → f x ≡ g x) → map f xs ≡ map g xs
map_agree f g [] h = refl
map_agree f g (x ∷ xs) h = let a = h x (here refl) in let b = map_agree f g xs (λ y i. h y (there i)) in cc
