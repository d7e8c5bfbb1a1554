-- Parts of lists and runs of stores, as the loops over a slice use them. Assumes nothing.
use mathlib.Core.Path.{◌≡◌, refl, sym, ap, ◌∙◌}
use mathlib.Core.Bool.{Bool, true, false}
use mathlib.Core.List.{List, [], ◌∷◌, ◌++◌, append-nil}
use Prim.Native.Nat.{ℕ, suc, ◌+◌, ◌-◌, ◌≤◌, ◌<◌, zero}
use native.Mathlib.Nat.{add-zero}
use native.Mathlib.Numerals.{add-one}
use native.Mathlib.Omega.{arith}
use lib.ListN.{length, get_or, set, take, drop, length-append, length-drop, drop_of_length-le, take-append-drop, replicate}
use lib.Seq.{take_all, sets, set_comm, set_out, drop-set-add, drop-set-lt, take-set-le, length-take-le, drop-cons, take_at, sets-eq, get_or-take, take-add, drop_at, length-sets}
use Rattle.definition.specs.Lists.{any, all}

-- the rest of a list from a place on, as `&s[a..]` gives it
pub rest_is {ℓ} : {A : Type ℓ} (s : List A) (a : ℕ) → take (length s - a) (drop a s) ≡ drop a s
rest_is s a = take_all (length s - a) (drop a s) (omega (arith, length-drop a s))

-- ---- runs of stores

module _ {A : Type 0} where
  -- one after another
  pub sets_then : (xs ys l : List A) (at : ℕ) → sets (sets l at xs) (at + length xs) ys ≡ sets l at (xs ++ ys)
  sets_then [] ys l at = ap (λ (k : ℕ). sets l k ys) (add-zero at)
  sets_then (x ∷ xs) ys l at = ap (λ (k : ℕ). sets (sets (set l at x) (suc at) xs) k ys) (omega arith) ∙ sets_then xs ys (set l at x) (suc at)

  -- a store before a run is the run's first
  set_sets : (ys l : List A) (at k : ℕ) (x : A) → at < k → set (sets l k ys) at x ≡ sets (set l at x) k ys
  set_sets [] l at k x h = refl
  set_sets (y ∷ ys) l at k x h = set_sets ys (set l k y) at (suc k) x (omega arith) ∙ ap (λ (m : List A). sets m (suc k) ys) (set_comm l k at y x (λ e. no e))
    where
      no : k ≡ at → ⊥
      no e = omega arith

  pub sets_first : (ys l : List A) (at : ℕ) (x : A) → set (sets l (suc at) ys) at x ≡ sets l at (x ∷ ys)
  sets_first ys l at x = set_sets ys l at (suc at) x (omega arith)

  -- what stands before and after a run is kept, and past the end nothing is stored
  pub sets_before : (xs l : List A) (at n : ℕ) → n ≤ at → take n (sets l at xs) ≡ take n l
  sets_before [] l at n h = refl
  sets_before (x ∷ xs) l at n h = sets_before xs (set l at x) (suc at) n (omega arith) ∙ take-set-le n l at x h

  pub sets_after : (xs l : List A) (at n : ℕ) → at + length xs ≤ n → drop n (sets l at xs) ≡ drop n l
  sets_after [] l at n h = refl
  sets_after (x ∷ xs) l at n h = sets_after xs (set l at x) (suc at) n (omega arith) ∙ drop-set-lt n l at x (omega arith)

  pub sets_past : (xs l : List A) (at : ℕ) → length l ≤ at → sets l at xs ≡ l
  sets_past [] l at h = refl
  sets_past (x ∷ xs) l at h = rw (set_out l at x h) (sets_past xs l (suc at) (omega arith))

  -- a run in the rest of a list is one in the list
  sets_drop : (vs xs : List A) (a j : ℕ) → take a xs ++ sets (drop a xs) j vs ≡ sets xs (a + j) vs
  sets_drop [] xs a j = take-append-drop a xs
  sets_drop (v ∷ vs) xs a j =
      let e : a + suc j ≡ suc (a + j) = omega arith in
      ap (λ (l : List A). l ++ sets (set (drop a xs) j v) (suc j) vs) (sym (take-set-le a xs (a + j) v (omega arith)))
      ∙ ap (λ (l : List A). take a (set xs (a + j) v) ++ sets l (suc j) vs) (sym (drop-set-add a xs j v))
      ∙ sets_drop vs (set xs (a + j) v) a (suc j)
      ∙ ap (λ (k : ℕ). sets (set xs (a + j) v) k vs) e

  -- the same, as a call with `&mut xs[a..]` leaves the list
  pub sets_rest : (vs xs ys : List A) (a j : ℕ) → ys ≡ sets (take (length xs - a) (drop a xs)) j vs → take a xs ++ (ys ++ drop (length xs - a) (drop a xs)) ≡ sets xs (a + j) vs
  sets_rest vs xs ys a j e =
      rw (e, rest_is xs a, drop_of_length-le (drop a xs) {i = length xs - a} (omega (arith, length-drop a xs)), append-nil)
      (sets_drop vs xs a j)

-- ---- turns of a loop
-- the code's i + 1 in the place of suc i
pub drop_step {ℓ} : {A : Type ℓ} (s : List A) (i : ℕ) (d : A) → i < length s → drop i s ≡ get_or s i d ∷ drop (i + 1) s
drop_step s i d h = rw (add-one i) (drop-cons s i d h)

pub drop_end {ℓ} : {A : Type ℓ} (s : List A) (i : ℕ) → length s ≤ i → drop i s ≡ []
drop_end s i h = drop_of_length-le s {i = i} h

-- `&s[a..a + n]`
pub part_is {ℓ} : {A : Type ℓ} (s : List A) (a n : ℕ) → take (a + n - a) (drop a s) ≡ take n (drop a s)
part_is {A = A} s a n = let e : a + n - a ≡ n = omega arith in ap (λ (k : ℕ). take k (drop a s)) e

-- reading back what was stored
pub taken_sets {ℓ} : {A : Type ℓ} (vs l : List A) (at : ℕ) → at + length vs ≤ length l → take (at + length vs) (sets l at vs) ≡ take at l ++ vs
taken_sets vs l at h =
    let e : length (take at l ++ vs) ≡ at + length vs = length-append (take at l) vs ∙ ap (λ (k : ℕ). k + length vs) (length-take-le at l (omega arith)) in
    rw (sets-eq vs l at h) (take_at (take at l ++ vs) (drop (at + length vs) l) (at + length vs) e)

-- a turn of a loop that stores s from at on
pub sets_step {ℓ} : {A : Type ℓ} (w s : List A) (at i : ℕ) (d : A) → i < length s → sets (set w (at + i) (get_or s i d)) (at + (i + 1)) (drop (i + 1) s) ≡ sets w (at + i) (drop i s)
sets_step w s at i d h =
    let e : at + (i + 1) ≡ suc (at + i) = omega arith in
    rw (drop_step s i d h) (ap (λ (k : ℕ). sets (set w (at + i) (get_or s i d)) k (drop (i + 1) s)) e)

-- a turn of a loop that moves n elements down within one list
pub move_step {ℓ} : {A : Type ℓ} (w : List A) (to from i n : ℕ) (d : A) → to ≤ from → i < n → from + n ≤ length w
    → sets (set w (to + i) (get_or w (from + i) d)) (to + (i + 1)) (take (n - (i + 1)) (drop (from + (i + 1)) (set w (to + i) (get_or w (from + i) d)))) ≡ sets w (to + i) (take (n - i) (drop (from + i) w))
move_step {A = A} w to from i n d l h k =
    let x = get_or w (from + i) d in
    let e : to + (i + 1) ≡ suc (to + i) = omega arith in
    let m : n - i ≡ suc (n - (i + 1)) = omega arith in
    let f : from + (i + 1) ≡ from + i + 1 = omega arith in
    ap (λ (r : List A). sets (set w (to + i) x) (to + (i + 1)) (take (n - (i + 1)) r)) (drop-set-lt (from + (i + 1)) w (to + i) x (omega arith))
    ∙ ap (λ (j : ℕ). sets (set w (to + i) x) j (take (n - (i + 1)) (drop (from + (i + 1)) w))) e
    ∙ ap (λ (j : ℕ). sets (set w (to + i) x) (suc (to + i)) (take (n - (i + 1)) (drop j w))) f
    ∙ sym (ap (λ (j : ℕ). sets w (to + i) (take j (drop (from + i) w))) m ∙ ap (λ (r : List A). sets w (to + i) (take (suc (n - (i + 1))) r)) (drop_step w (from + i) d (omega arith)))

-- ---- a test over the rest of a list

-- what the element at i says of the test over the rest from i on
module _ {A : Type 0} (p : A → Bool) (s : List A) (i : ℕ) (d : A) (h : i < length s) where
  pub any_hit : p (get_or s i d) ≡ true → true ≡ any p (drop i s)
  unfolding any
  any_hit e = rw (drop_step s i d h, e) refl

  pub any_miss : p (get_or s i d) ≡ false → any p (drop (i + 1) s) ≡ any p (drop i s)
  unfolding any
  any_miss e = rw (drop_step s i d h, e) refl

  pub all_more : p (get_or s i d) ≡ true → all p (drop (i + 1) s) ≡ all p (drop i s)
  unfolding all
  all_more e = rw (drop_step s i d h, e) refl

  pub all_miss : p (get_or s i d) ≡ false → false ≡ all p (drop i s)
  unfolding all
  all_miss e = rw (drop_step s i d h, e) refl

module _ {A : Type 0} (p : A → Bool) (s : List A) (i : ℕ) (h : length s ≤ i) where
  pub any_end : false ≡ any p (drop i s)
  unfolding any
  any_end = rw (drop_end s i h) refl

  pub all_end : true ≡ all p (drop i s)
  unfolding all
  all_end = rw (drop_end s i h) refl

-- ---- what two lists share, and what lies before a run of stores
pub getD_before {ℓ} : {A : Type ℓ} (s t : List A) (m i : ℕ) (d : A) → take m s ≡ take m t → i < m → get_or s i d ≡ get_or t i d
getD_before {A} s t m i d e h = sym (get_or-take m s i d h) ∙ ap (λ (k : List A). get_or k i d) e ∙ get_or-take m t i d h

pub part_before : {A : Type 0} (W s : List A) (k b n : ℕ) → b + n ≤ k → k ≤ length s → take n (drop b (sets s k W)) ≡ take n (drop b s)
part_before {A} W s k b n h m = as_rest (sets s k W) (omega (arith, length-sets s k W)) ∙ ap (drop b) (sets_before W s k (b + n) h) ∙ sym (as_rest s (omega arith))
  where
    as_rest : (l : List A) → b + n ≤ length l → take n (drop b l) ≡ drop b (take (b + n) l)
    as_rest l g = sym (ap (drop b) (take-add b n l) ∙ drop_at (take b l) (take n (drop b l)) b (length-take-le b l (omega arith)))

-- a table of zeros
pub getD_zeros : (n i : ℕ) → ◌≡◌ {A = ℕ} (get_or (replicate n 0) i 0) 0
getD_zeros zero i = refl
getD_zeros (suc n) zero = refl
getD_zeros (suc n) (suc i) = getD_zeros n i
