-- Membership: what `any`, `all`, `holds`, `same_set` and `those` say of members. Assumes nothing.
use mathlib.Core.Path.{◌≡◌, refl, sym, ◌∙◌, ap}
use mathlib.Core.Logic.{◌≢◌, ◌⊎◌, inl, inr, ⊎_elim}
use mathlib.Core.Bool.{Bool, true, false, cond, or-false, or_assoc, ◌||◌, not}
use mathlib.Core.List.Memᴰ
use mathlib.Core.List.Memᴰ.{head as here}
use mathlib.Core.List.Memᴰ.{tail as there}
use mathlib.Core.List.{List, [], ◌∷◌, Memᴰ, ◌++◌}
use Prim.Native.Nat.{ℕ, zero, suc, ◌<◌}
use native.Mathlib.Omega.{arith}
use lib.Dec.{T, eqb→eq, eqb_refl}
use lib.IntN.{ℤ, pos, negsuc, neg_ℤ, neg_ℤ-neg_ℤ, nat_abs}
use Rattle.definition.specs.Lists.{any, all, those, first}
use Rattle.definition.specs.Literals.{Clause, same, holds, same_set, opposes}
use Rattle.theory_base.proofs.Tests.{of_true, differ, to_false, each_way, and_l, and_r, and_i, or_cases, or_l, or_r}
use Rattle.theory_base.specs.Clauses.{Within, Same, Proper, Disjoint, Parted}

-- ---- lists
module _ {A : Type 0} where
  pub any_mem : (p : A → Bool) (xs : List A) → T (any p xs) → (x : A) × Memᴰ x xs × T (p x)
  unfolding any
  any_mem p (x ∷ xs) t =
      ⊎_elim (λ u. (x, here refl, u)) (λ u. let r = any_mem p xs u in (r.0, there r.1, r.2)) (or_cases (p x) (any p xs) t)
  any_mem p [] t = elim t [ ]

  pub mem_any : (p : A → Bool) (xs : List A) (x : A) → Memᴰ x xs → T (p x) → T (any p xs)
  unfolding any
  mem_any p (y ∷ xs) x (here e) t = or_l (p y) (any p xs) (rw e at t)
  mem_any p (y ∷ xs) x (there i) t = or_r (p y) (any p xs) (mem_any p xs x i t)
  mem_any p [] x x4 t = elim x4 [ ]

  pub all_at : (p : A → Bool) (xs : List A) → T (all p xs) → (x : A) → Memᴰ x xs → T (p x)
  unfolding all
  all_at p (y ∷ xs) t x (here e) = rw e (and_l (p y) (all p xs) t)
  all_at p (y ∷ xs) t x (there i) = all_at p xs (and_r (p y) (all p xs) t) x i
  all_at p [] t x x4 = elim x4 [ ]

  pub all_of : (p : A → Bool) (xs : List A) → ((x : A) → Memᴰ x xs → T (p x)) → T (all p xs)
  unfolding all
  all_of p [] h = tt
  all_of p (x ∷ xs) h = and_i (p x) (all p xs) (h x (here refl)) (all_of p xs (λ y i. h y (there i)))

  pub those_mem : (p : A → Bool) (xs : List A) (x : A) → Memᴰ x (those p xs) → Memᴰ x xs × T (p x)
  unfolding those
  those_mem p (y ∷ xs) x i = go (p y) refl i (those_mem p xs x)
    where
      go : (b : Bool) → p y ≡ b → Memᴰ x (cond b (y ∷ those p xs) (those p xs)) → (Memᴰ x (those p xs) → Memᴰ x xs × T (p x)) → Memᴰ x (y ∷ xs) × T (p x)
      go true e (here q) ih = (here q, of_true (ap p q ∙ e))
      go true e (there j) ih = let r = ih j in (there r.0, r.1)
      go false e j ih = let r = ih j in (there r.0, r.1)
  those_mem p [] x i = elim i [ ]

  pub mem_those : (p : A → Bool) (xs : List A) (x : A) → Memᴰ x xs → T (p x) → Memᴰ x (those p xs)
  unfolding those
  mem_those p (y ∷ xs) x i t = go (p y) refl i (λ j. mem_those p xs x j t)
    where
      go : (b : Bool) → p y ≡ b → Memᴰ x (y ∷ xs) → (Memᴰ x xs → Memᴰ x (those p xs)) → Memᴰ x (cond b (y ∷ those p xs) (those p xs))
      go true e (here q) ih = here q
      go true e (there j) ih = there (ih j)
      go false e (here q) ih = differ t (ap p q ∙ e)
      go false e (there j) ih = ih j
  mem_those p [] x i t = elim i [ ]

-- tests that agree on the members of a list
module _ {A : Type 0} (p q : A → Bool) where
  pub any_same : (xs : List A) → ((x : A) → Memᴰ x xs → p x ≡ q x) → any p xs ≡ any q xs
  unfolding any
  any_same [] h = refl
  any_same (x ∷ xs) h = rw (h x (here refl), any_same xs (λ y i. h y (there i)))

  pub all_same : (xs : List A) → ((x : A) → Memᴰ x xs → p x ≡ q x) → all p xs ≡ all q xs
  unfolding all
  all_same [] h = refl
  all_same (x ∷ xs) h = rw (h x (here refl), all_same xs (λ y i. h y (there i)))

  pub first_agree : (xs : List A) → ((x : A) → Memᴰ x xs → p x ≡ q x) → first p xs ≡ first q xs
  unfolding first
  first_agree [] h = refl
  first_agree (x ∷ xs) h = rw (h x (here refl), first_agree xs (λ y i. h y (there i)))

-- ---- literals
pub same_eq : (l m : ℤ) → T (same l m) → l ≡ m
unfolding same
same_eq (pos a) (pos b) t = ap pos (eqb→eq a b t)
same_eq (negsuc a) (negsuc b) t = ap negsuc (eqb→eq a b t)
same_eq (pos a) (negsuc b) t = elim t [ ]
same_eq (negsuc a) (pos b) t = elim t [ ]

pub same_refl : (l : ℤ) → T (same l l)
unfolding same
same_refl (pos a) = eqb_refl a
same_refl (negsuc a) = eqb_refl a

eq_same : {l m : ℤ} → l ≡ m → T (same l m)
eq_same {l} {m} e = rw e (same_refl m)

pub unlike : (y k : ℤ) → same y k ≡ false → y ≢ k
unlike y k e q = differ (eq_same q) e

pub unlike_false : (y k : ℤ) → y ≢ k → same y k ≡ false
unlike_false y k n = to_false (λ t. n (same_eq y k t))

-- a literal is not its negation; 0 is no literal
pub own : (l : ℤ) → l ≢ pos 0 → l ≢ neg_ℤ l
own (pos zero) z e = z refl
own (pos (suc n)) z e = let k : ◌≡◌ {A = ℕ} 0 1 = cc in omega arith
own (negsuc n) z e = let k : ◌≡◌ {A = ℕ} 0 1 = cc in omega arith

-- literals of a lower and a higher variable
pub far : (l x : ℤ) → nat_abs l < nat_abs x → l ≢ x
far l x h e = omega (arith, ap nat_abs e)

pub turn : (l m : ℤ) → l ≡ neg_ℤ m → neg_ℤ l ≡ m
turn l m e = ap neg_ℤ e ∙ neg_ℤ-neg_ℤ m

pub natAbs_neg : (l : ℤ) → nat_abs (neg_ℤ l) ≡ nat_abs l
natAbs_neg (pos zero) = refl
natAbs_neg (pos (suc n)) = refl
natAbs_neg (negsuc n) = refl

pub same_variable : (x y : ℤ) → nat_abs x ≡ nat_abs y → (x ≡ y) ⊎ (x ≡ neg_ℤ y)
same_variable (pos m) (pos n) e = inl (ap pos e)
same_variable (pos m) (negsuc n) e = inr (ap pos e)
same_variable (negsuc m) (pos n) e = inr (ap (λ (k : ℕ). neg_ℤ (pos k)) e)
same_variable (negsuc m) (negsuc n) e = let k : m ≡ n = omega arith in inl (ap negsuc k)

-- ---- clauses
pub holds_mem : (l : ℤ) (c : Clause) → T (holds l c) → Memᴰ l c
unfolding holds
holds_mem l c t = let r = any_mem (same l) c t in Memᴰ.cast (same_eq l r.0 r.2) r.1

pub mem_holds : (l : ℤ) (c : Clause) → Memᴰ l c → T (holds l c)
unfolding holds
mem_holds l c i = mem_any (same l) c l i (same_refl l)

pub holds_false : (l : ℤ) (c : Clause) → (Memᴰ l c → ⊥) → holds l c ≡ false
holds_false l c n = to_false (λ t. n (holds_mem l c t))

pub same_set_same : (c d : Clause) → T (same_set c d) → Same c d
unfolding same_set
same_set_same c d t = (
  λ l i. holds_mem l d (all_at (λ l. holds l d) c (and_l (all (λ l. holds l d) c) _ t) l i),
  λ l i. holds_mem l c (all_at (λ l. holds l c) d (and_r (all (λ l. holds l d) c) _ t) l i),
)

pub same_same_set : (c d : Clause) → Same c d → T (same_set c d)
unfolding same_set
same_same_set c d s =
    and_i (all (λ l. holds l d) c) (all (λ l. holds l c) d)
    (all_of (λ l. holds l d) c (λ l i. mem_holds l d (s.0 l i)))
    (all_of (λ l. holds l c) d (λ l i. mem_holds l c (s.1 l i)))

pub same_clause : (c : Clause) → Same c c
same_clause c = (λ l i. i, λ l i. i)

pub same_turned : {c d : Clause} → Same c d → Same d c
same_turned s = (s.1, s.0)

pub same_joined : {c d e : Clause} → Same c d → Same d e → Same c e
same_joined s t = (λ l i. t.0 l (s.0 l i), λ l i. s.1 l (t.1 l i))

-- two literals in the other order
pub pair_turned : (x y : ℤ) → Same (x ∷ y ∷ []) (y ∷ x ∷ [])
pair_turned x y = (λ l. turned l x y, λ l. turned l y x)
  where
    turned : (l u v : ℤ) → Memᴰ l (u ∷ v ∷ []) → Memᴰ l (v ∷ u ∷ [])
    turned l u v (here e) = there (here e)
    turned l u v (there (here e)) = here e
    turned l u v (there (there x9)) = elim x9 [ ]

-- a literal of c whose negation is in d
pub opposes_mem : (c d : Clause) → T (opposes c d) → (x : ℤ) × Memᴰ x c × Memᴰ (neg_ℤ x) d
unfolding opposes
opposes_mem c d t = let r = any_mem (λ l. holds (neg_ℤ l) d) c t in (r.0, r.1, holds_mem (neg_ℤ r.0) d r.2)

pub mem_opposes : (c d : Clause) (x : ℤ) → Memᴰ x c → Memᴰ (neg_ℤ x) d → T (opposes c d)
unfolding opposes
mem_opposes c d x i j = mem_any (λ l. holds (neg_ℤ l) d) c x i (mem_holds (neg_ℤ x) d j)

pub opposes_same : (c d e : Clause) → Same d e → opposes c d ≡ opposes c e
opposes_same c d e s = each_way (within d e s.0) (within e d s.1)
  where
    within : (d e : Clause) → Within d e → T (opposes c d) → T (opposes c e)
    within d e h t = let r = opposes_mem c d t in mem_opposes c e r.0 r.1 (h (neg_ℤ r.0) r.2)

pub proper_literal : (c : Clause) → Proper c → (l : ℤ) → Memᴰ l c → l ≢ pos 0
proper_literal (m ∷ c) a l (here e) = λ z. a.0 (sym e ∙ z)
proper_literal (m ∷ c) a l (there d) = proper_literal c a.3 l d
proper_literal [] a l x'' = elim x'' [ ]

pub proper_unopposed : (c : Clause) → Proper c → (x : ℤ) → Memᴰ x c → Memᴰ (neg_ℤ x) c → ⊥
proper_unopposed (l ∷ c) a x (here e) (here q) = own l a.0 (sym q ∙ ap neg_ℤ e)
proper_unopposed (l ∷ c) a x (here e) (there j) = a.2 (Memᴰ.cast (ap neg_ℤ (sym e)) j)
proper_unopposed (l ∷ c) a x (there i) (here q) = a.2 (Memᴰ.cast (turn l x (sym q)) i)
proper_unopposed (l ∷ c) a x (there i) (there j) = proper_unopposed c a.3 x i j
proper_unopposed [] a x x5 _ = elim x5 [ ]

-- two literals of a proper clause, the first and one behind it, are of different variables
pub proper_first : (x : ℤ) (c : Clause) → Proper (x ∷ c) → (y : ℤ) → Memᴰ y c → nat_abs x ≢ nat_abs y
proper_first x c p y m e = ⊎_elim (λ q. p.1 (Memᴰ.cast q m)) (λ q. p.2 (Memᴰ.cast (turn x y q) m)) (same_variable x y e)

-- a literal more at the end of a clause
pub holds_snoc : (k : ℤ) (c : Clause) (l : ℤ) → holds k (c ++ (l ∷ [])) ≡ holds k c || same k l
unfolding holds any
holds_snoc k [] l = or-false (same k l)
holds_snoc k (d ∷ c) l = ap (λ (b : Bool). same k d || b) (holds_snoc k c l) ∙ sym (or_assoc (same k d) (holds k c) (same k l))

-- ---- those that pass a test, of two lists; by tests that agree; by two tests
pub those-++ : {A : Type 0} (p : A → Bool) (xs ys : List A) → those p (xs ++ ys) ≡ those p xs ++ those p ys
unfolding those
those-++ p [] ys = refl
those-++ {A} p (x ∷ xs) ys = go (p x) (those-++ p xs ys)
  where
    go : (b : Bool) → those p (xs ++ ys) ≡ those p xs ++ those p ys → cond b (x ∷ those p (xs ++ ys)) (those p (xs ++ ys)) ≡ cond b (x ∷ those p xs) (those p xs) ++ those p ys
    go true e = ap (λ (r : List A). x ∷ r) e
    go false e = e

pub those_same : {A : Type 0} (p q : A → Bool) (xs : List A) → ((x : A) → Memᴰ x xs → p x ≡ q x) → those p xs ≡ those q xs
unfolding those
those_same p q [] h = refl
those_same p q (x ∷ xs) h = rw (h x (here refl), those_same p q xs (λ y i. h y (there i))) refl

pub those_those : {A : Type 0} (p q : A → Bool) (xs : List A) → those (λ x. not (q x)) (those (λ x. not (p x)) xs) ≡ those (λ x. not (p x || q x)) xs
unfolding those
those_those p q [] = refl
those_those {A} p q (x ∷ xs) = go (p x) (q x) refl (those_those p q xs)
  where
    go : (a b : Bool) → q x ≡ b → those (λ y. not (q y)) (those (λ y. not (p y)) xs) ≡ those (λ y. not (p y || q y)) xs →
        those (λ y. not (q y)) (cond (not a) (x ∷ those (λ y. not (p y)) xs) (those (λ y. not (p y)) xs)) ≡ cond (not (a || b)) (x ∷ those (λ y. not (p y || q y)) xs) (those (λ y. not (p y || q y)) xs)
    go true b e ih = ih
    go false true e ih = rw e ih
    go false false e ih = rw e (ap (λ (r : List A). x ∷ r) ih)

-- an element more at the end of a list
pub any_snoc : {A : Type 0} (p : A → Bool) (xs : List A) (y : A) → any p (xs ++ (y ∷ [])) ≡ (any p xs || p y)
unfolding any
any_snoc p [] y = or-false (p y)
any_snoc p (x ∷ xs) y = go (p x) (any_snoc p xs y)
  where
    go : (b : Bool) → any p (xs ++ (y ∷ [])) ≡ (any p xs || p y) → (b || any p (xs ++ (y ∷ []))) ≡ ((b || any p xs) || p y)
    go true e = refl
    go false e = e

-- the clauses before one in a list without common variables have none in common with it
pub parted_before : (cs : List Clause) (c : Clause) (ds : List Clause) → Parted (cs ++ (c ∷ ds)) → (d : Clause) → Memᴰ d cs → Disjoint d c
parted_before (b ∷ cs) c ds p d (here e) = rw e (p.0 c (Memᴰ.append_right cs (here refl)))
parted_before (b ∷ cs) c ds p d (there i) = parted_before cs c ds p.1 d i
parted_before [] c ds p d x'' = elim x'' [ ]
