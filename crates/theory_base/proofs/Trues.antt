-- The number of true literals, satisfying a formula, making a literal true. Assumes nothing.
use mathlib.Core.Path.{◌≡◌, refl, ap}
use mathlib.Core.Logic.{◌≢◌}
use mathlib.Core.Bool.{Bool, true, false, not, cond, ◌||◌}
use mathlib.Core.List.Memᴰ.{head as here}
use mathlib.Core.List.Memᴰ.{tail as there}
use mathlib.Core.List.{[], ◌∷◌, ◌++◌, Memᴰ}
use Prim.Native.Nat.{ℕ, zero, suc, ◌+◌, ◌≤◌}
use native.Mathlib.Omega.{arith}
use lib.Dec.{T, eqb}
use lib.IntN.{ℤ, pos, negsuc, neg_ℤ, nat_abs}
use borrow.Author.Tests.{eq-eqb, ne_eqb}
use Rattle.definition.specs.Lists.{bit, any, all, count}
use Rattle.definition.specs.Literals.{Clause, Formula}
use Rattle.definition.specs.Assignments.{Assignment, true_in, has_true, satisfies, trues, sign, make_true}
use Rattle.theory_base.proofs.Tests.{and_l, and_r, and_i, bit≤1, bit_not}
use Rattle.theory_base.proofs.Loops.{count-++}
use Rattle.theory_base.proofs.Members.{any_same, all_same}
use Rattle.theory_base.specs.Clauses.{Fit, Fits}

pub trues_cons : (σ : Assignment) (l : ℤ) (c : Clause) → trues σ (l ∷ c) ≡ bit (true_in σ l) + trues σ c
unfolding trues count
trues_cons σ l c = refl

-- a literal and its negation: 0 is no literal
pub negated : (σ : Assignment) (l : ℤ) → l ≢ pos 0 → bit (true_in σ (neg_ℤ l)) + bit (true_in σ l) ≡ 1
unfolding true_in
negated σ (pos zero) h = absurd (h refl)
negated σ (pos (suc n)) h = bit_not (σ (suc n))
negated σ (negsuc n) h = omega (arith, bit_not (σ (suc n)))

-- ---- making a literal true
make_same : (l : ℤ) (σ : Assignment) → make_true l σ (nat_abs l) ≡ sign l
unfolding make_true
make_same l σ = rw (eq-eqb (nat_abs l) (nat_abs l) refl)

make_other : (l : ℤ) (v : ℕ) (σ : Assignment) → v ≢ nat_abs l → make_true l σ v ≡ σ v
unfolding make_true
make_other l v σ h = rw (ne_eqb v (nat_abs l) h)

pub made : (l : ℤ) (σ : Assignment) → bit (true_in (make_true l σ) l) ≡ 1
unfolding true_in sign
made (pos n) σ = ap bit (make_same (pos n) σ)
made (negsuc n) σ = rw (make_same (negsuc n) σ)

up : (e b : Bool) → bit b ≤ bit (cond e true b)
up true b = bit≤1 b
up false b = omega arith

up_not : (e b : Bool) → bit (not b) ≤ bit (not (cond e false b))
up_not true b = bit≤1 (not b)
up_not false b = omega arith

-- every literal but the negation stays true
pub keeps : (l m : ℤ) (σ : Assignment) → m ≢ neg_ℤ l → bit (true_in σ m) ≤ bit (true_in (make_true l σ) m)
unfolding true_in make_true sign
keeps (pos n) (pos a) σ h = up (eqb a n) (σ a)
keeps (pos n) (negsuc a) σ h = rw (make_other (pos n) (suc a) σ (λ e. h (ap (λ (k : ℕ). neg_ℤ (pos k)) e))) (omega arith)
keeps (negsuc n) (pos a) σ h = rw (make_other (negsuc n) a σ (λ e. h (ap pos e))) (omega arith)
keeps (negsuc n) (negsuc a) σ h = up_not (eqb (suc a) (suc n)) (σ (suc a))

-- a literal of another variable keeps its value
pub unmoved : (l m : ℤ) (σ : Assignment) → nat_abs m ≢ nat_abs l → true_in (make_true l σ) m ≡ true_in σ m
unfolding true_in
unmoved l (pos a) σ h = make_other l a σ h
unmoved l (negsuc a) σ h = ap not (make_other l (suc a) σ h)

-- ---- the number of true literals, by members
pub trues_mono : (σ τ : Assignment) (c : Clause) → ((l : ℤ) → Memᴰ l c → bit (true_in σ l) ≤ bit (true_in τ l)) → trues σ c ≤ trues τ c
unfolding trues count
trues_mono σ τ [] h = omega arith
trues_mono σ τ (l ∷ c) h = omega (arith, h l (here refl), trues_mono σ τ c (λ m d. h m (there d)))

pub trues_same : (σ τ : Assignment) (c : Clause) → ((l : ℤ) → Memᴰ l c → true_in τ l ≡ true_in σ l) → trues τ c ≡ trues σ c
unfolding trues count
trues_same σ τ [] h = refl
trues_same σ τ (l ∷ c) h = rw (h l (here refl), trues_same σ τ c (λ m d. h m (there d)))

pub trues_at : (σ : Assignment) {l : ℤ} {c : Clause} → Memᴰ l c → bit (true_in σ l) ≤ trues σ c
unfolding trues count
trues_at σ (here {x = x} {xs = xs} e) = rw e (omega arith)
trues_at σ (there {xs = xs} d) = omega (arith, trues_at σ d)

abbrev pub Hit : Assignment → Clause → Type 0
Hit σ c = (l : ℤ) × Memᴰ l c × (1 ≤ bit (true_in σ l))

pub hit : (σ : Assignment) (c : Clause) → 1 ≤ trues σ c → Hit σ c
unfolding trues count
hit σ [] h = absurd (omega arith)
hit σ (l ∷ c) h = go (true_in σ l) refl (hit σ c)
  where
    go : (b : Bool) → true_in σ l ≡ b → (1 ≤ trues σ c → Hit σ c) → Hit σ (l ∷ c)
    go true e r = (l, here refl, rw e (omega arith))
    go false e r = let t = r (omega (arith, ap bit e)) in (t.0, there t.1, t.2)

pub hit_in : (σ : Assignment) (c d : Clause) → ((l : ℤ) → Memᴰ l c → Memᴰ l d) → 1 ≤ trues σ c → 1 ≤ trues σ d
hit_in σ c d sub h = let t = hit σ c h in omega (arith, trues_at σ (sub t.0 t.1), t.2)

pub trues-++ : (σ : Assignment) (c d : Clause) → trues σ (c ++ d) ≡ trues σ c + trues σ d
unfolding trues
trues-++ σ c d = count-++ (true_in σ) c d

-- a clause has a true literal
pub trues_has : (σ : Assignment) (c : Clause) → 1 ≤ trues σ c → T (has_true σ c)
unfolding has_true any trues count
trues_has σ [] h = absurd (omega arith)
trues_has σ (l ∷ c) h = go (true_in σ l) refl (trues_has σ c)
  where
    go : (b : Bool) → true_in σ l ≡ b → (1 ≤ trues σ c → T (has_true σ c)) → T (b || has_true σ c)
    go true e r = tt
    go false e r = r (omega (arith, ap bit e))

pub has_trues : (σ : Assignment) (c : Clause) → T (has_true σ c) → 1 ≤ trues σ c
unfolding has_true any trues count
has_trues σ (l ∷ c) t = go (true_in σ l) refl t (has_trues σ c)
  where
    go : (b : Bool) → true_in σ l ≡ b → T (b || has_true σ c) → (T (has_true σ c) → 1 ≤ trues σ c) → 1 ≤ bit (true_in σ l) + trues σ c
    go true e u r = omega (arith, ap bit e)
    go false e u r = omega (arith, r u)
has_trues σ [] t = elim t [ ]

-- ---- `T (satisfies σ F)`, clause by clause
abbrev pub Sat : Assignment → Formula → Type 0
Sat σ [] = Unit {0}
Sat σ (c ∷ F) = (1 ≤ trues σ c) × Sat σ F

pub sat_satisfies : (σ : Assignment) (F : Formula) → Sat σ F → T (satisfies σ F)
unfolding satisfies all
sat_satisfies σ [] s = tt
sat_satisfies σ (c ∷ F) s = and_i (has_true σ c) (satisfies σ F) (trues_has σ c s.0) (sat_satisfies σ F s.1)

pub satisfies_sat : (σ : Assignment) (F : Formula) → T (satisfies σ F) → Sat σ F
unfolding satisfies all
satisfies_sat σ [] t = tt
satisfies_sat σ (c ∷ F) t = (has_trues σ c (and_l (has_true σ c) (satisfies σ F) t), satisfies_sat σ F (and_r (has_true σ c) (satisfies σ F) t))

pub sat_at : (σ : Assignment) (F : Formula) → Sat σ F → {c : Clause} → Memᴰ c F → 1 ≤ trues σ c
sat_at σ (d ∷ F) s (here e) = rw e s.0
sat_at σ (d ∷ F) s (there m) = sat_at σ F s.1 m
sat_at σ [] s {c = c} x'' = elim x'' [ ]

pub sat_all : (σ : Assignment) (F : Formula) → ((c : Clause) → Memᴰ c F → 1 ≤ trues σ c) → Sat σ F
sat_all σ [] h = tt
sat_all σ (c ∷ F) h = (h c (here refl), sat_all σ F (λ d m. h d (there m)))

pub sat-++ : (σ : Assignment) (F G : Formula) → Sat σ F → Sat σ G → Sat σ (F ++ G)
sat-++ σ [] G s t = t
sat-++ σ (c ∷ F) G s t = (s.0, sat-++ σ F G s.1 t)

pub sat_left : (σ : Assignment) (F G : Formula) → Sat σ (F ++ G) → Sat σ F
sat_left σ [] G s = tt
sat_left σ (c ∷ F) G s = (s.0, sat_left σ F G s.1)

pub sat_right : (σ : Assignment) (F G : Formula) → Sat σ (F ++ G) → Sat σ G
sat_right σ [] G s = s
sat_right σ (c ∷ F) G s = sat_right σ F G s.1

-- the same values for 1..v satisfy the same formulas of these variables
same_values : (v : ℕ) (a b : Assignment) → ((x : ℕ) → 1 ≤ x → x ≤ v → a x ≡ b x) → (l : ℤ) → Fit v l → true_in a l ≡ true_in b l
unfolding true_in
same_values v a b h (pos zero) f = absurd (f.0 refl)
same_values v a b h (pos (suc n)) f = h (suc n) (omega arith) f.1
same_values v a b h (negsuc n) f = ap not (h (suc n) (omega arith) f.1)

pub satisfies_same : (v : ℕ) (a b : Assignment) (f : Formula) → Fits v f → ((x : ℕ) → 1 ≤ x → x ≤ v → a x ≡ b x) → satisfies a f ≡ satisfies b f
unfolding satisfies has_true
satisfies_same v a b f fits h =
    all_same (any (true_in a)) (any (true_in b)) f (λ c i. any_same (true_in a) (true_in b) c (λ l j. same_values v a b h l (fits c i l j)))
