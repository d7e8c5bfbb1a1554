-- A clause without one of its literals; literals in another order; a variable that stands nowhere.
use mathlib.Core.Path.{◌≡◌, refl, sym, ◌∙◌, ap}
use mathlib.Core.Logic.{◌≢◌, ◌⊎◌, inl, inr, ⊎_elim}
use mathlib.Core.Bool.{Bool, true, false, cond, not}
use mathlib.Core.List.Memᴰ
use mathlib.Core.List.Memᴰ.{head as here}
use mathlib.Core.List.Memᴰ.{tail as there}
use mathlib.Core.List.{List, [], ◌∷◌, ◌++◌, Memᴰ}
use Prim.Native.Nat.{ℕ, ◌≤◌, ◌<◌}
use native.Mathlib.Omega.{arith}
use lib.IntN.{ℤ, neg_ℤ, nat_abs}
use Rattle.theory_base.proofs.Removal.{Removed, removed_at}
use Rattle.definition.specs.Clearing.{times}
use Rattle.definition.specs.Lists.{bit, those}
use Rattle.definition.specs.Literals.{Clause, Formula, same, without, with_first}
use Rattle.definition.specs.Assignments.{Assignment, true_in, trues}
use Rattle.definition.specs.Events.{Event}
use Rattle.theory_base.proofs.Tests.{of_true, not_true, of_false, by_test, to_false}
use Rattle.theory_base.proofs.Members.{same_eq, unlike, those_mem, mem_those, proper_literal, proper_unopposed, same_variable, same_set_same}
use Rattle.theory_base.specs.Clauses.{Same, Proper, Absent}
use Rattle.theory_base.proofs.Sums.{count_sum}
use Rattle.theory_base.proofs.Clauses.{same_sum}
use Rattle.theory_soundness.proofs.Sound.{Into}
use Rattle.theory_soundness.proofs.Rules.{Clear}
use Rattle.theory_soundness.proofs.Times.{holds_yes, times-++, times_cons, none_times}

pub without_mem : (v : ℤ) (c : Clause) (x : ℤ) → Memᴰ x (without v c) → Memᴰ x c × (x ≢ v)
unfolding without
without_mem v c x i = let r = those_mem (λ m. not (same v m)) c x i in (r.0, λ e. unlike v x (not_true r.1) (sym e))

pub mem_without : (v : ℤ) (c : Clause) (x : ℤ) → Memᴰ x c → (x ≡ v) ⊎ Memᴰ x (without v c)
unfolding without
mem_without v c x i =
    by_test (same v x) (λ e. inl (sym (same_eq v x (of_true e)))) (λ e. inr (mem_those (λ m. not (same v m)) c x i (of_false e)))

-- written first, the others in order
pub first_same : (v : ℤ) (c : Clause) → Memᴰ v c → Same (with_first v c) c
unfolding with_first
first_same v c m = (go, λ x i. back x (mem_without v c x i))
  where
    go : (x : ℤ) → Memᴰ x (v ∷ without v c) → Memᴰ x c
    go x (here e) = Memᴰ.cast e m
    go x (there i) = (without_mem v c x i).0

    back : (x : ℤ) → (x ≡ v) ⊎ Memᴰ x (without v c) → Memᴰ x (v ∷ without v c)
    back x (inl e) = here e
    back x (inr i) = there i

pub without_proper : (v : ℤ) (c : Clause) → Proper c → Proper (without v c)
unfolding without those
without_proper v [] a = tt
without_proper v (x ∷ c) a = go (same v x) (without_proper v c a.3)
  where
    go : (b : Bool) → Proper (without v c) → Proper (cond (not b) (x ∷ without v c) (without v c))
    go true h = h
    go false h = (a.0, λ i. a.1 (without_mem v c x i).0, λ i. a.2 (without_mem v c (neg_ℤ x) i).0, h)

pub first_proper : (v : ℤ) (c : Clause) → Proper c → Memᴰ v c → Proper (with_first v c)
unfolding with_first
first_proper v c a i = (
  proper_literal c a v i,
  λ j. (without_mem v c v j).1 refl,
  λ j. proper_unopposed c a v i (without_mem v c (neg_ℤ v) j).0,
  without_proper v c a,
)

-- ---- the number of true literals does not depend on the order
pub trues_order : (σ : Assignment) (c d : Clause) → Proper c → Proper d → Same c d → trues σ c ≡ trues σ d
unfolding trues
trues_order σ c d a b s =
    omega (arith, count_sum (true_in σ) c, count_sum (true_in σ) d, same_sum (λ l. bit (true_in σ l)) c d a b s)

-- ---- a variable that stands nowhere

-- a literal of this variable stands in the formula
abbrev pub Stands : ℕ → Formula → Type 0
Stands n F = (d : Clause) × Memᴰ d F × (y : ℤ) × Memᴰ y d × (nat_abs y ≡ n)

-- the variables of clauses that go into a choice stand in the formula, or are above h
abbrev pub Known : ℕ → List Event → Formula → Type 0
Known h K F = (c : Clause) → Into K c → (x : ℤ) → Memᴰ x c → Stands (nat_abs x) F ⊎ (h < nat_abs x)

pub clear_absent : (h : ℕ) (v : ℤ) (K : List Event) (F : Formula) → Known h K F → nat_abs v ≤ h → Absent v F → Absent (neg_ℤ v) F → Clear v K
clear_absent h v K F w b p n c i x j e =
    ⊎_elim
    (λ r.
    ⊎_elim (λ q. p r.0 r.1 (Memᴰ.cast (sym q) r.3)) (λ q. n r.0 r.1 (Memᴰ.cast (sym q) r.3)) (same_variable r.2 v (r.4 ∙ e)))
    (λ r. omega arith) (w c i x j)

-- ---- two clauses in one
pub proper-++ : (c d : Clause) → Proper c → Proper d → ((x : ℤ) → Memᴰ x c → Memᴰ x d → ⊥) → ((x : ℤ) → Memᴰ x c → Memᴰ (neg_ℤ x) d → ⊥) → Proper (c ++ d)
proper-++ [] d a b s o = b
proper-++ (x ∷ c) d a b s o = (
  a.0,
  λ i. ⊎_elim a.1 (s x (here refl)) (Memᴰ.append_cases c i),
  λ i. ⊎_elim a.2 (o x (here refl)) (Memᴰ.append_cases c i),
  proper-++ c d a.3 b (λ y i. s y (there i)) (λ y i. o y (there i)),
)

-- ---- the only clause with a literal is taken out
pub only_removed : (l : ℤ) (c : Clause) (X R : Formula) → Memᴰ l c → times l (X ++ (c ∷ R)) ≡ 1 → Removed (with_first l c) (X ++ (c ∷ R)) (X ++ R)
unfolding with_first
only_removed l c X R i e =
    removed_at (with_first l c) c X R (first_same l c i) (λ k j. to_false (λ t. none_times l X absent k j ((same_set_same (with_first l c) k t).0 l (here refl))))
  where
    absent : times l X ≡ 0
    absent = omega (arith, e, times-++ l X (c ∷ R), times_cons l c R, ap bit (holds_yes l c i))
