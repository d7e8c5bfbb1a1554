-- What makes a line sound.
use mathlib.Core.Path.{◌≡◌, refl, sym, ◌∙◌}
use mathlib.Core.Logic.{◌≢◌}
use mathlib.Core.Bool.{Bool, true, false, cond}
use mathlib.Core.List.Memᴰ
use mathlib.Core.List.{List, [], ◌∷◌, ◌++◌, Memᴰ}
use Prim.Native.Nat.{ℕ, ◌≤◌}
use native.Mathlib.Omega.{arith}
use lib.IntN.{ℤ, neg_ℤ, nat_abs}
use Rattle.definition.specs.Lists.{count}
use Rattle.definition.specs.Literals.{Clause, Formula, holds}
use Rattle.definition.specs.Standing.{Line, addition, deletion}
use Rattle.definition.specs.Assignments.{Assignment, has_true, trues, make_true, repaired}
use Rattle.definition.specs.Events.{Event}
use Rattle.theory_base.proofs.Tests.{of_true, differ}
use Rattle.theory_base.proofs.Members.{holds_mem, mem_holds}
use Rattle.theory_base.specs.Clauses.{Absent}
use Rattle.theory_base.proofs.Trues.{made, keeps, unmoved, trues_mono, trues_same, has_trues, trues_has, Sat, sat_at, sat_all, sat-++}
use Rattle.theory_base.proofs.Removal.{Removed, sat_more}
use Rattle.theory_soundness.proofs.Sound.{Into, Ones, Sound, adding, deleting}

-- ---- repairing: a clause that holds changes nothing, one that is all false gets its first literal
by_repaired : (P : Assignment → Type 0) (l : ℤ) (c : Clause) (σ : Assignment) →
    (1 ≤ trues σ (l ∷ c) → P σ) → (trues σ (l ∷ c) ≡ 0 → P (make_true l σ)) → P (repaired (l ∷ c) σ)
unfolding repaired
by_repaired P l c σ f g = go (has_true σ (l ∷ c)) refl
  where
    none : (n : ℕ) → (1 ≤ n → ⊥) → n ≡ 0
    none n h = omega arith

    go : (b : Bool) → has_true σ (l ∷ c) ≡ b → P (cond b σ (make_true l σ))
    go true e = f (has_trues σ (l ∷ c) (of_true e))
    go false e = g (none (trues σ (l ∷ c)) (λ h. differ (trues_has σ (l ∷ c) h) e))

repaired_holds : (c : Clause) (σ : Assignment) → 1 ≤ trues σ c → repaired c σ ≡ σ
unfolding repaired
repaired_holds [] σ h = refl
repaired_holds (l ∷ c) σ h = by_repaired (λ τ. τ ≡ σ) l c σ (λ g. refl) (λ g. absurd (omega arith))

pub first_true : (l : ℤ) (c : Clause) (σ : Assignment) → 1 ≤ trues (make_true l σ) (l ∷ c)
unfolding trues count
first_true l c σ = omega (arith, made l σ)

-- ---- no clause that goes into a choice holds the literal's variable
abbrev pub Clear : ℤ → List Event → Type 0
Clear l K = (d : Clause) → Into K d → (m : ℤ) → Memᴰ m d → nat_abs m ≢ nat_abs l

ones_clear : (σ : Assignment) (l : ℤ) (K : List Event) → Clear l K → Ones σ K → Ones (make_true l σ) K
ones_clear σ l K h o c m = trues_same σ (make_true l σ) c (λ x d. unmoved l x σ (h c m x d)) ∙ o c m

-- a clause without the negation stays true
pub stays : (σ : Assignment) (l : ℤ) (d : Clause) → (Memᴰ (neg_ℤ l) d → ⊥) → trues σ d ≤ trues (make_true l σ) d
stays σ l d h = trues_mono σ (make_true l σ) d (λ m k. keeps l m σ (λ e. h (Memᴰ.cast (sym e) k)))

-- it is enough to look at the clauses that hold the negation
pub negation_only : (σ : Assignment) (l : ℤ) (G : Formula) → Sat σ G →
    ((d : Clause) → Memᴰ d G → Memᴰ (neg_ℤ l) d → 1 ≤ trues (make_true l σ) d) → Sat (make_true l σ) G
negation_only σ l G s h = sat_all (make_true l σ) G (λ d m. go d m (holds (neg_ℤ l) d) refl)
  where
    go : (d : Clause) → Memᴰ d G → (b : Bool) → holds (neg_ℤ l) d ≡ b → 1 ≤ trues (make_true l σ) d
    go d m true e = h d m (holds_mem (neg_ℤ l) d (of_true e))
    go d m false e = omega (arith, sat_at σ G s m, stays σ l d (λ k. differ (mem_holds (neg_ℤ l) d k) e))

pub absent_stays : (σ : Assignment) (l : ℤ) (G : Formula) → Absent (neg_ℤ l) G → Sat σ G → Sat (make_true l σ) G
absent_stays σ l G h s = negation_only σ l G s (λ d m k. absurd (h d m k))

-- a clause that follows may be added
pub add_implied : {F H : Formula} {K L : List Event} {xs : List Line} {c : Clause} → ((σ : Assignment) → Sat σ F → 1 ≤ trues σ c) →
    Sound (F ++ (c ∷ [])) K xs H L → Sound F K (addition c ∷ xs) H L
add_implied {F} {c = c} h s = adding {F = F} {c = c} (λ σ t. rw (repaired_holds c σ (h σ t)) (sat-++ σ F (c ∷ []) t (h σ t, tt))) s

-- a clause may be added if its first literal can be made true where it is all false
pub add_first : {F H : Formula} {K L : List Event} {xs : List Line} {l : ℤ} {c : Clause} → ((σ : Assignment) → Sat σ F → trues σ (l ∷ c) ≡ 0 → Sat (make_true l σ) F) →
    Sound (F ++ ((l ∷ c) ∷ [])) K xs H L → Sound F K (addition (l ∷ c) ∷ xs) H L
add_first {F} {l = l} {c = c} h s =
    adding {F = F} {c = l ∷ c} (λ σ t. by_repaired (λ τ. Sat τ (F ++ ((l ∷ c) ∷ []))) l c σ
    (λ g. sat-++ σ F ((l ∷ c) ∷ []) t (g, tt))
    (λ g. sat-++ (make_true l σ) F ((l ∷ c) ∷ []) (h σ t g) (first_true l c σ, tt))) s

module _ {F G H : Formula} {K L : List Event} {xs : List Line} where
  -- a clause that follows from the rest may be deleted
  pub del_implied : {c : Clause} → Removed c F G → ((σ : Assignment) → Sat σ G → 1 ≤ trues σ c) → Sound G K xs H L → Sound F K (deletion c ∷ xs) H L
  del_implied {c} e h s = deleting {F = F} {K = K} e
      (λ σ t. rw (repaired_holds c σ (h σ t)) (sat_more σ e (h σ t) t))
      (λ σ t o. rw (repaired_holds c σ (h σ t)) o)
      s

  -- a clause may be deleted if its first literal can be made true where it is all false
  pub del_first : {l : ℤ} {c : Clause} → Removed (l ∷ c) F G →
      ((σ : Assignment) → Sat σ G → trues σ (l ∷ c) ≡ 0 → Sat (make_true l σ) G) → Clear l K → Sound G K xs H L → Sound F K (deletion (l ∷ c) ∷ xs) H L
  del_first {l} {c} e h k s = deleting e
      (λ σ t. by_repaired (λ τ. Sat τ F) l c σ
      (λ g. sat_more σ e g t)
      (λ g. sat_more (make_true l σ) e (first_true l c σ) (h σ t g)))
      (λ σ t o. by_repaired (λ τ. Ones τ K) l c σ (λ g. o) (λ g. ones_clear σ l K k o))
      s

  -- so if its negation stands in no other clause
  pub del_blocked : {l : ℤ} {c : Clause} → Removed (l ∷ c) F G → Absent (neg_ℤ l) G → Clear l K → Sound G K xs H L → Sound F K (deletion (l ∷ c) ∷ xs) H L
  del_blocked {l} e h k s = del_first e (λ σ t g. absent_stays σ l G h t) k s
