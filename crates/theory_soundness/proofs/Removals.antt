-- Deletions one after the other: what they take out, what stays, and when they are sound.
use mathlib.Core.Path.{◌≡◌, refl}
use mathlib.Core.Logic.{◌⊎◌, inl, inr, ⊎_elim}
use mathlib.Core.List.Memᴰ
use mathlib.Core.List.Memᴰ.{head as here}
use mathlib.Core.List.Memᴰ.{tail as there}
use mathlib.Core.List.{List, [], ◌∷◌, ◌++◌, map, Memᴰ}
use Prim.Native.Nat.{◌+◌}
use native.Mathlib.Omega.{arith}
use lib.IntN.{ℤ}
use Rattle.definition.specs.Literals.{Clause, Formula}
use Rattle.definition.specs.Standing.{Line, deletion, take_out}
use Rattle.definition.specs.Assignments.{Assignment}
use Rattle.definition.specs.Events.{Event}
use Rattle.definition.specs.Clearing.{times}
use Rattle.theory_base.specs.Clauses.{Same, Absent}
use Rattle.theory_base.proofs.Trues.{Sat}
use Rattle.theory_base.proofs.Removal.{Removed, removed-++, mem_removed, split, takes, sat_less}
use Rattle.theory_soundness.proofs.Sound.{Sound}
use Rattle.theory_soundness.proofs.Rules.{del_implied}
use Rattle.theory_soundness.proofs.Times.{times_nil, times_cons, times_removed, stays_in}
use Rattle.theory_soundness.specs.Removals.{take_all}

-- the clauses D are taken out of F one after the other, which leaves G
pub data Removes : Formula → Formula → Formula → Type 0 where
  none_left : {F : Formula} → Removes F [] F
  next : {F E G D : Formula} {d : Clause} → Removed d F E → Removes E D G → Removes F (d ∷ D) G

sat_removes : (σ : Assignment) {F D G : Formula} → Removes F D G → Sat σ F → Sat σ G
sat_removes σ none_left s = s
sat_removes σ (next e r) s = sat_removes σ r (sat_less σ e s)

pub removes-++ : {F D G : Formula} (X : Formula) → Removes F D G → Removes (F ++ X) D (G ++ X)
removes-++ X none_left = none_left
removes-++ X (next e r) = next (removed-++ X e) (removes-++ X r)

pub removes_join : {F E G A B : Formula} → Removes F A E → Removes E B G → Removes F (A ++ B) G
removes_join none_left s = s
removes_join (next e r) s = next e (removes_join r s)

pub removes_split : {F G : Formula} (A B : Formula) → Removes F (A ++ B) G → (E : Formula) × Removes F A E × Removes E B G
removes_split {F} [] B r = (F, none_left, r)
removes_split (d ∷ A) B (next e r) = let s = removes_split A B r in (s.0, next e s.1, s.2)

-- deletions of clauses that follow from what is left in the end
pub del_all : {F D G H : Formula} {K L : List Event} {xs : List Line} → Removes F D G →
    ((σ : Assignment) → Sat σ G → Sat σ D) → Sound G K xs H L → Sound F K (map deletion D ++ xs) H L
del_all none_left h s = s
del_all (next e r) h s = del_implied e (λ σ t. (h σ (sat_removes σ r t)).0) (del_all r (λ σ t. (h σ t).1) s)

pub times_removes : (x : ℤ) {F D G : Formula} → Removes F D G → times x F ≡ times x D + times x G
times_removes x none_left = omega (arith, times_nil x)
times_removes x (next {D = D} {d = d} e r) = omega (arith, times_removed x e, times_removes x r, times_cons x d D)

pub mem_removes : {d : Clause} {F D G : Formula} → Removes F D G → Memᴰ d G → Memᴰ d F
mem_removes none_left i = i
mem_removes (next e r) i = mem_removed e (mem_removes r i)

-- a clause stays that holds a literal which no deleted one holds
pub stay_in : (x : ℤ) {d : Clause} {F D G : Formula} → Removes F D G → Memᴰ d F → Memᴰ x d → Absent x D → Memᴰ d G
stay_in x none_left i m n = i
stay_in x (next {d = c} e r) i m n = stay_in x r (stays_in x e i m (n c (here refl))) m (λ k j. n k (there j))

-- what holds of each deleted clause, by its literals, and of what is left holds of what stood
pub each_of : (P : Clause → Type 0) → ((c d : Clause) → Same c d → P c → P d) → {F D G : Formula} → Removes F D G →
    ((d : Clause) → Memᴰ d D → P d) → ((d : Clause) → Memᴰ d G → P d) → (d : Clause) → Memᴰ d F → P d
each_of P w none_left p q d m = q d m
each_of P w (next {E = E} {d = c} e r) p q d m = go (split e m) (each_of P w r (λ k i. p k (there i)) q d)
  where
    go : Same c d ⊎ Memᴰ d E → (Memᴰ d E → P d) → P d
    go (inl s) ih = w c d s (p c (here refl))
    go (inr n) ih = ih n

pub absent_before : (l : ℤ) {F D G : Formula} → Removes F D G → Absent l D → Absent l G → Absent l F
absent_before l r = each_of (λ d. Memᴰ l d → ⊥) (λ c d s n m. n (s.1 l m)) r

-- ---- deletions of different clauses that all stand
abbrev pub Spread : Formula → Type 0
Spread [] = Unit {0}
Spread (d ∷ D) = ((k : Clause) → Memᴰ k D → Same d k → ⊥) × Spread D

pub spread-++ : (A B : Formula) → Spread A → Spread B → ((a b : Clause) → Memᴰ a A → Memᴰ b B → Same a b → ⊥) → Spread (A ++ B)
spread-++ [] B s t n = t
spread-++ (a ∷ A) B s t n = (
  λ k i. ⊎_elim (s.0 k) (n a k (here refl)) (Memᴰ.append_cases A i),
  spread-++ A B s.1 t (λ x y i. n x y (there i)),
)

abbrev pub FoundAll : Formula → Formula → Type 0
FoundAll [] F = Unit {0}
FoundAll (d ∷ D) F = ((e : Clause) × Memᴰ e F × Same d e) × FoundAll D F

pub found_mono : (D F G : Formula) → ((e : Clause) → Memᴰ e F → Memᴰ e G) → FoundAll D F → FoundAll D G
found_mono [] F G w h = tt
found_mono (d ∷ D) F G w h = ((h.0.0, w h.0.0 h.0.1, h.0.2), found_mono D F G w h.1)

found_after : (d : Clause) (D F G : Formula) → Removed d F G → ((k : Clause) → Memᴰ k D → Same d k → ⊥) → FoundAll D F → FoundAll D G
found_after d [] F G r s h = tt
found_after d (k ∷ D) F G r s h = (
  (h.0.0, ⊎_elim (λ q. absurd (s k (here refl) (λ x i. h.0.2.1 x (q.0 x i), λ x i. q.1 x (h.0.2.0 x i)))) (λ j. j) (split r h.0.1), h.0.2),
  found_after d D F G r (λ y i. s y (there i)) h.1,
)

pub take_all-++ : (F A B : Formula) → take_all F (A ++ B) ≡ take_all (take_all F A) B
take_all-++ F [] B = refl
take_all-++ F (d ∷ A) B = take_all-++ (take_out d F) A B

pub removes_exist : (D F : Formula) → Spread D → FoundAll D F → Removes F D (take_all F D)
removes_exist [] F s h = none_left
removes_exist (d ∷ D) F s h =
    let r = takes d h.0.0 F h.0.1 h.0.2 in
    next r (removes_exist D (take_out d F) s.1 (found_after d D F (take_out d F) r s.0 h.1))
