-- Taking out the first clause with the same set of literals. Assumes nothing.
use mathlib.Core.Path.{◌≡◌, refl, ap, sym, ◌∙◌}
use mathlib.Core.Logic.{◌⊎◌, inl, inr}
use mathlib.Core.Bool.{Bool, true, false, cond, ◌||◌}
use mathlib.Core.List.Memᴰ.{head as here}
use mathlib.Core.List.Memᴰ.{tail as there}
use mathlib.Core.List.{[], ◌∷◌, ◌++◌, Memᴰ, append-nil}
use Prim.Native.Nat.{suc, ◌≤◌}
use lib.Dec.{T}
use lib.ListN.{length}
use Rattle.definition.specs.Lists.{any}
use Rattle.definition.specs.Literals.{Clause, Formula, same_set}
use Rattle.definition.specs.Standing.{stands, take_out}
use Rattle.definition.specs.Assignments.{Assignment, trues}
use Rattle.theory_base.proofs.Tests.{of_true, to_true, or_l, or_r, differ}
use Rattle.theory_base.proofs.Members.{same_set_same, same_same_set}
use Rattle.theory_base.specs.Clauses.{Same}
use Rattle.theory_base.proofs.Trues.{hit_in, Sat}

-- the first clause with the literals of c is taken out of F, which leaves G
pub data Removed (c : Clause) : Formula → Formula → Type 0 where
  found : {d : Clause} {F : Formula} → same_set c d ≡ true → Removed c (d ∷ F) F
  later : {d : Clause} {F G : Formula} → same_set c d ≡ false → Removed c F G → Removed c (d ∷ F) (d ∷ G)

pub removed_take_out : {c : Clause} {F G : Formula} → Removed c F G → take_out c F ≡ G
unfolding take_out
removed_take_out (found e) = rw e
removed_take_out (later e r) = rw (e, removed_take_out r)

pub removed_stands : {c : Clause} {F G : Formula} → Removed c F G → T (stands c F)
unfolding stands any
removed_stands (found e) = rw e tt
removed_stands (later e r) = rw e (removed_stands r)

pub stands_removed : (c : Clause) (F : Formula) → T (stands c F) → Removed c F (take_out c F)
unfolding stands any take_out
stands_removed c (d ∷ F) t = go (same_set c d) refl t (stands_removed c F)
  where
    go : (b : Bool) → same_set c d ≡ b → T (b || any (same_set c) F) → (T (any (same_set c) F) → Removed c F (take_out c F)) → Removed c (d ∷ F) (cond b F (d ∷ take_out c F))
    go true e u ih = found e
    go false e u ih = later e (ih u)
stands_removed c [] t = elim t [ ]

-- a clause with the same literals stands: it is found
pub stands_same : (c d : Clause) (F : Formula) → Memᴰ d F → Same c d → T (stands c F)
unfolding stands any
stands_same c d (k ∷ F) (here e) s = or_l (same_set c k) (any (same_set c) F) (same_same_set c k (rw e at s))
stands_same c d (k ∷ F) (there i) s = or_r (same_set c k) (any (same_set c) F) (stands_same c d F i s)
stands_same c d [] x'' s = elim x'' [ ]

pub takes : (c d : Clause) (F : Formula) → Memᴰ d F → Same c d → Removed c F (take_out c F)
takes c d F i s = stands_removed c F (stands_same c d F i s)

-- at its place, where no clause before it has its literals
pub removed_at : (c d : Clause) (X F : Formula) → Same c d → ((k : Clause) → Memᴰ k X → same_set c k ≡ false) → Removed c (X ++ (d ∷ F)) (X ++ F)
removed_at c d [] F s h = found (to_true (same_same_set c d s))
removed_at c d (k ∷ X) F s h = later (h k (here refl)) (removed_at c d X F s (λ x i. h x (there i)))

-- what is left stood before
pub mem_take_out : (c : Clause) (F : Formula) (d : Clause) → Memᴰ d (take_out c F) → Memᴰ d F
unfolding take_out
mem_take_out c (e ∷ F) d m = go (same_set c e) m (mem_take_out c F d)
  where
    go : (b : Bool) → Memᴰ d (cond b F (e ∷ take_out c F)) → (Memᴰ d (take_out c F) → Memᴰ d F) → Memᴰ d (e ∷ F)
    go true m ih = there m
    go false (here q) ih = here q
    go false (there m) ih = there (ih m)
mem_take_out c [] d m = elim m [ ]

-- nothing is taken out of what stands behind and has other literals
pub take_out_first : (c : Clause) (F X : Formula) → ((x : Clause) → Memᴰ x X → same_set c x ≡ false) → take_out c (F ++ X) ≡ take_out c F ++ X
unfolding take_out
take_out_first c [] [] h = refl
take_out_first c [] (x ∷ X) h = rw (h x (here refl), take_out_first c [] X (λ y m. h y (there m)))
take_out_first c (d ∷ F) X h = go (same_set c d) (take_out_first c F X h)
  where
    go : (b : Bool) → take_out c (F ++ X) ≡ take_out c F ++ X → cond b (F ++ X) (d ∷ take_out c (F ++ X)) ≡ cond b F (d ∷ take_out c F) ++ X
    go true ih = refl
    go false ih = rw ih

-- what stands behind is left
pub removed-++ : {c : Clause} {F G : Formula} (X : Formula) → Removed c F G → Removed c (F ++ X) (G ++ X)
removed-++ X (found e) = found e
removed-++ X (later e r) = later e (removed-++ X r)

pub removed_length : {c : Clause} {F G : Formula} → Removed c F G → length F ≡ suc (length G)
removed_length (found e) = refl
removed_length (later e r) = ap suc (removed_length r)

-- a clause that stands before a deletion stands after it, or has the deleted one's literals
pub split : {c : Clause} {F G : Formula} → Removed c F G → {d : Clause} → Memᴰ d F → Same c d ⊎ Memᴰ d G
split {c} (found {d = k} e) {d} (here i) = inl (rw i (same_set_same c k (of_true e)))
split (found e) (there m) = inr m
split (later e r) (here i) = inr (here i)
split {c} (later {d = k} {F = F} {G = G} e r) {d} (there m) = go (split r m)
  where
    go : Same c d ⊎ Memᴰ d G → Same c d ⊎ Memᴰ d (k ∷ G)
    go (inl s) = inl s
    go (inr n) = inr (there n)

pub mem_removed : {c d : Clause} {F G : Formula} → Removed c F G → Memᴰ d G → Memᴰ d F
mem_removed (found e) i = there i
mem_removed (later e r) (here j) = here j
mem_removed (later e r) (there j) = there (mem_removed r j)

-- ---- satisfying before and after
pub sat_less : (σ : Assignment) {c : Clause} {F G : Formula} → Removed c F G → Sat σ F → Sat σ G
sat_less σ (found t) s = s.1
sat_less σ (later e r) s = (s.0, sat_less σ r s.1)

pub sat_more : (σ : Assignment) {c : Clause} {F G : Formula} → Removed c F G → 1 ≤ trues σ c → Sat σ G → Sat σ F
sat_more σ {c} (found {d = d} t) h s = (hit_in σ c d (same_set_same c d (of_true t)).0 h, s)
sat_more σ (later e r) h s = (s.0, sat_more σ r h s.1)

-- a clause found in the formula is true where the formula is
pub sat_of : (σ : Assignment) {c : Clause} {F G : Formula} → Removed c F G → Sat σ F → 1 ≤ trues σ c
sat_of σ {c} (found {d = d} t) s = hit_in σ d c (same_set_same c d (of_true t)).1 s.0
sat_of σ (later e r) s = sat_of σ r s.1

-- ---- past clauses that differ, and at the head of the list

pub stands_past : (c : Clause) (a b : Formula) → stands c a ≡ false → stands c (a ++ b) ≡ stands c b
unfolding stands any
stands_past c [] b e = refl
stands_past c (d ∷ a) b e = go (same_set c d) e (stands_past c a b)
  where
    go : (t : Bool) → (t || any (same_set c) a) ≡ false → (any (same_set c) a ≡ false → any (same_set c) (a ++ b) ≡ any (same_set c) b) → (t || any (same_set c) (a ++ b)) ≡ any (same_set c) b
    go true x r = differ {b = true} tt x
    go false x r = r x

pub take_out_past : (c : Clause) (a b : Formula) → stands c a ≡ false → take_out c (a ++ b) ≡ a ++ take_out c b
unfolding stands any take_out
take_out_past c [] b e = refl
take_out_past c (d ∷ a) b e = go (same_set c d) e (take_out_past c a b)
  where
    go : (t : Bool) → (t || any (same_set c) a) ≡ false → (any (same_set c) a ≡ false → take_out c (a ++ b) ≡ a ++ take_out c b) → cond t (a ++ b) (d ∷ take_out c (a ++ b)) ≡ d ∷ (a ++ take_out c b)
    go true x r = differ {b = true} tt x
    go false x r = ap (λ (f : Formula). d ∷ f) (r x)

pub take_out_none : (c : Clause) (a : Formula) → stands c a ≡ false → take_out c a ≡ a
unfolding take_out
take_out_none c a e = ap (take_out c) (sym (append-nil a)) ∙ take_out_past c a [] e ∙ append-nil a

-- the first clause is the one
pub stands_head : (c d : Clause) (f : Formula) → same_set c d ≡ true → stands c (d ∷ f) ≡ true
unfolding stands any
stands_head c d f e = rw e

pub take_out_head : (c d : Clause) (f : Formula) → same_set c d ≡ true → take_out c (d ∷ f) ≡ f
unfolding take_out
take_out_head c d f e = rw e
