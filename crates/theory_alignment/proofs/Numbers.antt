-- Groups are numbered as first met. Assumes nothing.
use mathlib.Core.Path.{◌≡◌, refl, sym, ◌∙◌, ap}
use mathlib.Core.Logic.{◌↔◌, ◌⊎◌, inl, inr, ⊎_elim}
use mathlib.Core.Bool.{Bool, true, false, cond}
use mathlib.Core.List.Memᴰ
use mathlib.Core.List.Memᴰ.{head as here}
use mathlib.Core.List.Memᴰ.{tail as there}
use mathlib.Core.List.{List, [], ◌∷◌, ◌++◌, map, append_assoc, append-nil, Memᴰ, map-append}
use Prim.Native.Nat.{suc, ◌<◌}
use native.Mathlib.Omega.{arith}
use lib.IntN.{ℤ}
use Rattle.definition.specs.Literals.{Clause, Formula, same, holds}
use Rattle.definition.specs.Alignment.{choice_literals, Chain, met, number_in, group, group_number}
use Rattle.theory_base.proofs.Tests.{of_true}
use Rattle.theory_base.proofs.Members.{same_eq, unlike, holds_mem}
use Rattle.theory_alignment.proofs.Groups.{chain_group, group_chain}

-- ---- a place in a list
-- what is in the front has a lower place than what is not
number_in_before : (gs hs : Clause) (g h : ℤ) → Memᴰ g gs → (Memᴰ h gs → ⊥) → number_in (gs ++ hs) g < number_in (gs ++ hs) h
unfolding number_in
number_in_before (k ∷ gs) hs g h i n = go (same g k) (same h k) refl refl i (λ j. number_in_before gs hs g h j (λ x. n (there x)))
  where
    go : (b d : Bool) → same g k ≡ b → same h k ≡ d → Memᴰ g (k ∷ gs) → (Memᴰ g gs → number_in (gs ++ hs) g < number_in (gs ++ hs) h) → cond b 0 (suc (number_in (gs ++ hs) g)) < cond d 0 (suc (number_in (gs ++ hs) h))
    go true true p q i ih = absurd (n (here (same_eq h k (of_true q))))
    go true false p q i ih = omega arith
    go false true p q i ih = absurd (n (here (same_eq h k (of_true q))))
    go false false p q (here x) ih = absurd (unlike g k p x)
    go false false p q (there j) ih = omega (arith, ih j)
number_in_before [] hs g h i n = elim i [ ]

-- one place, one group
number_in_unique : (gs : Clause) (g h : ℤ) → Memᴰ g gs → number_in gs g ≡ number_in gs h → g ≡ h
unfolding number_in
number_in_unique (k ∷ gs) g h i e = go (same g k) (same h k) refl refl i e (number_in_unique gs g h)
  where
    go : (b d : Bool) → same g k ≡ b → same h k ≡ d → Memᴰ g (k ∷ gs) → cond b 0 (suc (number_in gs g)) ≡ cond d 0 (suc (number_in gs h)) → (Memᴰ g gs → number_in gs g ≡ number_in gs h → g ≡ h) → g ≡ h
    go true true p q i e ih = same_eq g k (of_true p) ∙ sym (same_eq h k (of_true q))
    go true false p q i e ih = absurd (omega arith)
    go false true p q i e ih = absurd (omega arith)
    go false false p q (here x) e ih = absurd (unlike g k p x)
    go false false p q (there j) e ih = ih j (omega arith)
number_in_unique [] g h i e = elim i [ ]

-- ---- the groups as first met
-- the groups met so far, and one more
abbrev noted : Clause → ℤ → Clause
noted gs p = cond (holds p gs) gs (gs ++ (p ∷ []))

noted_begins : (gs : Clause) (p : ℤ) → (ys : Clause) × (noted gs p ≡ gs ++ ys)
noted_begins gs p = go (holds p gs)
  where
    go : (b : Bool) → (ys : Clause) × (cond b gs (gs ++ (p ∷ [])) ≡ gs ++ ys)
    go true = ([], sym (append-nil gs))
    go false = (p ∷ [], refl)

met_begins : (gs hs : Clause) → (ys : Clause) × (met gs hs ≡ gs ++ ys)
unfolding met
met_begins gs [] = ([], sym (append-nil gs))
met_begins gs (p ∷ hs) =
    let q = noted_begins gs p in
    let r = met_begins (noted gs p) hs in
    (q.0 ++ r.0, r.1 ∙ ap (λ (k : Clause). k ++ r.0) q.1 ∙ append_assoc gs q.0 r.0)

noted_mem : (gs : Clause) (p : ℤ) (hs : Clause) (g : ℤ) → Memᴰ g gs ⊎ Memᴰ g (p ∷ hs) → Memᴰ g (noted gs p) ⊎ Memᴰ g hs
noted_mem gs p hs g i = go (holds p gs) refl i
  where
    go : (b : Bool) → holds p gs ≡ b → Memᴰ g gs ⊎ Memᴰ g (p ∷ hs) → Memᴰ g (cond b gs (gs ++ (p ∷ []))) ⊎ Memᴰ g hs
    go true e (inl i) = inl i
    go true e (inr (here q)) = inl (Memᴰ.cast q (holds_mem p gs (of_true e)))
    go true e (inr (there j)) = inr j
    go false e (inl i) = inl (Memᴰ.append_left (p ∷ []) i)
    go false e (inr (here q)) = inl (Memᴰ.append_right gs (here q))
    go false e (inr (there j)) = inr j

noted_absent : (gs : Clause) (p h : ℤ) → (Memᴰ h gs → ⊥) → (h ≡ p → ⊥) → Memᴰ h (noted gs p) → ⊥
noted_absent gs p h n m = go (holds p gs)
  where
    go : (b : Bool) → Memᴰ h (cond b gs (gs ++ (p ∷ []))) → ⊥
    go true i = n i
    go false i = ⊎_elim n (λ j. m (Memᴰ.eq_of_singleton j)) (Memᴰ.append_cases gs i)

pub mem_met : (gs hs : Clause) (g : ℤ) → Memᴰ g gs ⊎ Memᴰ g hs → Memᴰ g (met gs hs)
unfolding met
mem_met gs [] g i = ⊎_elim (λ j. j) (λ j. absurd (Memᴰ.not-nil j)) i
mem_met gs (p ∷ hs) g i = mem_met (noted gs p) hs g (noted_mem gs p hs g i)

met_before : (gs ps ys : Clause) (g h : ℤ) → Memᴰ g gs ⊎ Memᴰ g ps → (Memᴰ h gs → ⊥) → (Memᴰ h ps → ⊥) → number_in (met gs (ps ++ ys)) g < number_in (met gs (ps ++ ys)) h
unfolding met
met_before gs [] ys g h i n m =
    let r = met_begins gs ys in
    rw r.1 (number_in_before gs r.0 g h (⊎_elim (λ j. j) (λ j. absurd (Memᴰ.not-nil j)) i) n)
met_before gs (p ∷ ps) ys g h i n m =
    met_before (noted gs p) ps ys g h (noted_mem gs p ps g i) (noted_absent gs p h n (λ e. m (here e))) (λ j. m (there j))

-- the group that is first met before another, so is in a front part without the other, has the lower number
pub number_first_met : (ps ys : Clause) (g h : ℤ) → Memᴰ g ps → (Memᴰ h ps → ⊥) → number_in (met [] (ps ++ ys)) g < number_in (met [] (ps ++ ys)) h
number_first_met ps ys g h i n = met_before [] ps ys g h (inr i) Memᴰ.not-nil n

module _ (f : Formula) (cs : List Clause) where
  -- a literal of the choices shares its number with what a chain joins to it
  pub group_number_agrees : (a b : ℤ) → Memᴰ a (choice_literals cs) → (group_number f cs a ≡ group_number f cs b) ↔ Chain f cs a b
  unfolding group_number
  group_number_agrees a b i =
      let gs = map (group f cs) (choice_literals cs) in (
        λ e. group_chain f cs a b (number_in_unique (met [] gs) (group f cs a) (group f cs b) (mem_met [] gs (group f cs a) (inr (Memᴰ.map (group f cs) i))) e),
        λ p. ap (number_in (met [] gs)) (chain_group f cs a b p),
      )

  -- a literal m of a's group comes before all literals of b's group
  pub group_number_first_met : (ps ys : Clause) (m a b : ℤ) → choice_literals cs ≡ ps ++ ys → Memᴰ m ps → Chain f cs m a → ((k : ℤ) → Memᴰ k ps → Chain f cs k b → ⊥) → group_number f cs a < group_number f cs b
  unfolding group_number
  group_number_first_met ps ys m a b e i p n =
      rw (e, map-append)
      (number_first_met (map (group f cs) ps) (map (group f cs) ys) (group f cs a) (group f cs b) (Memᴰ.cast (sym (chain_group f cs m a p)) (Memᴰ.map (group f cs) i)) absent)
    where
      absent : Memᴰ (group f cs b) (map (group f cs) ps) → ⊥
      absent j = let r = Memᴰ.of_map (group f cs) ps j in n r.0 r.1 (group_chain f cs r.0 b r.2)
