-- The test for alignable choices is right, and each choice is sorted by number or stays. Assumes that every choice is proper.
use mathlib.Core.Path.{◌≡◌, refl, sym, ◌∙◌, ap}
use mathlib.Core.Logic.{◌≢◌, ◌↔◌, ◌⊎◌, inl, inr}
use mathlib.Core.Bool.{Bool, true, false, cond, not}
use mathlib.Core.List.Memᴰ
use mathlib.Core.List.Memᴰ.{head as here}
use mathlib.Core.List.Memᴰ.{tail as there}
use mathlib.Core.List.Permᴰ
use mathlib.Core.List.{List, [], ◌∷◌, map, Memᴰ, Permᴰ}
use lib.Dec.{T, T_not, not_T}
use lib.IntN.{ℤ, pos, negsuc}
use lib.ListN.{length}
use Rattle.definition.specs.Lists
use Rattle.definition.specs.Literals
use Rattle.definition.specs.Standing
use Rattle.definition.specs.Literals.{Clause, Formula, holds, repeated}
use Rattle.definition.specs.Alignment.{computing, Arrangement, as_listed, alignment, choice_literals, Alignable, group, alignable, group_number, sorted, aligned, arranged}
use Rattle.theory_base.proofs.Tests.{to_true, to_false, or_cases, or_l, or_r}
use Rattle.theory_base.proofs.Members.{all_at, all_of, holds_mem, mem_holds}
use Rattle.theory_base.specs.Clauses.{Same, Proper}
use Rattle.theory_base.proofs.Loops.{mem_for_each}
use Rattle.theory_alignment.proofs.Groups.{chain_group, group_chain}
use Rattle.theory_alignment.proofs.Sorting.{Distinct, permuted_same, permuted_length, permuted_proper, sorted_permutes, sorted_rising}
use Rattle.theory_alignment.proofs.Numbers.{group_number_agrees}
use Rattle.theory_alignment.specs.Groups.{Rising}

-- ---- `repeated (map g c)`: two literals of c have the same g
module _ (g : ℤ → ℤ) where
  repeated_first : (k : ℤ) (c : Clause) (b : ℤ) → Memᴰ b c → g k ≡ g b → T (repeated (map g (k ∷ c)))
  unfolding repeated
  repeated_first k c b j e = or_l (holds (g k) (map g c)) _ (mem_holds (g k) (map g c) (Memᴰ.cast e (Memᴰ.map g j)))

  unrepeated_distinct : (c : Clause) → (T (repeated (map g c)) → ⊥) → (a b : ℤ) → Memᴰ a c → Memᴰ b c → g a ≡ g b → a ≡ b
  unfolding repeated
  unrepeated_distinct (k ∷ c) n a b (here p) (here q) e = p ∙ sym q
  unrepeated_distinct (k ∷ c) n a b (here p) (there j) e = absurd (n (repeated_first k c b j (ap g (sym p) ∙ e)))
  unrepeated_distinct (k ∷ c) n a b (there i) (here q) e = absurd (n (repeated_first k c a i (ap g (sym q) ∙ sym e)))
  unrepeated_distinct (k ∷ c) n a b (there i) (there j) e = unrepeated_distinct c (λ t. n (or_r (holds (g k) (map g c)) _ t)) a b i j e
  unrepeated_distinct [] n a b x4 _ e = elim x4 [ ]

  abbrev Twice : Clause → Type 0
  Twice c = (a b : ℤ) × Memᴰ a c × Memᴰ b c × (a ≢ b) × (g a ≡ g b)

  repeated_twice : (c : Clause) → Proper c → T (repeated (map g c)) → Twice c
  unfolding repeated
  repeated_twice (k ∷ c) p t = go (or_cases (holds (g k) (map g c)) _ t) (repeated_twice c p.3)
    where
      go : T (holds (g k) (map g c)) ⊎ T (repeated (map g c)) → (T (repeated (map g c)) → Twice c) → Twice (k ∷ c)
      go (inl u) ih =
          let r = Memᴰ.of_map g c (holds_mem (g k) (map g c) u) in
          (k, r.0, here refl, there r.1, λ e. p.1 (Memᴰ.cast e r.1), sym r.2)
      go (inr u) ih = let r = ih u in (r.0, r.1, there r.2, there r.3, r.4, r.5)
  repeated_twice [] p t = elim t [ ]

module _ (f : Formula) (cs : List Clause) where
  alignable_distinct : T (alignable f cs) → (c : Clause) → Memᴰ c cs → (a b : ℤ) → Memᴰ a c → Memᴰ b c → group f cs a ≡ group f cs b → a ≡ b
  unfolding alignable
  alignable_distinct t c i =
      unrepeated_distinct (group f cs) c (T_not (repeated (map (group f cs) c)) (all_at (λ c. not (repeated (map (group f cs) c))) cs t c i))

  -- the test says whether the choices are alignable
  pub alignable_agrees : ((c : Clause) → Memᴰ c cs → Proper c) → T (alignable f cs) ↔ Alignable f cs
  unfolding alignable Alignable
  alignable_agrees p = (
    λ t c i a b j k n q. n (alignable_distinct t c i a b j k (chain_group f cs a b q)),
    λ h. all_of (λ c. not (repeated (map (group f cs) c))) cs (λ c i. not_T (repeated (map (group f cs) c)) (apart h c i)),
  )
    where
      apart : Alignable f cs → (c : Clause) → Memᴰ c cs → T (repeated (map (group f cs) c)) → ⊥
      apart h c i t =
          let r = repeated_twice (group f cs) c (p c i) t in
          h c i r.0 r.1 r.2 r.3 r.4 (group_chain f cs r.0 r.1 r.5)

  -- no two literals of a choice have one number
  number_distinct : T (alignable f cs) → (c : Clause) → Memᴰ c cs → Distinct (group_number f cs) c
  unfolding choice_literals
  number_distinct t c i a b j k e =
      alignable_distinct t c i a b j k (chain_group f cs a b ((group_number_agrees f cs a b (mem_for_each cs (λ d. d) c a i j)).0 e))

  -- alignable choices are sorted by number, otherwise all orders stay
  pub aligned_rising : ((c : Clause) → Memᴰ c cs → Proper c) → Alignable f cs → (c : Clause) → Memᴰ c cs → Rising (group_number f cs) (arranged alignment f cs c)
  unfolding arranged aligned
  aligned_rising p h c i =
      let t = (alignable_agrees p).1 h in
      let e : alignable f cs ≡ true = to_true t in
      rw e (sorted_rising (group_number f cs) c (p c i) (number_distinct t c i))

  pub aligned_stays : ((c : Clause) → Memᴰ c cs → Proper c) → (Alignable f cs → ⊥) → (c : Clause) → arranged alignment f cs c ≡ c
  unfolding arranged aligned
  aligned_stays p n c = let e : alignable f cs ≡ false = to_false (λ t. n ((alignable_agrees p).0 t)) in rw e

-- ---- the order alone changes
pub arranged_permutes : (w : Arrangement) (f : Formula) (cs : List Clause) (c : Clause) → Permᴰ (arranged w f cs c) c
unfolding arranged aligned
arranged_permutes as_listed f cs c = Permᴰ.refl c
arranged_permutes alignment f cs c = go (alignable f cs)
  where
    go : (b : Bool) → Permᴰ (cond b (sorted (group_number f cs) c) c) c
    go true = sorted_permutes (group_number f cs) c
    go false = Permᴰ.refl c

pub arranged_keeps : (w : Arrangement) (f : Formula) (cs : List Clause) (c : Clause) → Proper c → Proper (arranged w f cs c) × Same (arranged w f cs c) c × (length (arranged w f cs c) ≡ length c)
arranged_keeps w f cs c p =
    let q = arranged_permutes w f cs c in
    (permuted_proper (Permᴰ.symm q) p, permuted_same q, permuted_length q)

-- ---- document 01's example: 1..5 and 6..10, linked 1-8 and 2-6
abbrev one_to_five : Clause
one_to_five = pos 1 ∷ pos 2 ∷ pos 3 ∷ pos 4 ∷ pos 5 ∷ []

abbrev six_to_ten : Clause
six_to_ten = pos 6 ∷ pos 7 ∷ pos 8 ∷ pos 9 ∷ pos 10 ∷ []

pub aligned_example : arranged alignment ((negsuc 0 ∷ negsuc 7 ∷ []) ∷ (negsuc 1 ∷ negsuc 5 ∷ []) ∷ []) (one_to_five ∷ six_to_ten ∷ []) six_to_ten ≡ pos 8 ∷ pos 6 ∷ pos 7 ∷ pos 9 ∷ pos 10 ∷ []
unfolding computing Lists.computing Literals.computing Standing.computing
aligned_example = refl
