-- Proper clauses: with a literal more at the end, and what the tests for repeated and opposed literals say. Assumes nothing.
use Rattle.definition.specs.Calls.{numbers_of}
use mathlib.Core.Path.{◌≡◌, refl, sym, ap, ap₂, ◌∙◌}
use mathlib.Core.Bool.{Bool, false, true, cond}
use mathlib.Core.Logic.{◌≢◌, ⊎_elim, ◌⊎◌, inl, inr}
use mathlib.Core.List.Memᴰ
use mathlib.Core.List.Memᴰ.{head as here}
use mathlib.Core.List.Memᴰ.{tail as there}
use mathlib.Core.List.{List, [], ◌∷◌, ◌++◌, Memᴰ}
use Prim.Native.Nat.{ℕ, ◌+◌, ◌≤◌}
use native.Mathlib.Omega.{arith}
use lib.Dec.{T, leb, leb→le}
use lib.IntN.{ℤ, pos, negsuc, neg_ℤ, nat_abs}
use lib.ListN.{length}
use Rattle.definition.specs.Lists.{any, sum_of}
use Rattle.definition.specs.Literals.{Clause, Formula, same, holds, with_literal, literals_of, repeated, opposed}
use Rattle.definition.specs.Clearing.{choice_size}
use Rattle.theory_base.proofs.Tests.{to_false, differ, or_false_both, to_true, of_true, and_l, and_r, or_l, or_r}
use Rattle.theory_base.proofs.Sums.{sum-++, count_length, Distinct, sum_within}
use Rattle.theory_base.proofs.Members.{unlike, unlike_false, turn, holds_snoc, holds_false, mem_holds, opposes_mem, mem_opposes, proper_unopposed, proper_literal}
use Rattle.theory_base.specs.Clauses.{Same, Proper}

-- a literal of a proper clause, and those before it
pub proper_apart : (a : Clause) (l : ℤ) (c : Clause) → Proper (a ++ l ∷ c) → (Memᴰ l a → ⊥) × (Memᴰ (neg_ℤ l) a → ⊥)
proper_apart [] l c p = (Memᴰ.not-nil, Memᴰ.not-nil)
proper_apart (m ∷ a) l c p =
    let r = proper_apart a l c p.3 in (
      λ i. ⊎_elim (λ e. p.1 (Memᴰ.append_right a (here (sym e)))) r.0 (Memᴰ.cases_cons i),
      λ i. ⊎_elim (λ e. p.2 (Memᴰ.append_right a (here (turn m l (sym e))))) r.1 (Memᴰ.cases_cons i),
    )

pub natAbs_zero : (l : ℤ) → nat_abs l ≡ 0 → l ≡ pos 0
natAbs_zero (pos n) e = ap pos e
natAbs_zero (negsuc n) e = let k : ◌≡◌ {A = ℕ} 0 1 = omega arith in cc

pub literals-++ : (f g : Formula) → literals_of (f ++ g) ≡ literals_of f + literals_of g
unfolding literals_of
literals-++ f g = sum-++ length f g

-- a clause at the end of a formula
pub literals_snoc : (f : Formula) (c : Clause) → literals_of (f ++ (c ∷ [])) ≡ literals_of f + length c
unfolding literals_of sum_of
literals_snoc f c = omega (arith, literals-++ f (c ∷ []))

-- a property of the members of f and of c, with c put after f
pub members_snoc : {A : Type 0} (P : A → Type 0) (f : List A) (c : A) → ((d : A) → Memᴰ d f → P d) → P c → (d : A) → Memᴰ d (f ++ (c ∷ [])) → P d
members_snoc P [] c h p d (here e) = rw e p
members_snoc P (k ∷ f) c h p d (here e) = h d (here e)
members_snoc P (k ∷ f) c h p d (there i) = members_snoc P f c (λ x j. h x (there j)) p d i
members_snoc {A = A} P [] c h p d (there i) = elim i [ ]

-- a literal at the end of a proper clause
pub proper_snoc : (c : Clause) (l : ℤ) → Proper c → l ≢ pos 0 → (Memᴰ l c → ⊥) → (Memᴰ (neg_ℤ l) c → ⊥) → Proper (c ++ (l ∷ []))
proper_snoc [] l p z f g = (z, Memᴰ.not-nil, Memᴰ.not-nil, tt)
proper_snoc (m ∷ c) l p z f g = (
  p.0,
  λ i. ⊎_elim p.1 (λ j. f (here (sym (Memᴰ.eq_of_singleton j)))) (Memᴰ.append_cases c i),
  λ i. ⊎_elim p.2 (λ j. g (here (turn l m (sym (Memᴰ.eq_of_singleton j))))) (Memᴰ.append_cases c i),
  proper_snoc c l p.3 z (λ i. f (there i)) (λ i. g (there i)),
)

-- a proper clause has no literal repeated or opposed
pub proper_unrepeated : (c : Clause) → Proper c → repeated c ≡ false
unfolding repeated
proper_unrepeated [] p = refl
proper_unrepeated (l ∷ c) p = rw (holds_false l c p.1) (proper_unrepeated c p.3)

pub proper_not_opposed : (c : Clause) → Proper c → opposed c ≡ false
unfolding opposed
proper_not_opposed c p = to_false (λ t. let r = opposes_mem c c t in proper_unopposed c p r.0 r.1 r.2)

-- and a clause with neither, and without 0, is proper
pub tests_proper : (c : Clause) → repeated c ≡ false → opposed c ≡ false → ((x : ℤ) → Memᴰ x c → x ≢ pos 0) → Proper c
unfolding opposed repeated
tests_proper c r o z = by_members c r (λ x i j. differ (mem_opposes c c x i j) o) z
  where
    by_members : (c : Clause) → repeated c ≡ false → ((x : ℤ) → Memᴰ x c → Memᴰ (neg_ℤ x) c → ⊥) → ((x : ℤ) → Memᴰ x c → x ≢ pos 0) → Proper c
    by_members [] r o z = tt
    by_members (l ∷ c) r o z =
        let q = or_false_both (holds l c) (repeated c) r in
        (z l (here refl), λ i. differ (mem_holds l c i) q.0, λ i. o l (here refl) (there i), by_members c q.1 (λ x i j. o x (there i) (there j)) (λ x i. z x (there i)))

-- ---- a literal at the end, unless it is there already
pub none_repeated : repeated [] ≡ false
unfolding repeated
none_repeated = refl

unrepeated_snoc : (c : Clause) (l : ℤ) → repeated c ≡ false → holds l c ≡ false → repeated (c ++ (l ∷ [])) ≡ false
unfolding repeated holds any
unrepeated_snoc [] l r h = refl
unrepeated_snoc (m ∷ c) l r h =
    let q = or_false_both (holds m c) (repeated c) r in
    let d = or_false_both (same l m) (holds l c) h in
    rw (holds_snoc m c l, q.0, unlike_false m l (λ e. unlike l m d.0 (sym e)), unrepeated_snoc c l q.1 d.1)

pub unrepeated_with : (l : ℤ) (c : Clause) → repeated c ≡ false → repeated (with_literal l c) ≡ false
unrepeated_with l c r = go (holds l c) refl
  where
    go : (b : Bool) → holds l c ≡ b → repeated (cond b c (c ++ (l ∷ []))) ≡ false
    go true e = r
    go false e = unrepeated_snoc c l r e

pub members_with : (P : ℤ → Type 0) (l : ℤ) (c : Clause) → ((x : ℤ) → Memᴰ x c → P x) → P l → (x : ℤ) → Memᴰ x (with_literal l c) → P x
members_with P l c h p = go (holds l c)
  where
    go : (b : Bool) → (x : ℤ) → Memᴰ x (cond b c (c ++ (l ∷ []))) → P x
    go true = h
    go false = members_snoc P c l h p

pub opposed_with : (l : ℤ) (c : Clause) → opposed c ≡ true → opposed (with_literal l c) ≡ true
unfolding opposed
opposed_with l c e = go (holds l c)
  where
    go : (b : Bool) → opposed (cond b c (c ++ (l ∷ []))) ≡ true
    go true = e
    go false =
        let d = c ++ (l ∷ []) in
        let m = opposes_mem c c (of_true e) in
        to_true (mem_opposes d d m.0 (Memᴰ.append_left (l ∷ []) m.1) (Memᴰ.append_left (l ∷ []) m.2))

-- ---- two proper clauses with the same literals have the same sums
proper_distinct : (c : Clause) → Proper c → Distinct c
proper_distinct [] p = tt
proper_distinct (l ∷ c) p = (p.1, proper_distinct c p.3)

pub same_sum : (w : ℤ → ℕ) (c d : Clause) → Proper c → Proper d → Same c d → sum_of w c ≡ sum_of w d
same_sum w c d p q s = omega (arith, sum_within w c d (proper_distinct c p) s.0, sum_within w d c (proper_distinct d q) s.1)

pub same_length : (c d : Clause) → Proper c → Proper d → Same c d → length c ≡ length d
same_length c d p q s = omega (arith, same_sum (λ _. 1) c d p q s, count_length c, count_length d)

-- ---- the size of a formula

pub numbers_none : numbers_of [] ≡ 0
unfolding numbers_of literals_of sum_of
numbers_none = refl

pub numbers_first : (c : Clause) (f : Formula) → numbers_of (c ∷ f) ≡ 1 + length c + numbers_of f
unfolding numbers_of literals_of sum_of
numbers_first c f = omega arith

pub numbers-++ : (f g : Formula) → numbers_of (f ++ g) ≡ numbers_of f + numbers_of g
numbers-++ [] g = omega (arith, numbers_none)
numbers-++ (c ∷ f) g = omega (arith, numbers_first c (f ++ g), numbers_first c f, numbers-++ f g)

pub literals_none : literals_of [] ≡ 0
unfolding literals_of sum_of
literals_none = refl

pub literals_first : (c : Clause) (f : Formula) → literals_of (c ∷ f) ≡ length c + literals_of f
unfolding literals_of sum_of
literals_first c f = refl

-- ---- a literal after itself, or after its negation
pub repeated_after : (c : Clause) (l : ℤ) (d : Clause) → Memᴰ l c → repeated (c ++ l ∷ d) ≡ true
unfolding repeated
repeated_after (m ∷ c) l d (here e) =
    to_true (or_l (holds m (c ++ l ∷ d)) (repeated (c ++ l ∷ d)) (mem_holds m (c ++ l ∷ d) (Memᴰ.append_right c (here (sym e)))))
repeated_after (m ∷ c) l d (there i) = to_true (or_r (holds m (c ++ l ∷ d)) (repeated (c ++ l ∷ d)) (of_true (repeated_after c l d i)))
repeated_after [] l d x' = elim x' [ ]

pub opposed_after : (c : Clause) (l : ℤ) (d : Clause) → Memᴰ (neg_ℤ l) c → opposed (c ++ l ∷ d) ≡ true
unfolding opposed
opposed_after c l d i = to_true (mem_opposes (c ++ l ∷ d) (c ++ l ∷ d) l (Memᴰ.append_right c (here refl)) (Memᴰ.append_left (l ∷ d) i))

-- a proper clause with the literals of a pair is the pair, or the pair turned
pub two_of : (u v : ℤ) (d : Clause) → Proper d → Same (u ∷ v ∷ []) d → u ≢ v → (d ≡ u ∷ v ∷ []) ⊎ (d ≡ v ∷ u ∷ [])
two_of u v d p s n = by_length d s (same_length (u ∷ v ∷ []) d pair p s)
  where
    in_first : Memᴰ u d
    in_first = s.0 u (here refl)

    in_second : Memᴰ v d
    in_second = s.0 v (there (here refl))

    pair : Proper (u ∷ v ∷ [])
    pair = (
      proper_literal d p u in_first,
      λ i. n (Memᴰ.eq_of_singleton i),
      λ i. proper_unopposed d p u in_first (Memᴰ.cast (Memᴰ.eq_of_singleton i) in_second),
      (proper_literal d p v in_second, Memᴰ.not-nil, Memᴰ.not-nil, tt),
    )

    by_members : (x y : ℤ) → Memᴰ u (x ∷ y ∷ []) → Memᴰ v (x ∷ y ∷ []) → (x ∷ y ∷ [] ≡ u ∷ v ∷ []) ⊎ (x ∷ y ∷ [] ≡ v ∷ u ∷ [])
    by_members x y (here e) (here f) = absurd (n (e ∙ sym f))
    by_members x y (here e) (there j) = let f = Memᴰ.eq_of_singleton j in inl (ap₂ (λ (a b : ℤ). a ∷ b ∷ []) (sym e) (sym f))
    by_members x y (there i) (here f) = let e = Memᴰ.eq_of_singleton i in inr (ap₂ (λ (a b : ℤ). a ∷ b ∷ []) (sym f) (sym e))
    by_members x y (there i) (there j) = absurd (n (Memᴰ.eq_of_singleton i ∙ sym (Memᴰ.eq_of_singleton j)))

    by_length : (c : Clause) → Same (u ∷ v ∷ []) c → length (u ∷ v ∷ []) ≡ length c → (c ≡ u ∷ v ∷ []) ⊎ (c ≡ v ∷ u ∷ [])
    by_length [] s e = absurd (omega arith)
    by_length (x ∷ []) s e = absurd (omega arith)
    by_length (x ∷ y ∷ []) s e = by_members x y (s.0 u (here refl)) (s.0 v (there (here refl)))
    by_length (x ∷ y ∷ z ∷ c) s e = absurd (omega arith)

-- the sizes of choices
pub choice_size_within : (c : Clause) → T (choice_size c) → (5 ≤ length c) × (length c ≤ 64)
unfolding choice_size
choice_size_within c t = (leb→le 5 (length c) (and_l (leb 5 (length c)) (leb (length c) 64) t), leb→le (length c) 64 (and_r (leb 5 (length c)) (leb (length c) 64) t))
