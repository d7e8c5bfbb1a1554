-- The pairs of a clause: their literals, that they are different sets, and that all hold where at most one literal is true.
use mathlib.Core.Path.{◌≡◌, refl, sym, ◌∙◌}
use mathlib.Core.Logic.{◌≢◌, ⊎_elim}
use mathlib.Core.List.Memᴰ
use mathlib.Core.List.Memᴰ.{head as here}
use mathlib.Core.List.Memᴰ.{tail as there}
use mathlib.Core.List.{[], ◌∷◌, map, Memᴰ}
use Prim.Native.Nat.{◌+◌, ◌≤◌}
use native.Mathlib.Omega.{arith}
use lib.IntN.{ℤ, pos, neg_ℤ, neg_ℤ-neg_ℤ}
use Rattle.definition.specs.Lists.{bit, count}
use Rattle.definition.specs.Literals.{Clause, Formula}
use Rattle.definition.specs.Assignments.{Assignment, true_in, trues}
use Rattle.definition.specs.Counter.{pairs}
use Rattle.theory_base.proofs.Members.{turn}
use Rattle.theory_base.specs.Clauses.{Same, Proper, Absent}
use Rattle.theory_base.proofs.Trues.{negated, Sat, sat-++}
use Rattle.theory_soundness.proofs.Removals.{Spread, spread-++}

-- ---- the pairs with one literal
abbrev pairs_with : ℤ → Clause → Formula
pairs_with a c = map (λ b. neg_ℤ a ∷ neg_ℤ b ∷ []) c

-- the clause d negates two different literals of c
pub record Pair (c d : Clause) : Type 0 where
  pub one : ℤ
  pub two : ℤ
  pub one_in : Memᴰ one c
  pub two_in : Memᴰ two c
  pub differ : two ≢ one
  pub is : d ≡ neg_ℤ one ∷ neg_ℤ two ∷ []

pairs_with_form : (a : ℤ) (c d : Clause) → Memᴰ d (pairs_with a c) → (b : ℤ) × Memᴰ b c × (d ≡ neg_ℤ a ∷ neg_ℤ b ∷ [])
pairs_with_form a (b ∷ c) d (here e) = (b, here refl, e)
pairs_with_form a (b ∷ c) d (there i) = let r = pairs_with_form a c d i in (r.0, there r.1, r.2)
pairs_with_form a [] d x' = elim x' [ ]

pub pair_form : (c : Clause) → Proper c → (d : Clause) → Memᴰ d (pairs c) → Pair c d
unfolding pairs
pair_form (a ∷ c) p d i =
    ⊎_elim
    (λ j.
    let r = pairs_with_form a c d j in
    record { one = a; two = r.0; one_in = here refl; two_in = there r.1; differ = λ e. p.1 (Memᴰ.cast (sym e) r.1); is = r.2 })
    (λ j.
    let r = pair_form c p.3 d j in
    record { one = r.one; two = r.two; one_in = there r.one_in; two_in = there r.two_in; differ = r.differ; is = r.is })
    (Memᴰ.append_cases (pairs_with a c) i)
pair_form [] p d i = elim i [ ]

-- each literal of a pair is the negation of a literal of the clause
pub pair_literal : {c d : Clause} → Pair c d → (x : ℤ) → Memᴰ x d → Memᴰ (neg_ℤ x) c
pair_literal {c} r x i = go (rw r.is at i)
  where
    go : Memᴰ x (neg_ℤ r.one ∷ neg_ℤ r.two ∷ []) → Memᴰ (neg_ℤ x) c
    go (here e) = Memᴰ.cast (turn x r.one e) r.one_in
    go (there (here e)) = Memᴰ.cast (turn x r.two e) r.two_in
    go (there (there x9)) = elim x9 [ ]

pub pairs_absent : (x : ℤ) (c : Clause) → Proper c → (Memᴰ (neg_ℤ x) c → ⊥) → Absent x (pairs c)
pairs_absent x c p n d i j = n (pair_literal (pair_form c p d i) x j)

-- ---- at most one true literal: every pair holds
pairs_with_hold : (σ : Assignment) (l : ℤ) (c : Clause) → l ≢ pos 0 → Proper c → bit (true_in σ l) + trues σ c ≤ 1 → Sat σ (pairs_with l c)
unfolding trues count
pairs_with_hold σ l [] z p h = tt
pairs_with_hold σ l (m ∷ c) z p h = (omega (arith, negated σ l z, negated σ m p.0), pairs_with_hold σ l c z p.3 (omega arith))

pub pairs_hold : (σ : Assignment) (c : Clause) → Proper c → trues σ c ≤ 1 → Sat σ (pairs c)
unfolding pairs trues count
pairs_hold σ [] p h = tt
pairs_hold σ (l ∷ c) p h = sat-++ σ (pairs_with l c) (pairs c) (pairs_with_hold σ l c p.0 p.3 h) (pairs_hold σ c p.3 (omega arith))

-- ---- two pairs of a proper clause are different sets
pairs_with_spread : (a : ℤ) (c : Clause) → (Memᴰ a c → ⊥) → Proper c → Spread (pairs_with a c)
pairs_with_spread a [] n p = tt
pairs_with_spread a (b ∷ c) n p = (λ k i s. no k (pairs_with_form a c k i) s, pairs_with_spread a c (λ i. n (there i)) p.3)
  where
    no : (k : Clause) → (y : ℤ) × Memᴰ y c × (k ≡ neg_ℤ a ∷ neg_ℤ y ∷ []) → Same (neg_ℤ a ∷ neg_ℤ b ∷ []) k → ⊥
    no k r s = go (rw r.2 at (s.0 (neg_ℤ b) (there (here refl))))
      where
        go : Memᴰ (neg_ℤ b) (neg_ℤ a ∷ neg_ℤ r.0 ∷ []) → ⊥
        go (here e) = n (here (sym (sym (neg_ℤ-neg_ℤ b) ∙ turn (neg_ℤ b) a e)))
        go (there (here e)) = p.1 (Memᴰ.cast (sym (neg_ℤ-neg_ℤ b) ∙ turn (neg_ℤ b) r.0 e) r.1)
        go (there (there x10)) = elim x10 [ ]

pub pairs_spread : (c : Clause) → Proper c → Spread (pairs c)
unfolding pairs
pairs_spread [] p = tt
pairs_spread (a ∷ c) p = spread-++ (pairs_with a c) (pairs c) (pairs_with_spread a c p.1 p.3) (pairs_spread c p.3) apart
  where
    apart : (d e : Clause) → Memᴰ d (pairs_with a c) → Memᴰ e (pairs c) → Same d e → ⊥
    apart d e i j s =
        let r = pairs_with_form a c d i in
        p.1 (Memᴰ.cast (sym (neg_ℤ-neg_ℤ a)) (pair_literal (pair_form c p.3 e j) (neg_ℤ a) (s.0 (neg_ℤ a) (rw r.2 (here refl)))))
