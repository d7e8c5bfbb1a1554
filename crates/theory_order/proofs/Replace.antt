-- A clause with its negated choice literals replaced: under the counter clauses it has as many true literals; which literals it has.
use mathlib.Core.Path.{◌≡◌, refl, sym, ◌∙◌, ap}
use mathlib.Core.Logic.{◌≢◌, ◌⊎◌, inl, inr, ⊎_elim}
use mathlib.Core.Bool.{Bool, true, false, cond}
use mathlib.Core.List.Memᴰ
use mathlib.Core.List.Memᴰ.{head as here}
use mathlib.Core.List.Memᴰ.{tail as there}
use mathlib.Core.List.{[], ◌∷◌, Memᴰ}
use Prim.Native.Nat.{ℕ, suc, ◌+◌, ◌≤◌}
use native.Mathlib.Omega.{arith}
use lib.IntN.{ℤ, pos, negsuc, neg_ℤ, neg_ℤ-neg_ℤ, nat_abs}
use lib.ListN.{length}
use Rattle.definition.specs.Lists.{bit, count}
use Rattle.definition.specs.Literals.{Clause, same, opposed}
use Rattle.definition.specs.Assignments.{Assignment, true_in, trues}
use Rattle.definition.specs.Events.{Choice}
use Rattle.definition.specs.Counter.{last_new, counter}
use Rattle.definition.specs.Order.{replaced}
use Rattle.theory_base.proofs.Tests.{of_true, bit_not}
use Rattle.theory_base.proofs.Members.{same_eq, unlike, turn, opposes_mem}
use Rattle.theory_base.specs.Clauses.{Proper, FitAll}
use Rattle.theory_base.proofs.Fitting.{fit_up, Between}
use Rattle.theory_base.proofs.Trues.{negated, trues-++, trues_at, Sat, sat_left, sat_right}
use Rattle.theory_counter.proofs.CounterClauses.{stage_2_from, stage_3_from, counter_from, Written, written, counter_is}
use Rattle.theory_counter.specs.Ready.{WellFormed}
use Rattle.theory_order.proofs.Recursive.{link_instead, instead_from, replaced_from, replaced_is}

-- the negation of a literal is looked for
negation_of : (x m : ℤ) → same (neg_ℤ x) m ≡ true → x ≡ neg_ℤ m
negation_of x m e = sym (neg_ℤ-neg_ℤ x) ∙ ap neg_ℤ (same_eq (neg_ℤ x) m (of_true e))

by_literal : (P : Clause → Type 0) (x m : ℤ) (u w : Clause) → (x ≡ neg_ℤ m → P u) → P w → P (cond (same (neg_ℤ x) m) u w)
by_literal P x m u w f g = go (same (neg_ℤ x) m) refl
  where
    go : (b : Bool) → same (neg_ℤ x) m ≡ b → P (cond b u w)
    go true e = f (negation_of x m e)
    go false e = g

-- ---- as many true literals
module _ (σ : Assignment) where
  abbrev AsMany : ℤ → Clause → Type 0
  AsMany x d = trues σ d ≡ bit (true_in σ x)

  link_trues : (h : ℕ) (m : ℤ) (c : Clause) (x : ℤ) → Proper (m ∷ c) → Sat σ (stage_2_from h (m ∷ c)) → Sat σ (stage_3_from h (m ∷ c)) →
      AsMany x (link_instead h (m ∷ c) x)
  unfolding trues count true_in
  link_trues h m [] x a s t =
      by_literal (AsMany x) x m (pos (suc h) ∷ []) (x ∷ [])
      (λ e. rw e (omega (arith, negated σ m a.0, bit_not (σ (suc h)), t.0, t.1.0))) (omega arith)
  link_trues h m (n ∷ c) x a s t =
      by_literal (AsMany x) x m (pos (suc h) ∷ negsuc (suc h) ∷ []) (link_instead (suc h) (n ∷ c) x)
      (λ e. rw e (omega (arith, negated σ m a.0, bit_not (σ (suc h)), bit_not (σ (suc (suc h))), s.0, s.1.0, s.1.1.0, t.0)))
      (link_trues (suc h) n c x a.3 s.1.1.1 t.1)

  module _ (h : ℕ) (l m : ℤ) (c : Clause) (a : Proper (l ∷ m ∷ c)) (s : Sat σ (counter_from h l (m ∷ c))) where
    instead_trues : (x : ℤ) → AsMany x (instead_from h l (m ∷ c) x)
    unfolding trues count true_in
    instead_trues x =
        by_literal (AsMany x) x l (negsuc h ∷ []) (link_instead h (m ∷ c) x)
        (λ e. rw e (omega (arith, negated σ l a.0, bit_not (σ (suc h)), s.0, s.1.0)))
        (link_trues h m c x a.3 (sat_left σ (stage_2_from h (m ∷ c)) (stage_3_from h (m ∷ c)) s.1.1) (sat_right σ (stage_2_from h (m ∷ c)) (stage_3_from h (m ∷ c)) s.1.1))

    replaced_from_trues : (d : Clause) → trues σ (replaced_from h l (m ∷ c) d) ≡ trues σ d
    unfolding trues count
    replaced_from_trues [] = refl
    replaced_from_trues (x ∷ d) =
        omega (arith, trues-++ σ (instead_from h l (m ∷ c) x) (replaced_from h l (m ∷ c) d), instead_trues x, replaced_from_trues d)

-- a clause with a literal and its negation has a true literal
pub opposed_trues : (σ : Assignment) (c : Clause) → ((x : ℤ) → Memᴰ x c → x ≢ pos 0) → opposed c ≡ true → 1 ≤ trues σ c
unfolding opposed
opposed_trues σ c z e =
    let r = opposes_mem c c (of_true e) in
    omega (arith, trues_at σ r.1, trues_at σ r.2, negated σ r.0 (z r.0 r.1))

-- ---- a literal of the result is an old one, and no negated choice literal, or a counter literal
abbrev pub NoNegated : Clause → ℤ → Type 0
NoNegated c z = (x : ℤ) → Memᴰ x c → z ≢ neg_ℤ x

no_negated : (m : ℤ) (c : Clause) (y : ℤ) → same (neg_ℤ y) m ≡ false → NoNegated c y → NoNegated (m ∷ c) y
no_negated m c y e n x (here q) = λ k. unlike (neg_ℤ y) m e (turn y m (k ∙ ap neg_ℤ q))
no_negated m c y e n x (there i) = n x i

link_mem : (h : ℕ) (m : ℤ) (c : Clause) (y z : ℤ) → Memᴰ z (link_instead h (m ∷ c) y) → ((z ≡ y) × NoNegated (m ∷ c) y) ⊎ Between (suc h) (h + length (m ∷ c)) z
link_mem h m [] y z i = go (same (neg_ℤ y) m) refl i
  where
    go : (b : Bool) → same (neg_ℤ y) m ≡ b → Memᴰ z (cond b (pos (suc h) ∷ []) (y ∷ [])) → ((z ≡ y) × NoNegated (m ∷ []) y) ⊎ Between (suc h) (h + length (m ∷ [])) z
    go true e (here q) = inr (rw q (omega arith))
    go false e (here q) = inl (q, no_negated m [] y e (λ x j. absurd (Memᴰ.not-nil j)))
    go false e (there x7) = elim x7 [ ]
    go true e (there x8) = elim x8 [ ]
link_mem h m (k ∷ c) y z i = go (same (neg_ℤ y) m) refl i (link_mem (suc h) k c y z)
  where
    go : (b : Bool) → same (neg_ℤ y) m ≡ b → Memᴰ z (cond b (pos (suc h) ∷ negsuc (suc h) ∷ []) (link_instead (suc h) (k ∷ c) y)) →
        (Memᴰ z (link_instead (suc h) (k ∷ c) y) → ((z ≡ y) × NoNegated (k ∷ c) y) ⊎ Between (suc (suc h)) (suc h + length (k ∷ c)) z) →
        ((z ≡ y) × NoNegated (m ∷ k ∷ c) y) ⊎ Between (suc h) (h + length (m ∷ k ∷ c)) z
    go true e (here q) ih = inr (rw q (omega arith))
    go true e (there (here q)) ih = inr (rw q (omega arith))
    go false e j ih = ⊎_elim (λ p. inl (p.0, no_negated m (k ∷ c) y e p.1)) (λ p. inr (omega (arith, p.0, p.1))) (ih j)
    go true e (there (there x11)) ih = elim x11 [ ]

module _ (h : ℕ) (l m : ℤ) (c : Clause) where
  instead_mem : (y z : ℤ) → Memᴰ z (instead_from h l (m ∷ c) y) → ((z ≡ y) × NoNegated (l ∷ m ∷ c) y) ⊎ Between (suc h) (h + length (m ∷ c)) z
  instead_mem y z i = go (same (neg_ℤ y) l) refl i
    where
      go : (b : Bool) → same (neg_ℤ y) l ≡ b → Memᴰ z (cond b (negsuc h ∷ []) (link_instead h (m ∷ c) y)) → ((z ≡ y) × NoNegated (l ∷ m ∷ c) y) ⊎ Between (suc h) (h + length (m ∷ c)) z
      go true e (here q) = inr (rw q (omega arith))
      go false e j = ⊎_elim (λ p. inl (p.0, no_negated l (m ∷ c) y e p.1)) (λ p. inr p) (link_mem h m c y z j)
      go true e (there x5) = elim x5 [ ]

  replaced_mem : (d : Clause) (z : ℤ) → Memᴰ z (replaced_from h l (m ∷ c) d) → (Memᴰ z d × NoNegated (l ∷ m ∷ c) z) ⊎ Between (suc h) (h + length (m ∷ c)) z
  replaced_mem (y ∷ d) z i =
      ⊎_elim
      (λ j. ⊎_elim (λ p. inl (here p.0, rw p.0 p.1)) (λ p. inr p) (instead_mem y z j))
      (λ j. ⊎_elim (λ p. inl (there p.0, p.1)) (λ p. inr p) (replaced_mem d z j))
      (Memᴰ.append_cases (instead_from h l (m ∷ c) y) i)
  replaced_mem [] z i = elim i [ ]

-- ---- in the definition's words
module _ (k : Choice) (u : WellFormed k) where
  w : Written k
  w = written k u.long

  pub replaced_trues : (σ : Assignment) → Sat σ (counter k) → (d : Clause) → trues σ (replaced k d) ≡ trues σ d
  replaced_trues σ s d =
      rw (replaced_is w d)
      (replaced_from_trues σ k.below w.one w.two w.others (rw w.are at u.proper) (rw (counter_is w) at s) d)

  pub replaced_literal : (d : Clause) (z : ℤ) → Memᴰ z (replaced k d) → (Memᴰ z d × NoNegated k.literals z) ⊎ Between (suc k.below) (last_new k) z
  unfolding last_new
  replaced_literal d z i =
      ⊎_elim (λ p. inl (p.0, rw w.are p.1)) (λ p. inr (p.0, omega (arith, p.1, ap length w.are)))
      (replaced_mem k.below w.one w.two w.others d z (rw (replaced_is w d) at i))

  -- so one of a variable before the new ones stood in the old clause
  pub replaced_old : (d : Clause) (z : ℤ) → nat_abs z ≤ k.below → Memᴰ z (replaced k d) → Memᴰ z d
  replaced_old d z b i = ⊎_elim (λ p. p.0) (λ p. absurd (omega (arith, p.0))) (replaced_literal d z i)

  pub replaced_fit : (d : Clause) → FitAll k.below d → FitAll (last_new k) (replaced k d)
  unfolding last_new
  replaced_fit d f z i =
      ⊎_elim (λ p. fit_up (last_new k) k.below z (omega arith) (f z p.0)) (λ p. (λ e. omega (arith, p.0, ap nat_abs e), p.1)) (replaced_literal d z i)
