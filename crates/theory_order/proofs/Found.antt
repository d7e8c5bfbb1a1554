-- The deletions that end the order form of a choice find their clauses among the counter clauses, and take out those with the literals of the choice.
use mathlib.Core.Path.{◌≡◌, refl, sym, ap, subst}
use mathlib.Core.Logic.{⊎_elim}
use mathlib.Core.List.Memᴰ
use mathlib.Core.List.Memᴰ.{head as here}
use mathlib.Core.List.Memᴰ.{tail as there}
use mathlib.Core.List.{[], ◌∷◌, ◌++◌, Memᴰ}
use Prim.Native.Nat.{ℕ, suc, ◌+◌, ◌≤◌, ◌<◌}
use native.Mathlib.Decide.{ℕ_discrete}
use native.Mathlib.Omega.{arith}
use lib.IntN.{ℤ, pos, negsuc, neg_ℤ, neg_ℤ-neg_ℤ, nat_abs}
use lib.ListN.{length}
use Rattle.definition.specs.Lists.{bit, count}
use Rattle.definition.specs.Literals.{Clause, Formula}
use Rattle.definition.specs.Clearing.{times}
use Rattle.definition.specs.Events.{Choice}
use Rattle.definition.specs.Counter.{last_new, counter}
use Rattle.theory_base.proofs.Members.{same_clause, pair_turned, own, far, natAbs_neg, holds_false}
use Rattle.theory_base.specs.Clauses.{Same, Proper}
use Rattle.theory_base.proofs.Fitting.{UpTo}
use Rattle.theory_soundness.proofs.Times.{times-++, holds_same}
use Rattle.theory_soundness.proofs.Removals.{Removes, Spread, FoundAll, found_mono, removes_exist}
use Rattle.theory_soundness.specs.Removals.{take_all}
use Rattle.theory_soundness.proofs.Without.{Stands}
use Rattle.theory_soundness.proofs.Written.{InNone, not_in, in_none}
use Rattle.theory_counter.proofs.CounterClauses.{stage_2_from, stage_3_from, counter_from, Written, written, counter_is}
use Rattle.theory_counter.specs.Ready.{WellFormed}
use Rattle.theory_order.proofs.Recursive.{link_deletions, deletions_from, deletions, deletions_is}
use Rattle.theory_order.proofs.Deletions.{strange}

-- ---- the same literals in another order
rotated : (x y w : ℤ) → Same (x ∷ y ∷ w ∷ []) (y ∷ w ∷ x ∷ [])
rotated x y w = (go, back)
  where
    go : (z : ℤ) → Memᴰ z (x ∷ y ∷ w ∷ []) → Memᴰ z (y ∷ w ∷ x ∷ [])
    go z (here e) = there (there (here e))
    go z (there (here e)) = here e
    go z (there (there (here e))) = there (here e)
    go z (there (there (there x13))) = elim x13 [ ]

    back : (z : ℤ) → Memᴰ z (y ∷ w ∷ x ∷ []) → Memᴰ z (x ∷ y ∷ w ∷ [])
    back z (here e) = there (here e)
    back z (there (here e)) = there (there (here e))
    back z (there (there (here e))) = here e
    back z (there (there (there x13))) = elim x13 [ ]

-- ---- the deletions are of different clauses
differs_by : (x : ℤ) (d : Clause) (D : Formula) → Memᴰ x d → InNone x D → (k : Clause) → Memᴰ k D → Same d k → ⊥
differs_by x d D m n k i s = in_none x D n k i (s.0 x m)

links_spread : (h : ℕ) (m : ℤ) (c : Clause) → Proper (m ∷ c) → UpTo h (m ∷ c) → Spread (link_deletions h (m ∷ c))
links_spread h m [] a b =
    let o = b m (here refl) in (
      differs_by m (m ∷ pos (suc h) ∷ []) ((neg_ℤ m ∷ negsuc h ∷ []) ∷ []) (here refl) ((own m a.0, (far m (negsuc h) (omega arith), tt)), tt),
      ((λ k i s. absurd (Memᴰ.not-nil i)), tt),
    )
links_spread h m (k ∷ c) a b =
    let o = b m (here refl) in
    let o' : nat_abs (neg_ℤ m) ≤ suc h = rw natAbs_neg (omega arith) in
    let n = strange (neg_ℤ m) (suc h) (k ∷ c) o' a.2 (rw neg_ℤ-neg_ℤ a.1) in (
      differs_by m (m ∷ negsuc (suc h) ∷ pos (suc h) ∷ []) ((neg_ℤ m ∷ pos (suc (suc h)) ∷ []) ∷ (neg_ℤ m ∷ negsuc h ∷ []) ∷ link_deletions (suc h) (k ∷ c)) (here refl) (
        (own m a.0, (far m (pos (suc (suc h))) (omega arith), tt)),
        ((own m a.0, (far m (negsuc h) (omega arith), tt)), strange m (suc h) (k ∷ c) (omega arith) a.1 a.2),
      ),
      (
        second o' n,
        (
          differs_by (neg_ℤ m) (neg_ℤ m ∷ negsuc h ∷ []) (link_deletions (suc h) (k ∷ c)) (here refl) n,
          links_spread (suc h) k c a.3 (λ x i. omega (arith, b x (there i))),
        ),
      ),
    )
  where
    second : nat_abs (neg_ℤ m) ≤ suc h → InNone (neg_ℤ m) (link_deletions (suc h) (k ∷ c)) → (d : Clause) → Memᴰ d ((neg_ℤ m ∷ negsuc h ∷ []) ∷ link_deletions (suc h) (k ∷ c)) →
        Same (neg_ℤ m ∷ pos (suc (suc h)) ∷ []) d → ⊥
    second o n d (here e) s =
        not_in (pos (suc (suc h))) (neg_ℤ m ∷ negsuc h ∷ []) (λ q. far (neg_ℤ m) (pos (suc (suc h))) (omega arith) (sym q), (λ q. far (negsuc h) (pos (suc (suc h))) (omega arith) (sym q), tt))
        (rw e at (s.0 (pos (suc (suc h))) (there (here refl))))
    second o n d (there i) s = differs_by (neg_ℤ m) (neg_ℤ m ∷ pos (suc (suc h)) ∷ []) (link_deletions (suc h) (k ∷ c)) (here refl) n d i s

deletions_spread : (h : ℕ) (l m : ℤ) (c : Clause) → Proper (l ∷ m ∷ c) → UpTo h (l ∷ m ∷ c) → Spread (deletions_from h l (m ∷ c))
deletions_spread h l m c a b =
    let o = b l (here refl) in
    let o' : nat_abs (neg_ℤ l) ≤ h = rw natAbs_neg o in
    let n = strange (neg_ℤ l) h (m ∷ c) o' a.2 (rw neg_ℤ-neg_ℤ a.1) in (
      differs_by l (l ∷ negsuc h ∷ []) ((neg_ℤ l ∷ pos (suc h) ∷ []) ∷ link_deletions h (m ∷ c)) (here refl)
          ((own l a.0, (far l (pos (suc h)) (omega arith), tt)), strange l h (m ∷ c) o a.1 a.2),
      (differs_by (neg_ℤ l) (neg_ℤ l ∷ pos (suc h) ∷ []) (link_deletions h (m ∷ c)) (here refl) n, links_spread h m c a.3 (λ x i. b x (there i))),
    )

-- ---- and each is of a counter clause
links_found : (h : ℕ) (m : ℤ) (c : Clause) → FoundAll (link_deletions h (m ∷ c)) (stage_2_from h (m ∷ c) ++ stage_3_from h (m ∷ c))
links_found h m [] = (
  (pos (suc h) ∷ m ∷ [], there (here refl), pair_turned m (pos (suc h))),
  ((neg_ℤ m ∷ negsuc h ∷ [], here refl, same_clause (neg_ℤ m ∷ negsuc h ∷ [])), tt),
)
links_found h m (k ∷ c) =
    let A = stage_2_from (suc h) (k ∷ c) in (
      (negsuc (suc h) ∷ pos (suc h) ∷ m ∷ [], here refl, rotated m (negsuc (suc h)) (pos (suc h))),
      (
        (pos (suc (suc h)) ∷ neg_ℤ m ∷ [], there (there (here refl)), pair_turned (neg_ℤ m) (pos (suc (suc h)))),
        (
          (neg_ℤ m ∷ negsuc h ∷ [], there (there (there (Memᴰ.append_right A (here refl)))), same_clause (neg_ℤ m ∷ negsuc h ∷ [])),
          found_mono (link_deletions (suc h) (k ∷ c)) (A ++ stage_3_from (suc h) (k ∷ c)) (stage_2_from h (m ∷ k ∷ c) ++ stage_3_from h (m ∷ k ∷ c))
              (λ e i. there (there (there (⊎_elim (λ j. Memᴰ.append_left (stage_3_from h (m ∷ k ∷ c)) j) (λ j. Memᴰ.append_right A (there j)) (Memᴰ.append_cases A i)))))
              (links_found (suc h) k c),
        ),
      ),
    )

deletions_found : (h : ℕ) (l m : ℤ) (c : Clause) → FoundAll (deletions_from h l (m ∷ c)) (counter_from h l (m ∷ c))
deletions_found h l m c = (
  (negsuc h ∷ l ∷ [], here refl, pair_turned l (negsuc h)),
  (
    (pos (suc h) ∷ neg_ℤ l ∷ [], there (here refl), pair_turned (neg_ℤ l) (pos (suc h))),
    found_mono (link_deletions h (m ∷ c)) (stage_2_from h (m ∷ c) ++ stage_3_from h (m ∷ c)) (counter_from h l (m ∷ c)) (λ e i. there (there i)) (links_found h m c),
  ),
)

-- ---- a literal of a variable up to h stands in as many of them as of the counter clauses
links_times : (x : ℤ) (h : ℕ) (m : ℤ) (c : Clause) → nat_abs x ≤ h →
    times x (stage_2_from h (m ∷ c)) + times x (stage_3_from h (m ∷ c)) ≡ times x (link_deletions h (m ∷ c))
unfolding times count
links_times x h m [] b =
    omega (arith, holds_same x (m ∷ pos (suc h) ∷ []) (pos (suc h) ∷ m ∷ []) (pair_turned m (pos (suc h))))
links_times x h m (k ∷ c) b =
    omega (
      arith,
      holds_same x (m ∷ negsuc (suc h) ∷ pos (suc h) ∷ []) (negsuc (suc h) ∷ pos (suc h) ∷ m ∷ []) (rotated m (negsuc (suc h)) (pos (suc h))),
      holds_same x (neg_ℤ m ∷ pos (suc (suc h)) ∷ []) (pos (suc (suc h)) ∷ neg_ℤ m ∷ []) (pair_turned (neg_ℤ m) (pos (suc (suc h)))),
      ap bit (holds_false x (pos (suc (suc h)) ∷ negsuc h ∷ []) (not_in x (pos (suc (suc h)) ∷ negsuc h ∷ []) (far x (pos (suc (suc h))) (omega arith), (far x (negsuc h) (omega arith), tt)))),
      links_times x (suc h) k c (omega arith),
    )

deletions_times : (x : ℤ) (h : ℕ) (l m : ℤ) (c : Clause) → nat_abs x ≤ h → times x (counter_from h l (m ∷ c)) ≡ times x (deletions_from h l (m ∷ c))
unfolding times count
deletions_times x h l m c b =
    omega (
      arith,
      holds_same x (l ∷ negsuc h ∷ []) (negsuc h ∷ l ∷ []) (pair_turned l (negsuc h)),
      holds_same x (neg_ℤ l ∷ pos (suc h) ∷ []) (pos (suc h) ∷ neg_ℤ l ∷ []) (pair_turned (neg_ℤ l) (pos (suc h))),
      times-++ x (stage_2_from h (m ∷ c)) (stage_3_from h (m ∷ c)),
      links_times x h m c b,
    )

-- ---- every new variable stands in a counter clause
stage_3_new : (n h : ℕ) (m : ℤ) (c : Clause) → h < n → n ≤ h + length (m ∷ c) → Stands n (stage_3_from h (m ∷ c))
stage_3_new n h m [] lo hi = (neg_ℤ m ∷ negsuc h ∷ [], here refl, negsuc h, there (here refl), omega arith)
stage_3_new n h m (k ∷ c) lo hi = go (ℕ_discrete (suc h) n) (λ b. stage_3_new n (suc h) k c b (omega arith))
  where
    go : Dec (suc h ≡ n) → (suc h < n → Stands n (stage_3_from (suc h) (k ∷ c))) → Stands n (stage_3_from h (m ∷ k ∷ c))
    go (yes e) ih = (neg_ℤ m ∷ negsuc h ∷ [], here refl, negsuc h, there (here refl), e)
    go (no e) ih = let r = ih (omega arith) in (r.0, there r.1, r.2, r.3, r.4)

-- ---- in the definition's words
module _ (k : Choice) (u : WellFormed k) where
  w : Written k
  w = written k u.long

  pub removes_deletions : (A B : Formula) → Removes (A ++ (counter k ++ B)) (deletions k) (take_all (A ++ (counter k ++ B)) (deletions k))
  removes_deletions A B =
      removes_exist (deletions k) (A ++ (counter k ++ B))
      (rw (deletions_is w) (deletions_spread k.below w.one w.two w.others (rw w.are at u.proper) (subst (UpTo k.below) w.are (λ x i. (u.fit x i).1))))
      (found_mono (deletions k) (counter k) (A ++ (counter k ++ B)) (λ e i. Memᴰ.append_right A (Memᴰ.append_left B i))
      (rw (deletions_is w, counter_is w) (deletions_found k.below w.one w.two w.others)))

  pub counter_times : (x : ℤ) → nat_abs x ≤ k.below → times x (counter k) ≡ times x (deletions k)
  counter_times x b =
      rw (deletions_is w, counter_is w) (deletions_times x k.below w.one w.two w.others b)

  pub counter_stands : (n : ℕ) → k.below < n → n ≤ last_new k → Stands n (counter k)
  unfolding last_new
  counter_stands n lo hi =
      let r = stage_3_new n k.below w.two w.others lo (omega (arith, ap length w.are)) in
      rw (counter_is w) (r.0, there (there (Memᴰ.append_right (stage_2_from k.below (w.two ∷ w.others)) r.1)), r.2, r.3, r.4)
