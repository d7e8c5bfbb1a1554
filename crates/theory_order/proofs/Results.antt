-- The result of a replacement never repeats a literal; it holds a literal and its negation exactly when the old clause holds the negations of two neighbours of the choice.
use mathlib.Core.Path.{◌≡◌, refl, sym, ◌∙◌, ap}
use mathlib.Core.Logic.{◌⊎◌, inl, inr, ⊎_elim, ◌↔◌}
use mathlib.Core.Bool.{Bool, true, false}
use mathlib.Core.List.Memᴰ
use mathlib.Core.List.Memᴰ.{head as here}
use mathlib.Core.List.Memᴰ.{tail as there}
use mathlib.Core.List.{[], ◌∷◌, ◌++◌, Memᴰ}
use mathlib.Core.Option.{Option, some, none}
use Prim.Native.Nat.{ℕ, zero, suc, ◌+◌, ◌-◌, ◌≤◌, ◌<◌}
use native.Mathlib.Omega.{arith}
use lib.Dec.{T, ltb}
use lib.IntN.{pos-ne-negsuc, ℤ, pos, neg_ℤ, neg_ℤ-neg_ℤ, nat_abs}
use borrow.Author.Tests.{lt-ltb}
use Rattle.definition.specs.Lists.{any, only_if, for_each}
use Rattle.definition.specs.Literals.{Clause, holds, opposed, repeated}
use Rattle.definition.specs.Events.{Choice}
use Rattle.definition.specs.Counter.{size, lit, new, last_new}
use Rattle.definition.specs.Order.{place_from, previous, negated_new, instead_of, replaced}
use Rattle.theory_base.proofs.Tests.{to_true, of_true, to_false, or_cases, or_l, or_r}
use Rattle.theory_base.proofs.Members.{holds_mem, mem_holds, proper_unopposed, opposes_mem, mem_opposes, natAbs_neg, turn, same_variable}
use Rattle.theory_base.specs.Clauses.{Proper}
use Rattle.theory_base.proofs.Fitting.{UpTo, Between}
use Rattle.theory_base.proofs.Places.{place_of, place_at}
use Rattle.theory_base.proofs.Loops.{only_if_mem, for_each_mem, mem_for_each}
use Rattle.theory_counter.specs.Ready.{WellFormed}
use Rattle.theory_order.proofs.Replace.{replaced_literal}

-- ---- the place of a literal

-- a literal's place in the choice
pub placed : (k : Choice) (m : ℤ) (p : ℕ) → place_from 1 m k.literals ≡ some p → (1 ≤ p) × (p ≤ size k) × (lit k p ≡ m)
unfolding lit size
placed k m p e =
    let r = place_of 1 m k.literals p e in
    let q : p - 1 ≡ r.0 = omega (arith, r.1) in
    (omega (arith, r.1), omega (arith, r.1, r.2), rw q r.3)

-- a literal is not the negation of another that is written without a sign
clash : (a b : ℕ) → 0 < b → pos a ≡ neg_ℤ (pos b) → ⊥
clash a zero h e = omega arith
clash a (suc n) h e = pos-ne-negsuc a n e

-- ---- clauses that repeat no literal
no_repeat-++ : (c d : Clause) → (T (repeated c) → ⊥) → (T (repeated d) → ⊥) → ((x : ℤ) → Memᴰ x c → Memᴰ x d → ⊥) → T (repeated (c ++ d)) → ⊥
unfolding repeated
no_repeat-++ [] d p q s t = q t
no_repeat-++ (l ∷ c) d p q s t =
    ⊎_elim
    (λ h. ⊎_elim (λ i. p (or_l (holds l c) (repeated c) (mem_holds l c i))) (s l (here refl)) (Memᴰ.append_cases c (holds_mem l (c ++ d) h)))
    (no_repeat-++ c d (λ r. p (or_r (holds l c) (repeated c) r)) q (λ x i. s x (there i)))
    (or_cases (holds l (c ++ d)) (repeated (c ++ d)) t)

no_repeat_one : (b : Bool) (x : ℤ) → T (repeated (only_if b (x ∷ []))) → ⊥
unfolding repeated holds any only_if
no_repeat_one true x t = t
no_repeat_one false x t = t

-- the old clause holds -li and -l(i+1)
pub record Neighbours (k : Choice) (d : Clause) : Type 0 where
  pub place : ℕ
  pub from_first : 0 < place
  pub before_last : place < size k
  pub one : Memᴰ (neg_ℤ (lit k place)) d
  pub next : Memᴰ (neg_ℤ (lit k (place + 1))) d

module _ (k : Choice) (u : WellFormed k) where
  of_lit : (p : ℕ) → 0 < p → p ≤ size k → place_from 1 (lit k p) k.literals ≡ some p
  unfolding lit size
  of_lit p h b = let q : 1 + (p - 1) ≡ p = omega arith in place_at 1 k.literals u.proper (p - 1) (omega arith) ∙ ap some q

  -- what stands for a literal
  abbrev instead : ℤ → Clause
  instead m = instead_of k m (place_from 1 (neg_ℤ m) k.literals)

  -- ---- which literal a counter literal stands for
  module _ (i : ℕ) (h : 0 < i) (m : ℤ) (b : nat_abs m ≤ k.below) where
    too_high : {x : ℤ} → nat_abs x ≡ k.below + i → x ≡ m → ⊥
    too_high e q = omega (arith, e, ap nat_abs q)

    negated_lit : {p : ℕ} → place_from 1 (neg_ℤ m) k.literals ≡ some p → m ≡ neg_ℤ (lit k p)
    negated_lit {p} e = sym (neg_ℤ-neg_ℤ m) ∙ ap neg_ℤ (sym (placed k (neg_ℤ m) p e).2)

    for_new : (o : Option ℕ) → place_from 1 (neg_ℤ m) k.literals ≡ o → Memᴰ (new k i) (instead_of k m o) → m ≡ neg_ℤ (lit k (i + 1))
    unfolding instead_of previous negated_new new
    for_new none e j = absurd (too_high refl (Memᴰ.eq_of_singleton j))
    for_new (some p) e j = ⊎_elim before after (Memᴰ.append_cases (previous k p) j)
      where
        before : Memᴰ (new k i) (previous k p) → m ≡ neg_ℤ (lit k (i + 1))
        before j =
            let r = only_if_mem (ltb 1 p) (new k (p - 1) ∷ []) (new k i) j in
            let v : k.below + i ≡ k.below + (p - 1) = ap nat_abs (Memᴰ.eq_of_singleton r.1) in
            let q : p ≡ i + 1 = omega arith in
            rw (← q) (negated_lit e)

        after : Memᴰ (new k i) (negated_new k p) → m ≡ neg_ℤ (lit k (i + 1))
        after j =
            let r = only_if_mem (ltb p (size k)) (neg_ℤ (new k p) ∷ []) (new k i) j in
            absurd (clash (k.below + i) (k.below + p) (omega (arith, (placed k (neg_ℤ m) p e).0)) (Memᴰ.eq_of_singleton r.1))

    for_negated : (o : Option ℕ) → place_from 1 (neg_ℤ m) k.literals ≡ o → Memᴰ (neg_ℤ (new k i)) (instead_of k m o) → m ≡ neg_ℤ (lit k i)
    unfolding instead_of previous negated_new new
    for_negated none e j = absurd (too_high (natAbs_neg (new k i)) (Memᴰ.eq_of_singleton j))
    for_negated (some p) e j = ⊎_elim before after (Memᴰ.append_cases (previous k p) j)
      where
        before : Memᴰ (neg_ℤ (new k i)) (previous k p) → m ≡ neg_ℤ (lit k i)
        before j =
            let r = only_if_mem (ltb 1 p) (new k (p - 1) ∷ []) (neg_ℤ (new k i)) j in
            absurd (clash (k.below + (p - 1)) (k.below + i) (omega arith) (sym (Memᴰ.eq_of_singleton r.1)))

        after : Memᴰ (neg_ℤ (new k i)) (negated_new k p) → m ≡ neg_ℤ (lit k i)
        after j =
            let r = only_if_mem (ltb p (size k)) (neg_ℤ (new k p) ∷ []) (neg_ℤ (new k i)) j in
            let v : k.below + i ≡ k.below + p = sym (natAbs_neg (new k i)) ∙ ap nat_abs (Memᴰ.eq_of_singleton r.1) ∙ natAbs_neg (new k p) in
            let q : p ≡ i = omega arith in
            rw (← q) (negated_lit e)

  -- a new literal is a counter variable or its negation
  by_new : {P : Type 0} (y : ℤ) → Between (suc k.below) (last_new k) y → ((i : ℕ) → 0 < i → i < size k → (y ≡ new k i) ⊎ (y ≡ neg_ℤ (new k i)) → P) → P
  unfolding new last_new size
  by_new y r g =
      let i = nat_abs y - k.below in
      let e : nat_abs y ≡ k.below + i = omega (arith, r.0) in
      g i (omega (arith, r.0)) (omega (arith, r.0, r.1, u.long)) (same_variable y (new k i) e)

  -- ---- two literals are never replaced by the same
  stands_for : (m y : ℤ) → Memᴰ y (instead m) → (y ≡ m) ⊎ Between (suc k.below) (last_new k) y
  unfolding replaced for_each
  stands_for m y j = ⊎_elim (λ p. inl (Memᴰ.eq_of_singleton p.0)) inr (replaced_literal k u (m ∷ []) y (Memᴰ.append_left [] j))

  module _ (m n y : ℤ) (a : nat_abs m ≤ k.below) (b : nat_abs n ≤ k.below) (p : Memᴰ y (instead m)) (q : Memᴰ y (instead n)) where
    same_origin : m ≡ n
    same_origin = ⊎_elim (λ e. ⊎_elim (λ o. sym e ∙ o) (λ r. absurd (omega (arith, r.0, ap nat_abs e))) (stands_for n y q)) (λ r. by_new y r fresh) (stands_for m y p)
      where
        fresh : (i : ℕ) → 0 < i → i < size k → (y ≡ new k i) ⊎ (y ≡ neg_ℤ (new k i)) → m ≡ n
        fresh i h s (inl e) =
            for_new i h m a (place_from 1 (neg_ℤ m) k.literals) refl (Memᴰ.cast (sym e) p)
            ∙ sym (for_new i h n b (place_from 1 (neg_ℤ n) k.literals) refl (Memᴰ.cast (sym e) q))
        fresh i h s (inr e) =
            for_negated i h m a (place_from 1 (neg_ℤ m) k.literals) refl (Memᴰ.cast (sym e) p)
            ∙ sym (for_negated i h n b (place_from 1 (neg_ℤ n) k.literals) refl (Memᴰ.cast (sym e) q))

  instead_distinct : (m : ℤ) (o : Option ℕ) → place_from 1 (neg_ℤ m) k.literals ≡ o → T (repeated (instead_of k m o)) → ⊥
  unfolding instead_of previous negated_new new only_if
  instead_distinct m none e = no_repeat_one true m
  instead_distinct m (some p) e =
      no_repeat-++ (previous k p) (negated_new k p) (no_repeat_one (ltb 1 p) (new k (p - 1))) (no_repeat_one (ltb p (size k)) (neg_ℤ (new k p)))
      (λ x i j. clash (k.below + (p - 1)) (k.below + p) (omega (arith, (placed k (neg_ℤ m) p e).0))
      (sym (Memᴰ.eq_of_singleton (only_if_mem (ltb 1 p) (new k (p - 1) ∷ []) x i).1) ∙ Memᴰ.eq_of_singleton (only_if_mem (ltb p (size k)) (neg_ℤ (new k p) ∷ []) x j).1))

  none_twice : (d : Clause) → Proper d → UpTo k.below d → T (repeated (replaced k d)) → ⊥
  unfolding replaced for_each repeated
  none_twice [] a f = λ t. t
  none_twice (x ∷ d) a f =
      no_repeat-++ (instead x) (replaced k d) (instead_distinct x (place_from 1 (neg_ℤ x) k.literals) refl) (none_twice d a.3 (λ y i. f y (there i)))
      (λ y i j. let r = for_each_mem d instead y j in a.1 (Memᴰ.cast (same_origin x r.0 y (f x (here refl)) (f r.0 (there r.1)) i r.2) r.1))

  pub replaced_distinct : (d : Clause) → Proper d → UpTo k.below d → repeated (replaced k d) ≡ false
  replaced_distinct d a f = to_false (none_twice d a f)

  -- ---- a literal and its negation
  module _ (d : Clause) where
    negated_stays : (i : ℕ) → 0 < i → i < size k → Memᴰ (neg_ℤ (lit k i)) d → Memᴰ (neg_ℤ (new k i)) (replaced k d)
    unfolding replaced instead_of negated_new only_if
    negated_stays i h b j =
        mem_for_each d instead (neg_ℤ (lit k i)) (neg_ℤ (new k i)) j
        (rw (neg_ℤ-neg_ℤ, of_lit i h (omega arith)) (Memᴰ.append_right (previous k i) (rw (lt-ltb i (size k) b) (here refl))))

    new_stays : (i : ℕ) → 0 < i → i < size k → Memᴰ (neg_ℤ (lit k (i + 1))) d → Memᴰ (new k i) (replaced k d)
    unfolding replaced instead_of previous only_if
    new_stays i h b j =
        let q : i + 1 - 1 ≡ i = omega arith in
        mem_for_each d instead (neg_ℤ (lit k (i + 1))) (new k i) j
        (rw (neg_ℤ-neg_ℤ, of_lit (i + 1) (omega arith) (omega arith)) (Memᴰ.append_left {s = previous k (i + 1)} (negated_new k (i + 1)) (rw (lt-ltb 1 (i + 1) (omega arith), q) (here refl))))

    module _ (f : UpTo k.below d) where
      both_from : (i : ℕ) → 0 < i → i < size k → Memᴰ (new k i) (replaced k d) → Memᴰ (neg_ℤ (new k i)) (replaced k d) → Neighbours k d
      unfolding replaced
      both_from i h b p q =
          let r = for_each_mem d instead (new k i) p in
          let s = for_each_mem d instead (neg_ℤ (new k i)) q in
          record {
            place = i;
            from_first = h;
            before_last = b;
            one = Memᴰ.cast (sym (for_negated i h s.0 (f s.0 s.1) (place_from 1 (neg_ℤ s.0) k.literals) refl s.2)) s.1;
            next = Memᴰ.cast (sym (for_new i h r.0 (f r.0 r.1) (place_from 1 (neg_ℤ r.0) k.literals) refl r.2)) r.1;
          }

      opposed_neighbours : Proper d → (x : ℤ) → Memᴰ x (replaced k d) → Memᴰ (neg_ℤ x) (replaced k d) → Neighbours k d
      opposed_neighbours a x p q = ⊎_elim (λ r. absurd (old r.0)) fresh (replaced_literal k u d x p)
        where
          old : Memᴰ x d → ⊥
          old i = ⊎_elim (λ r. proper_unopposed d a x i r.0) (λ r. omega (arith, r.0, f x i, natAbs_neg x)) (replaced_literal k u d (neg_ℤ x) q)

          fresh : Between (suc k.below) (last_new k) x → Neighbours k d
          fresh r =
              by_new x r (λ i h b. ⊎_elim
              (λ s. both_from i h b (Memᴰ.cast (sym s) p) (Memᴰ.cast (ap neg_ℤ (sym s)) q))
              (λ s. both_from i h b (Memᴰ.cast (sym (turn x (new k i) s)) q) (Memᴰ.cast (sym s) p)))

      pub opposed_exactly : Proper d → (opposed (replaced k d) ≡ true) ↔ Neighbours k d
      unfolding opposed
      opposed_exactly a = (
        λ e. let r = opposes_mem (replaced k d) (replaced k d) (of_true e) in opposed_neighbours a r.0 r.1 r.2,
        λ n. to_true (mem_opposes (replaced k d) (replaced k d) (new k n.place) (new_stays n.place n.from_first n.before_last n.next) (negated_stays n.place n.from_first n.before_last n.one)),
      )
