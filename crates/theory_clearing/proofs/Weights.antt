-- The weights of literals when a clash is cleared: the literals of A and B stand in no other clause, so the others keep their sums, and the resolvent's first literal takes over what v and -v weigh, and 1.
use mathlib.Core.Path.{◌≡◌, refl, sym, ◌∙◌, ap, subst}
use mathlib.Core.Logic.{◌≢◌, ◌⊎◌, inl, inr, ⊎_elim}
use mathlib.Core.Bool.{true, false}
use mathlib.Core.List.Memᴰ
use mathlib.Core.List.Memᴰ.{head as here}
use mathlib.Core.List.Memᴰ.{tail as there}
use mathlib.Core.List.{List, [], ◌∷◌, ◌++◌, Memᴰ}
use Prim.Native.Nat.{ℕ, ◌+◌, ◌<◌}
use native.Mathlib.Omega.{arith}
use lib.IntN.{ℤ, neg_ℤ}
use lib.ListN.{length}
use Rattle.definition.specs.Lists.{sum_of}
use Rattle.definition.specs.Literals.{Clause, Formula, same_set, without, with_first, opposed}
use Rattle.definition.specs.Standing.{after}
use Rattle.definition.specs.Events.{Clash, Event, clash_cleared}
use Rattle.definition.specs.Clearing.{resolvent, clash_lines}
use Rattle.definition.specs.Reencoding.{count_after, resolved_into}
use Rattle.theory_base.proofs.Tests.{to_true, to_false, differ, of_true}
use Rattle.theory_base.proofs.Members.{same_set_same, same_same_set, same_clause}
use Rattle.theory_base.proofs.Sums.{sum-++, sum-≤}
use Rattle.theory_base.proofs.Clauses.{same_sum}
use Rattle.theory_base.specs.Clauses.{ProperAll}
use Rattle.theory_soundness.proofs.Times.{unique_some}
use Rattle.theory_soundness.proofs.Without.{first_same, first_proper}
use Rattle.theory_clearing.specs.Weights.{Weighs}
use Rattle.theory_clearing.proofs.Clash.{IsClash, InParents, stood_apart, resolvent_parents, v_unresolved, negation_unresolved, after_proper}

-- weights that agree on a clause have the same sum
same_weights : (v w : ℤ → ℕ) (d : Clause) → ((x : ℤ) → Memᴰ x d → v x ≡ w x) → sum_of v d ≡ sum_of w d
same_weights v w d h = omega (arith, sum-≤ v w d (λ x i. omega (arith, h x i)), sum-≤ w v d (λ x i. omega (arith, h x i)))

module _ (F : Formula) (c : Clash) (p : ProperAll F) (q : IsClash F c) (count : Clause → ℕ) where
  count_apart : (d : Clause) → 0 < length d → ((x : ℤ) → Memᴰ x d → InParents c x → ⊥) → count_after (clash_cleared c) count d ≡ count d
  unfolding count_after
  count_apart [] k a = absurd (omega arith)
  count_apart (y ∷ d) k a =
      let e : same_set (y ∷ d) (resolvent c) ≡ false = to_false (λ t. a y (here refl) (resolvent_parents F c p q y ((same_set_same (y ∷ d) (resolvent c) t).0 y (here refl)))) in
      rw e refl

  count_resolvent : count_after (clash_cleared c) count (resolvent c) ≡ count c.one + count c.other
  unfolding count_after
  count_resolvent = let e : same_set (resolvent c) (resolvent c) ≡ true = to_true (same_same_set (resolvent c) (resolvent c) (same_clause (resolvent c))) in rw e refl

  module _ (w : ℤ → ℕ) (h : Weighs count w F) where
    without_sum : (l : ℤ) (d : Clause) → Memᴰ d F → Memᴰ l d → w l + sum_of w (without l d) ≡ sum_of w d
    unfolding with_first sum_of
    without_sum l d i j = same_sum w (with_first l d) d (first_proper l d (p d i) j) (p d i) (first_same l d j)

    -- v and -v are not in the resolvent
    resolvent_sum : w c.v + w (neg_ℤ c.v) + sum_of w (resolvent c) + 2 ≡ count c.one + count c.other
    unfolding resolvent
    resolvent_sum =
        omega (
          arith,
          sum-++ w (without c.v c.one) (without (neg_ℤ c.v) c.other),
          without_sum c.v c.one q.one_stands q.one_holds,
          without_sum (neg_ℤ c.v) c.other q.other_stands q.other_holds,
          h c.one q.one_stands (unique_some F c.one q.one_unique),
          h c.other q.other_stands (unique_some F c.other q.other_unique),
        )

    -- a resolvent that is not added, or has no literal, changes nothing
    pub weighs_kept : (opposed (resolvent c) ≡ true) ⊎ (resolvent c ≡ []) → Weighs (count_after (clash_cleared c) count) w (after F (clash_lines c))
    weighs_kept n d i k = ⊎_elim (λ s. h d s.0 k ∙ sym (count_apart d k s.1)) (λ s. ⊎_elim (λ o. differ (of_true o) s.1) (λ e. absurd (omega (arith, ap length (s.0 ∙ e)))) n) (stood_apart F c p q d i)

    -- the first literal x of the resolvent takes over
    module _ (new : ℤ → ℕ) (x : ℤ) (r : Clause) (e : resolvent c ≡ x ∷ r) (g : new x ≡ w x + w c.v + w (neg_ℤ c.v) + 1)
        (o : (y : ℤ) → y ≢ x → y ≢ c.v → y ≢ neg_ℤ c.v → new y ≡ w y) where
      -- where A and B have no literal of a clause
      apart_sum : (d : Clause) → ((y : ℤ) → Memᴰ y d → InParents c y → ⊥) → sum_of new d ≡ sum_of w d
      apart_sum d a = same_weights new w d (λ y i. o y
          (λ n. a y i (resolvent_parents F c p q y (rw e (here n))))
          (λ n. a y i (inl (Memᴰ.cast n q.one_holds)))
          (λ n. a y i (inr (Memᴰ.cast n q.other_holds))))

      given_sum : Memᴰ (resolvent c) (after F (clash_lines c)) → sum_of new (resolvent c) ≡ w c.v + w (neg_ℤ c.v) + sum_of w (resolvent c) + 1
      unfolding sum_of
      given_sum i =
          let d = rw e at (after_proper F c p q (resolvent c) i) in
          let others : sum_of new r ≡ sum_of w r =
          same_weights new w r (λ y j. o y (λ n. d.1 (Memᴰ.cast (sym n) j))
          (λ n. v_unresolved F c p q (rw e (there (Memᴰ.cast (sym n) j)))) (λ n. negation_unresolved F c p q (rw e (there (Memᴰ.cast (sym n) j))))) in
          rw e (omega (arith, g, others))

      pub weighs_given : Weighs (count_after (clash_cleared c) count) new (after F (clash_lines c))
      weighs_given d i k = ⊎_elim
          (λ s. ap (λ (n : ℕ). n + 1) (apart_sum d s.1) ∙ h d s.0 k ∙ sym (count_apart d k s.1))
          (λ s. subst (λ (d : Clause). sum_of new d + 1 ≡ count_after (clash_cleared c) count d) (sym s.0) (omega (arith, given_sum (rw s.0 at i), resolvent_sum, count_resolvent)))
          (stood_apart F c p q d i)

-- ---- more events
pub resolved-++ : (count : Clause → ℕ) (xs ys : List Event) (d : Clause) → resolved_into count (xs ++ ys) d ≡ resolved_into (resolved_into count xs) ys d
unfolding resolved_into
resolved-++ count [] ys d = refl
resolved-++ count (e ∷ xs) ys d = resolved-++ (count_after e count) xs ys d
