-- Which variables clash: what a clearing changes about it, and that the lowest is cleared first.
use mathlib.Core.Path.{◌≡◌, refl, sym, ap}
use mathlib.Core.Logic.{inl, inr, ⊎_elim}
use mathlib.Core.Bool.{true, false, not, ◌&&◌, ◌||◌}
use mathlib.Core.List.Memᴰ
use mathlib.Core.List.{[], ◌∷◌, Memᴰ}
use mathlib.Core.Option.{Option, some, none}
use Prim.Native.Nat.{ℕ, zero, suc, ◌≤◌, ◌<◌}
use native.Mathlib.Omega.{arith}
use lib.Dec.{T, eqb, eqb→eq, eqb_refl}
use lib.IntN.{ℤ, pos, neg_ℤ, nat_abs}
use lib.ListN.{length}
use borrow.Author.Tests.{eqb-false}
use Rattle.definition.specs.Literals.{Clause, Formula, holds, opposed, highest_of}
use Rattle.definition.specs.Standing.{after}
use Rattle.definition.specs.Events.{Clash, clash_cleared}
use Rattle.definition.specs.Clearing.{unique, clash_at, lowest_clash, resolvent, clash_lines, clear_next, clear_up_to, clear_clashes}
use Rattle.theory_base.proofs.Tests.{to_true, of_true, to_false, of_false, not_true, differ, and_l, and_r, and_i, or_cases, or_l, or_r, each_way, by_test}
use Rattle.theory_base.proofs.Members.{any_mem, mem_any, holds_mem, mem_holds, natAbs_neg, same_variable}
use Rattle.theory_base.specs.Clauses.{ProperAll, Absent}
use Rattle.theory_base.proofs.Loops.{none_first_from, some_first_from}
use Rattle.theory_base.proofs.Fitting.{highest_of_at, literal_between}
use Rattle.theory_clearing.proofs.Clash.{IsClash, Ulc, InParents, after_proper, after_shorter, v_gone, opposed_gone, ulc_before, ulc_after, resolvent_ulc}
use Rattle.theory_clearing.proofs.Clashes.{clash_at_some, clash_at_none, lowest_some, empty_none}
use Rattle.theory_clearing.specs.Clashing.{found, clashes, in_ulc, mentions, ends}

-- ---- what is found
found_some : {A : Type 0} (o : Option A) → found o ≡ true → (x : A) × (o ≡ some x)
found_some none t = differ {b = true} tt (sym t)
found_some (some x) t = (x, refl)

found_none : {A : Type 0} (o : Option A) → found o ≡ false → o ≡ none
found_none none t = refl
found_none (some x) t = differ {b = true} tt t

pub clashes_some : (F : Formula) (v : ℕ) → clashes F v ≡ true → (c : Clash) × (clash_at F v ≡ some c)
clashes_some F v = found_some (clash_at F v)

-- ---- a variable clashes exactly if it and its negation stand in ULCs
clashes_ulcs : (F : Formula) (v : ℕ) → T (clashes F v) → Ulc F (pos v) × Ulc F (neg_ℤ (pos v))
clashes_ulcs F v t =
    let s = clashes_some F v (to_true t) in
    let r = clash_at_some F v s.0 s.1 in
    let q = r.1 in (
      (s.0.one, q.one_stands, q.one_unique, Memᴰ.cast (sym r.0) q.one_holds),
      (s.0.other, q.other_stands, q.other_unique, Memᴰ.cast (ap neg_ℤ (sym r.0)) q.other_holds),
    )

ulcs_clash : (F : Formula) → ProperAll F → (v : ℕ) → Ulc F (pos v) → Ulc F (neg_ℤ (pos v)) → T (clashes F v)
ulcs_clash F p v a b = by_test (clashes F v) of_true
    (λ e. absurd (clash_at_none F p v (found_none (clash_at F v) e) a.0 b.0 a.1 b.1 a.2 b.2 a.3 b.3))

in_ulc_ulc : (F : Formula) (x : ℤ) → T (in_ulc F F x) → Ulc F x
in_ulc_ulc F x t =
    let r = any_mem (λ c. holds x c && unique F c) F t in
    (r.0, r.1, and_r (holds x r.0) _ r.2, holds_mem x r.0 (and_l (holds x r.0) _ r.2))

ulc_in_ulc : (F : Formula) (x : ℤ) → Ulc F x → T (in_ulc F F x)
ulc_in_ulc F x (k, i, t, j) = mem_any (λ c. holds x c && unique F c) F k i (and_i (holds x k) (unique F k) (mem_holds x k j) t)

pub clashes_both : (F : Formula) → ProperAll F → (v : ℕ) → clashes F v ≡ (in_ulc F F (pos v) && in_ulc F F (neg_ℤ (pos v)))
clashes_both F p v = each_way
    (λ t. let r = clashes_ulcs F v t in and_i (in_ulc F F (pos v)) _ (ulc_in_ulc F (pos v) r.0) (ulc_in_ulc F (neg_ℤ (pos v)) r.1))
    (λ t. ulcs_clash F p v (in_ulc_ulc F (pos v) (and_l (in_ulc F F (pos v)) _ t)) (in_ulc_ulc F (neg_ℤ (pos v)) (and_r (in_ulc F F (pos v)) _ t)))

-- ---- the variables of A and B
pub mentions_mem : (d : Clause) (n : ℕ) → T (mentions d n) → (x : ℤ) × Memᴰ x d × (nat_abs x ≡ n)
mentions_mem d n t = let r = any_mem (λ l. eqb (nat_abs l) n) d t in (r.0, r.1, eqb→eq (nat_abs r.0) n r.2)

pub mem_mentions : (d : Clause) (x : ℤ) → Memᴰ x d → T (mentions d (nat_abs x))
mem_mentions d x i = mem_any (λ l. eqb (nat_abs l) (nat_abs x)) d x i (eqb_refl (nat_abs x))

mentions_parents : (c : Clash) (n : ℕ) → T (mentions c.one n || mentions c.other n) → (x : ℤ) × InParents c x × (nat_abs x ≡ n)
mentions_parents c n t = ⊎_elim
    (λ u. let r = mentions_mem c.one n u in (r.0, inl r.1, r.2))
    (λ u. let r = mentions_mem c.other n u in (r.0, inr r.1, r.2))
    (or_cases (mentions c.one n) _ t)

parents_mentions : (c : Clash) (x : ℤ) → InParents c x → T (mentions c.one (nat_abs x) || mentions c.other (nat_abs x))
parents_mentions c x (inl i) = or_l (mentions c.one (nat_abs x)) _ (mem_mentions c.one x i)
parents_mentions c x (inr i) = or_r (mentions c.one (nat_abs x)) _ (mem_mentions c.other x i)

-- ---- what a clearing changes
module _ (F : Formula) (c : Clash) (p : ProperAll F) (q : IsClash F c) where
  -- a literal of a variable whose clash ends stands nowhere after
  ended_gone : (n : ℕ) → T (ends c n) → (x : ℤ) × (nat_abs x ≡ n) × Absent x (after F (clash_lines c))
  ended_gone n t = by_test (opposed (resolvent c))
      (λ e. let r = mentions_parents c n (rw e at t) in (r.0, r.2, opposed_gone F c p q e r.0 r.1))
      (λ e. (c.v, eqb→eq (nat_abs c.v) n (rw e at t), v_gone F c p q))

  ended_no_clash : (n : ℕ) → Ulc (after F (clash_lines c)) (pos n) × Ulc (after F (clash_lines c)) (neg_ℤ (pos n)) → T (ends c n) → ⊥
  ended_no_clash n u t =
      let g = ended_gone n t in
      ⊎_elim (λ e. g.2 u.0.0 u.0.1 (Memᴰ.cast e u.0.3)) (λ e. g.2 u.1.0 u.1.1 (Memᴰ.cast e u.1.3)) (same_variable g.0 (pos n) g.1)

  -- the other literals stay in ULCs
  ulc_stays : (x : ℤ) → ends c (nat_abs x) ≡ false → Ulc F x → Ulc (after F (clash_lines c)) x
  ulc_stays x h u = ⊎_elim
      (λ m. by_test (opposed (resolvent c))
      (λ e. differ (parents_mentions c x m) (rw e at h))
      (λ e. resolvent_ulc F c p q e x m (eqb-false (nat_abs c.v) (nat_abs x) (rw e at h))))
      (λ r. r)
      (ulc_after F c p q x u)

  -- a clearing makes no clash; it ends that of its variable and, where the resolvent is not added, those of all variables of A and B
  pub clashes_after : (n : ℕ) → clashes (after F (clash_lines c)) n ≡ (not (ends c n) && clashes F n)
  clashes_after n = each_way
      (λ t.
      let u = clashes_ulcs (after F (clash_lines c)) n t in
      and_i (not (ends c n)) (clashes F n) (of_false (to_false {b = ends c n} (ended_no_clash n u)))
      (ulcs_clash F p n (ulc_before F c p q (pos n) u.0) (ulc_before F c p q (neg_ℤ (pos n)) u.1)))
      (λ t.
      let e = not_true (and_l (not (ends c n)) (clashes F n) t) in
      let u = clashes_ulcs F n (and_r (not (ends c n)) (clashes F n) t) in
      ulcs_clash (after F (clash_lines c)) (after_proper F c p q) n (ulc_stays (pos n) e u.0) (ulc_stays (neg_ℤ (pos n)) (rw natAbs_neg e) u.1))

-- ---- the lowest variable that clashes is cleared first
up_to_none : (F : Formula) → lowest_clash F ≡ none → (n : ℕ) → clear_up_to n F ≡ []
unfolding clear_up_to clear_next
up_to_none F e zero = refl
up_to_none F e (suc n) = rw (e, clear_next)

-- more steps than clauses change nothing
up_to_enough : (m n : ℕ) (F : Formula) → ProperAll F → length F ≤ m → length F ≤ n → clear_up_to m F ≡ clear_up_to n F
unfolding clear_up_to clear_next
up_to_enough zero n F p a b = sym (up_to_none F (empty_none F a) n)
up_to_enough (suc m) zero F p a b = up_to_none F (empty_none F b) (suc m)
up_to_enough (suc m) (suc n) F p a b = go (lowest_clash F) refl (up_to_enough m n)
  where
    go : (o : Option Clash) → lowest_clash F ≡ o → ((G : Formula) → ProperAll G → length G ≤ m → length G ≤ n → clear_up_to m G ≡ clear_up_to n G) →
        clear_next (clear_up_to m) F o ≡ clear_next (clear_up_to n) F o
    go none e ih = refl
    go (some c) e ih =
        let q = lowest_some F c e in
        let s = after_shorter F c p q in
        rw (ih (after F (clash_lines c)) (after_proper F c p q) (omega arith) (omega arith))

up_to_some : (n : ℕ) (F : Formula) (c : Clash) → ProperAll F → IsClash F c → lowest_clash F ≡ some c → length F ≤ n →
    clear_up_to n F ≡ clash_cleared c ∷ clear_clashes (after F (clash_lines c))
unfolding clear_up_to clear_next clear_clashes
up_to_some zero F c p q e b = absurd (omega (arith, after_shorter F c p q))
up_to_some (suc n) F c p q e b =
    let s = after_shorter F c p q in
    rw (e, clear_next) (rw (up_to_enough n (length (after F (clash_lines c))) (after F (clash_lines c)) (after_proper F c p q) (omega arith) (omega arith)))

pub clear_clashes_at : (F : Formula) → ProperAll F → (v : ℕ) (c : Clash) → clash_at F v ≡ some c → ((k : ℕ) → k < v → clashes F k ≡ false) →
    clear_clashes F ≡ clash_cleared c ∷ clear_clashes (after F (clash_lines c))
unfolding clear_clashes lowest_clash
clear_clashes_at F p v c e low =
    let r = clash_at_some F v c e in
    let i = Memᴰ.cast (sym r.0) r.1.one_holds in
    let b = literal_between (p c.one r.1.one_stands, highest_of_at F c.one r.1.one_stands) (pos v) i in
    up_to_some (length F) F c p r.1 (some_first_from (clash_at F) 1 (highest_of F) v c b.0 (omega arith) (λ k _ l. found_none (clash_at F k) (low k l)) e) (omega arith)

pub clear_clashes_none : (F : Formula) → ((v : ℕ) → clashes F v ≡ false) → clear_clashes F ≡ []
unfolding clear_clashes lowest_clash
clear_clashes_none F h = up_to_none F (none_first_from (clash_at F) 1 (highest_of F) (λ k _ _. found_none (clash_at F k) (h k))) (length F)
