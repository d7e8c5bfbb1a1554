-- Clearing one clash: what stands after it, and that its lines are sound.
use mathlib.Core.Path.{◌≡◌, refl, sym, ◌∙◌, ap}
use mathlib.Core.Logic.{◌≢◌, ◌⊎◌, inl, inr, ⊎_elim}
use mathlib.Core.Bool.{Bool, true, false, not, ◌&&◌}
use mathlib.Core.List.Memᴰ
use mathlib.Core.List.Memᴰ.{head as here}
use mathlib.Core.List.Memᴰ.{tail as there}
use mathlib.Core.List.{List, [], ◌∷◌, ◌++◌, Memᴰ}
use Prim.Native.Nat.{ℕ, ◌+◌, ◌≤◌, ◌<◌}
use native.Mathlib.Omega.{arith}
use lib.Dec.{T}
use lib.IntN.{ℤ, pos, neg_ℤ, neg_ℤ-neg_ℤ, nat_abs}
use lib.ListN.{length, length-append}
use Rattle.definition.specs.Lists.{bit, only_if}
use Rattle.definition.specs.Literals.{Clause, Formula, holds, without, with_first, opposed}
use Rattle.definition.specs.Standing.{Line, addition, deletion, literals, take_out, after}
use Rattle.definition.specs.Assignments.{Assignment, trues, make_true}
use Rattle.definition.specs.Events.{Clash, Event}
use Rattle.definition.specs.Clearing.{times, unique, resolvent, clash_lines}
use Rattle.theory_base.proofs.Tests.{of_true, differ, by_test, second_fails}
use Rattle.theory_base.proofs.Members.{proper_literal, proper_unopposed, natAbs_neg, holds_false, opposes_mem, mem_opposes}
use Rattle.theory_base.specs.Clauses.{Same, Proper, ProperAll, Fits, Absent}
use Rattle.theory_base.proofs.Trues.{negated, trues_cons, trues_at, trues-++, Sat, sat_right}
use Rattle.theory_base.proofs.Removal.{Removed, takes, removed-++, removed_length, split, mem_removed, sat_less, sat_more, sat_of}
use Rattle.theory_base.proofs.Replay.{Leads, ends, adds, dels, leads_after}
use Rattle.theory_soundness.proofs.Sound.{Sound}
use Rattle.theory_soundness.proofs.Rules.{Clear, stays, absent_stays, add_implied, del_first, del_blocked}
use Rattle.theory_soundness.proofs.Times.{holds_yes, times_nil, times_cons, times-++, times_none, times_removed, none_times, unique_at, unique_some, at_unique, stays_in}
use Rattle.theory_soundness.proofs.Without.{without_mem, mem_without, first_same, without_proper, first_proper, trues_order, Known, clear_absent, proper-++}
use Rattle.theory_base.proofs.Fitting.{highest_le, LineFits}

-- ---- by true literals
-- v ∷ a is deleted, then -v ∷ b: v and -v stand nowhere else, and where a is all false, b holds
clash_deletes : {F E G H : Formula} {K L : List Event} {xs : List Line} (v : ℤ) (a b : Clause) → Removed (v ∷ a) F E → Removed (neg_ℤ v ∷ b) E G →
    Absent v G → Absent (neg_ℤ v) G → (Memᴰ (neg_ℤ v) b → ⊥) → ((σ : Assignment) → Sat σ G → trues σ a ≡ 0 → 1 ≤ trues σ b) → Clear v K →
    Sound G K xs H L → Sound F K (deletion (v ∷ a) ∷ deletion (neg_ℤ v ∷ b) ∷ xs) H L
clash_deletes {G = G} v a b r s up down only one k t =
    del_first r
    (λ σ u g. sat_more (make_true v σ) s
    (omega (arith, stays σ v b only, one σ (sat_less σ s u) (omega (arith, trues_cons σ v a)), trues_cons (make_true v σ) (neg_ℤ v) b))
    (absent_stays σ v G down (sat_less σ s u)))
    k
    (del_blocked s (rw neg_ℤ-neg_ℤ up) (λ d m x y. rw natAbs_neg (k d m x y)) t)

module _ (σ : Assignment) (v : ℤ) (a b : Clause) (z : v ≢ pos 0) where
  -- the resolvent follows
  resolvent_holds : 1 ≤ trues σ (v ∷ a) → 1 ≤ trues σ (neg_ℤ v ∷ b) → 1 ≤ trues σ (a ++ b)
  resolvent_holds p q = omega (arith, trues-++ σ a b, negated σ v z, trues_cons σ v a, trues_cons σ (neg_ℤ v) b)

  -- exactly one true literal in the resolvent: so in both
  parts_one : 1 ≤ trues σ (v ∷ a) → 1 ≤ trues σ (neg_ℤ v ∷ b) → trues σ (a ++ b) ≡ 1 → (trues σ (v ∷ a) ≡ 1) × (trues σ (neg_ℤ v ∷ b) ≡ 1)
  parts_one p q o = omega (arith, trues-++ σ a b, negated σ v z, trues_cons σ v a, trues_cons σ (neg_ℤ v) b)

-- ---- a clash of the formula
pub record IsClash (F : Formula) (c : Clash) : Type 0 where
  pub one_stands : Memᴰ c.one F
  pub one_holds : Memᴰ c.v c.one
  pub one_unique : T (unique F c.one)
  pub other_stands : Memᴰ c.other F
  pub other_holds : Memᴰ (neg_ℤ c.v) c.other
  pub other_unique : T (unique F c.other)

-- a ULC in which the literal stands
abbrev pub Ulc : Formula → ℤ → Type 0
Ulc F x = (k : Clause) × Memᴰ k F × T (unique F k) × Memᴰ x k

-- the literal is one of A's or B's
abbrev pub InParents : Clash → ℤ → Type 0
InParents c x = Memᴰ x c.one ⊎ Memᴰ x c.other

-- A without v and B without -v
abbrev rest_one : Clash → Clause
rest_one c = without c.v c.one

abbrev rest_other : Clash → Clause
rest_other c = without (neg_ℤ c.v) c.other

-- A with v first and B with -v first
abbrev first_one : Clash → Clause
first_one c = with_first c.v c.one

abbrev first_other : Clash → Clause
first_other c = with_first (neg_ℤ c.v) c.other

-- the formula without A and B
abbrev without_both : Formula → Clash → Formula
without_both F c = take_out (first_other c) (take_out (first_one c) F)

-- with the resolvent, unless that is opposed
abbrev with_resolvent : Formula → Clash → Bool → Formula
with_resolvent F c true = without_both F c
with_resolvent F c false = without_both F c ++ (resolvent c ∷ [])

-- a clause whose literals stand as often is still unique
unique_still : (F G : Formula) (d : Clause) → ((x : ℤ) → Memᴰ x d → times x G ≡ times x F) → T (unique F d) → T (unique G d)
unique_still F G d h t = at_unique G d (unique_some F d t) (λ x i. h x i ∙ unique_at F d t x i)

mem_some : {x : ℤ} {d : Clause} → Memᴰ x d → 1 ≤ length d
mem_some (here e) = omega arith
mem_some (there i) = omega arith

module _ (F : Formula) (c : Clash) (p : ProperAll F) (q : IsClash F c) where
  one_proper : Proper c.one
  one_proper = p c.one q.one_stands

  other_proper : Proper c.other
  other_proper = p c.other q.other_stands

  v_literal : c.v ≢ pos 0
  v_literal = proper_literal c.one one_proper c.v q.one_holds

  one_same : Same (first_one c) c.one
  one_same = first_same c.v c.one q.one_holds

  other_same : Same (first_other c) c.other
  other_same = first_same (neg_ℤ c.v) c.other q.other_holds

  one_removed : Removed (first_one c) F (take_out (first_one c) F)
  one_removed = takes (first_one c) c.one F q.one_stands one_same

  -- no literal of A stands in what is left
  one_gone : (x : ℤ) → Memᴰ x c.one → Absent x (take_out (first_one c) F)
  one_gone x i = none_times x (take_out (first_one c) F)
      (omega (arith, unique_at F c.one q.one_unique x i, times_removed x one_removed, ap bit (holds_yes x (first_one c) (one_same.1 x i))))

  other_still : Memᴰ c.other (take_out (first_one c) F)
  other_still = stays_in (neg_ℤ c.v) one_removed q.other_stands q.other_holds
      (λ i. proper_unopposed c.one one_proper c.v q.one_holds (one_same.0 (neg_ℤ c.v) i))

  other_removed : Removed (first_other c) (take_out (first_one c) F) (without_both F c)
  other_removed = takes (first_other c) c.other (take_out (first_one c) F) other_still other_same

  -- the literals of B too
  other_gone : (x : ℤ) → Memᴰ x c.other → Absent x (without_both F c)
  other_gone x i = none_times x (without_both F c)
      (omega (
        arith,
        unique_at F c.other q.other_unique x i,
        times_removed x one_removed,
        times_removed x other_removed,
        ap bit (holds_yes x (first_other c) (other_same.1 x i)),
      ))

  clash_leads : (t : Bool) → opposed (resolvent c) ≡ t → Leads F (clash_lines c) (with_resolvent F c t)
  unfolding clash_lines only_if
  clash_leads true e = rw e (dels one_removed (dels other_removed ends))
  clash_leads false e = rw e (adds (dels (removed-++ (resolvent c ∷ []) one_removed) (dels (removed-++ (resolvent c ∷ []) other_removed) ends)))

  clash_after : (t : Bool) → opposed (resolvent c) ≡ t → after F (clash_lines c) ≡ with_resolvent F c t
  clash_after t e = leads_after (clash_leads t e)

  -- each clause that stands after stood before, or is the resolvent
  after_mem : (d : Clause) → Memᴰ d (after F (clash_lines c)) → Memᴰ d (without_both F c) ⊎ ((d ≡ resolvent c) × (opposed (resolvent c) ≡ false))
  after_mem d i = go (opposed (resolvent c)) refl
    where
      go : (t : Bool) → opposed (resolvent c) ≡ t → Memᴰ d (without_both F c) ⊎ ((d ≡ resolvent c) × (opposed (resolvent c) ≡ false))
      go true e = inl (rw (clash_after true e) at i)
      go false e = ⊎_elim (λ j. inl j) (λ j. inr (Memᴰ.eq_of_singleton j, e)) (Memᴰ.append_cases (without_both F c) (rw (clash_after false e) at i))

  stood_before : (d : Clause) → Memᴰ d (without_both F c) → Memᴰ d F
  stood_before d i = mem_removed one_removed (mem_removed other_removed i)

  resolvent_mem : (x : ℤ) → Memᴰ x (resolvent c) → Memᴰ x (rest_one c) ⊎ Memᴰ x (rest_other c)
  unfolding resolvent
  resolvent_mem x i = Memᴰ.append_cases (rest_one c) i

  -- v and -v are not in the resolvent
  pub v_unresolved : Memᴰ c.v (resolvent c) → ⊥
  v_unresolved i =
      ⊎_elim (λ j. (without_mem c.v c.one c.v j).1 refl)
      (λ j. proper_unopposed c.other other_proper c.v (without_mem (neg_ℤ c.v) c.other c.v j).0 q.other_holds)
      (resolvent_mem c.v i)

  pub negation_unresolved : Memᴰ (neg_ℤ c.v) (resolvent c) → ⊥
  negation_unresolved i =
      ⊎_elim (λ j. proper_unopposed c.one one_proper c.v q.one_holds (without_mem c.v c.one (neg_ℤ c.v) j).0)
      (λ j. (without_mem (neg_ℤ c.v) c.other (neg_ℤ c.v) j).1 refl)
      (resolvent_mem (neg_ℤ c.v) i)

  -- and stand nowhere any more
  after_absent : (x : ℤ) → Absent x (without_both F c) → (Memᴰ x (resolvent c) → ⊥) → Absent x (after F (clash_lines c))
  after_absent x l a d i j = ⊎_elim (λ k. l d k j) (λ k. a (rw k.0 at j)) (after_mem d i)

  pub v_gone : Absent c.v (after F (clash_lines c))
  v_gone = after_absent c.v (λ d i. one_gone c.v q.one_holds d (mem_removed other_removed i)) v_unresolved

  pub negation_gone : Absent (neg_ℤ c.v) (after F (clash_lines c))
  negation_gone = after_absent (neg_ℤ c.v) (other_gone (neg_ℤ c.v) q.other_holds) negation_unresolved

  -- the literals of the resolvent are A's or B's, so they stood in a ULC; and those that stand after stood before
  pub resolvent_parents : (x : ℤ) → Memᴰ x (resolvent c) → InParents c x
  resolvent_parents x i =
      ⊎_elim (λ n. inl (without_mem c.v c.one x n).0) (λ n. inr (without_mem (neg_ℤ c.v) c.other x n).0) (resolvent_mem x i)

  resolvent_before : (x : ℤ) → Memᴰ x (resolvent c) → Ulc F x
  resolvent_before x i =
      ⊎_elim (λ n. (c.one, q.one_stands, q.one_unique, n)) (λ n. (c.other, q.other_stands, q.other_unique, n)) (resolvent_parents x i)

  pub literals_before : (d : Clause) → Memᴰ d (after F (clash_lines c)) → (x : ℤ) → Memᴰ x d → (k : Clause) × Memᴰ k F × Memᴰ x k
  literals_before d i x j =
      ⊎_elim (λ k. (d, stood_before d k, j)) (λ k. let r = resolvent_before x (rw k.0 at j) in (r.0, r.1, r.3)) (after_mem d i)

  resolvent_proper : opposed (resolvent c) ≡ false → Proper (resolvent c)
  unfolding resolvent opposed
  resolvent_proper e =
      proper-++ (rest_one c) (rest_other c) (without_proper c.v c.one one_proper) (without_proper (neg_ℤ c.v) c.other other_proper)
      (λ x i j. one_gone x (without_mem c.v c.one x i).0 c.other other_still (without_mem (neg_ℤ c.v) c.other x j).0)
      (λ x i j. differ (mem_opposes (resolvent c) (resolvent c) x (Memᴰ.append_left (rest_other c) i) (Memᴰ.append_right (rest_one c) j)) e)

  pub after_proper : ProperAll (after F (clash_lines c))
  after_proper d i = ⊎_elim (λ k. p d (stood_before d k)) (λ k. rw k.0 (resolvent_proper k.1)) (after_mem d i)

  pub after_fits : (h : ℕ) → Fits h F → Fits h (after F (clash_lines c))
  after_fits h f d i x j = let k = literals_before d i x j in f k.0 k.1 x k.2

  pub after_shorter : length (after F (clash_lines c)) < length F
  after_shorter = go (opposed (resolvent c)) refl
    where
      go : (t : Bool) → opposed (resolvent c) ≡ t → length (after F (clash_lines c)) < length F
      go true e = omega (arith, removed_length one_removed, removed_length other_removed, ap length (clash_after true e))
      go false e = omega (arith, removed_length one_removed, removed_length other_removed, ap length (clash_after false e), length-append (without_both F c) (resolvent c ∷ []))

  -- an opposed resolvent: a literal of A whose negation is in B
  opposite : T (opposed (resolvent c)) → (m : ℤ) × Memᴰ m (rest_one c) × Memᴰ (neg_ℤ m) (rest_other c)
  unfolding opposed
  opposite t = let r = opposes_mem (resolvent c) (resolvent c) t in go r.0 (resolvent_mem r.0 r.1) (resolvent_mem (neg_ℤ r.0) r.2)
    where
      go : (m : ℤ) → Memᴰ m (rest_one c) ⊎ Memᴰ m (rest_other c) →
          Memᴰ (neg_ℤ m) (rest_one c) ⊎ Memᴰ (neg_ℤ m) (rest_other c) →
          (m : ℤ) × Memᴰ m (rest_one c) × Memᴰ (neg_ℤ m) (rest_other c)
      go m (inl i) (inl j) = absurd (proper_unopposed c.one one_proper m (without_mem c.v c.one m i).0 (without_mem c.v c.one (neg_ℤ m) j).0)
      go m (inl i) (inr j) = (m, i, j)
      go m (inr i) (inl j) = (neg_ℤ m, j, Memᴰ.cast (neg_ℤ-neg_ℤ m) i)
      go m (inr i) (inr j) = absurd (proper_unopposed c.other other_proper m (without_mem (neg_ℤ c.v) c.other m i).0 (without_mem (neg_ℤ c.v) c.other (neg_ℤ m) j).0)

  -- where A without v is all false, B without -v holds
  opposite_holds : (σ : Assignment) → T (opposed (resolvent c)) → trues σ (rest_one c) ≡ 0 → 1 ≤ trues σ (rest_other c)
  opposite_holds σ t n =
      let o = opposite t in
      omega (
        arith,
        trues_at σ o.1,
        trues_at σ o.2,
        negated σ o.0 (proper_literal c.one one_proper o.0 (without_mem c.v c.one o.0 o.1).0),
      )

  -- A and B follow
  parents_hold : (σ : Assignment) → Sat σ F → (1 ≤ trues σ (first_one c)) × (1 ≤ trues σ (first_other c))
  parents_hold σ s = (sat_of σ one_removed s, sat_of σ other_removed (sat_less σ one_removed s))

  pub clash_sound : {h : ℕ} {H : Formula} {K L : List Event} {xs : List Line} → nat_abs c.v ≤ h → Known h K (after F (clash_lines c)) →
      Sound (after F (clash_lines c)) K xs H L → Sound F K (clash_lines c ++ xs) H L
  unfolding clash_lines only_if with_first resolvent
  clash_sound {h} {H} {K} {L} {xs} b w s = go (opposed (resolvent c)) refl
    where
      clear : Clear c.v K
      clear = clear_absent h c.v K (after F (clash_lines c)) w b v_gone negation_gone

      only : Memᴰ (neg_ℤ c.v) (rest_other c) → ⊥
      only i = (without_mem (neg_ℤ c.v) c.other (neg_ℤ c.v) i).1 refl

      go : (t : Bool) → opposed (resolvent c) ≡ t →
          Sound F K ((only_if (not t) (addition (resolvent c) ∷ []) ++ (deletion (first_one c) ∷ deletion (first_other c) ∷ [])) ++ xs) H L
      go true e =
          clash_deletes c.v (rest_one c) (rest_other c) one_removed other_removed
          (rw (clash_after true e) at v_gone) (rw (clash_after true e) at negation_gone) only
          (λ σ u n. opposite_holds σ (of_true e) n) clear (rw (clash_after true e) at s)
      go false e =
          add_implied (λ σ u. resolvent_holds σ c.v (rest_one c) (rest_other c) v_literal (parents_hold σ u).0 (parents_hold σ u).1)
          (clash_deletes c.v (rest_one c) (rest_other c) (removed-++ (resolvent c ∷ []) one_removed) (removed-++ (resolvent c ∷ []) other_removed)
          (rw (clash_after false e) at v_gone) (rw (clash_after false e) at negation_gone) only
          (λ σ u n. omega (arith, trues-++ σ (rest_one c) (rest_other c), (sat_right σ (without_both F c) (resolvent c ∷ []) u).0))
          clear (rw (clash_after false e) at s))

  -- exactly one true literal in the resolvent: so in A and in B
  pub parents_one : (σ : Assignment) → Sat σ F → trues σ (resolvent c) ≡ 1 → (trues σ c.one ≡ 1) × (trues σ c.other ≡ 1)
  unfolding with_first resolvent
  parents_one σ s o =
      let h = parents_hold σ s in
      let r = parts_one σ c.v (rest_one c) (rest_other c) v_literal h.0 h.1 o in (
        sym (trues_order σ (first_one c) c.one (first_proper c.v c.one one_proper q.one_holds) one_proper one_same) ∙ r.0,
        sym (trues_order σ (first_other c) c.other (first_proper (neg_ℤ c.v) c.other other_proper q.other_holds) other_proper other_same) ∙ r.1,
      )

  -- its lines are proper clauses of the variables up to h
  pub clash_lines_fit : {h : ℕ} → Fits h F → (x : Line) → Memᴰ x (clash_lines c) → LineFits h x
  unfolding clash_lines only_if literals
  clash_lines_fit {h} f x i = go (opposed (resolvent c)) refl i
    where
      deleted : Memᴰ x (deletion (first_one c) ∷ deletion (first_other c) ∷ []) → LineFits h x
      deleted (here e) = rw e (first_proper c.v c.one one_proper q.one_holds, highest_le h (first_one c) (λ y j. (f c.one q.one_stands y (one_same.0 y j)).1))
      deleted (there (here e)) = rw e
          (first_proper (neg_ℤ c.v) c.other other_proper q.other_holds, highest_le h (first_other c) (λ y j. (f c.other q.other_stands y (other_same.0 y j)).1))
      deleted (there (there x9)) = elim x9 [ ]

      go : (t : Bool) → opposed (resolvent c) ≡ t →
          Memᴰ x (only_if (not t) (addition (resolvent c) ∷ []) ++ (deletion (first_one c) ∷ deletion (first_other c) ∷ [])) → LineFits h x
      go true t j = deleted j
      go false t (here e) = rw e (resolvent_proper t, highest_le h (resolvent c) (λ y j. let k = resolvent_before y j in (f k.0 k.1 y k.3).1))
      go false t (there j) = deleted j

  -- ---- the ULCs before and after
  -- no literal of A or B stands in what is left
  parents_gone : (x : ℤ) → InParents c x → Absent x (without_both F c)
  parents_gone x m d i = ⊎_elim (λ j. one_gone x j d (mem_removed other_removed i)) (λ j. other_gone x j d i) m

  -- each clause that stands after stood before and has none of their literals, or is the resolvent
  pub stood_apart : (d : Clause) → Memᴰ d (after F (clash_lines c)) → (Memᴰ d F × ((x : ℤ) → Memᴰ x d → InParents c x → ⊥)) ⊎ ((d ≡ resolvent c) × (opposed (resolvent c) ≡ false))
  stood_apart d i = ⊎_elim (λ k. inl (stood_before d k, λ x j m. parents_gone x m d k j)) (λ k. inr k) (after_mem d i)

  -- where the resolvent is not added, they stand nowhere any more
  pub opposed_gone : opposed (resolvent c) ≡ true → (x : ℤ) → InParents c x → Absent x (after F (clash_lines c))
  opposed_gone e x m = rw (clash_after true e) (parents_gone x m)

  after_times : (x : ℤ) (t : Bool) → opposed (resolvent c) ≡ t → times x (after F (clash_lines c)) ≡ times x (without_both F c) + bit (not t && holds x (resolvent c))
  after_times x true e = omega (arith, ap (times x) (clash_after true e))
  after_times x false e =
      omega (arith, ap (times x) (clash_after false e), times-++ x (without_both F c) (resolvent c ∷ []), times_cons x (resolvent c) [], times_nil x)

  -- the literals of the other clauses stand as often as before
  others_times : (d : Clause) → Memᴰ d (without_both F c) → (x : ℤ) → Memᴰ x d → times x (after F (clash_lines c)) ≡ times x F
  others_times d m x n =
      omega (
        arith,
        times_removed x one_removed,
        times_removed x other_removed,
        after_times x (opposed (resolvent c)) refl,
        ap bit (holds_false x (first_one c) (λ k. absent (inl (one_same.0 x k)))),
        ap bit (holds_false x (first_other c) (λ k. absent (inr (other_same.0 x k)))),
        ap bit (second_fails (not (opposed (resolvent c))) (holds x (resolvent c)) (holds_false x (resolvent c) (λ k. absent (resolvent_parents x k)))),
      )
    where
      absent : InParents c x → ⊥
      absent k = parents_gone x k d m n

  -- a literal of a ULC that stands after stood in one before
  pub ulc_before : (x : ℤ) → Ulc (after F (clash_lines c)) x → Ulc F x
  ulc_before x (d, i, t, j) =
      ⊎_elim
      (λ m. (d, stood_before d m, unique_still (after F (clash_lines c)) F d (λ y n. sym (others_times d m y n)) t, j))
      (λ m. resolvent_before x (rw m.0 at j))
      (after_mem d i)

  -- a clause that stands before stands after, or is A or B
  parent_or_left : (d : Clause) → Memᴰ d F → (x : ℤ) → Memᴰ x d → InParents c x ⊎ Memᴰ d (without_both F c)
  parent_or_left d i x j =
      ⊎_elim (λ s. inl (inl (one_same.0 x (s.1 x j))))
      (λ k. ⊎_elim (λ s. inl (inr (other_same.0 x (s.1 x j)))) (λ m. inr m) (split other_removed k))
      (split one_removed i)

  after_left : (d : Clause) → Memᴰ d (without_both F c) → Memᴰ d (after F (clash_lines c))
  after_left d m =
      by_test (opposed (resolvent c)) (λ e. rw (clash_after true e) m) (λ e. rw (clash_after false e) (Memᴰ.append_left (resolvent c ∷ []) m))

  -- a literal of a ULC that stands before stands in one after, or is A's or B's
  pub ulc_after : (x : ℤ) → Ulc F x → InParents c x ⊎ Ulc (after F (clash_lines c)) x
  ulc_after x (d, i, t, j) =
      ⊎_elim (λ m. inl m)
      (λ m. inr (d, after_left d m, unique_still F (after F (clash_lines c)) d (others_times d m) t, j))
      (parent_or_left d i x j)

  -- the literals of A and B other than v and -v stand in the resolvent, a ULC
  in_resolvent : (x : ℤ) → InParents c x → nat_abs c.v ≢ nat_abs x → Memᴰ x (resolvent c)
  unfolding resolvent
  in_resolvent x (inl i) n = ⊎_elim (λ e. absurd (n (ap nat_abs (sym e)))) (λ j. Memᴰ.append_left (rest_other c) j) (mem_without c.v c.one x i)
  in_resolvent x (inr i) n =
      ⊎_elim (λ e. absurd (n (sym (natAbs_neg c.v) ∙ ap nat_abs (sym e)))) (λ j. Memᴰ.append_right (rest_one c) j) (mem_without (neg_ℤ c.v) c.other x i)

  pub resolvent_ulc : opposed (resolvent c) ≡ false → (x : ℤ) → InParents c x → nat_abs c.v ≢ nat_abs x → Ulc (after F (clash_lines c)) x
  resolvent_ulc e x m n =
      let i = in_resolvent x m n in
      (resolvent c, rw (clash_after false e) (Memᴰ.append_right (without_both F c) (here refl)), at_unique (after F (clash_lines c)) (resolvent c) (mem_some i) once, i)
    where
      once : (y : ℤ) → Memᴰ y (resolvent c) → times y (after F (clash_lines c)) ≡ 1
      once y j = omega (arith, after_times y false e, times_none y (without_both F c) (parents_gone y (resolvent_parents y j)), ap bit (holds_yes y (resolvent c) j))
