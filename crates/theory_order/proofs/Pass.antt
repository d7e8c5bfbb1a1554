-- The pass of the order form over the clauses before the counter clauses: what it leaves and adds, and that every line is sound.
use mathlib.Core.Path.{◌≡◌, refl, sym, ◌∙◌}
use mathlib.Core.Logic.{◌≢◌, ◌⊎◌, inl}
use mathlib.Core.Bool.{Bool, true, false, cond, not}
use mathlib.Core.List.Memᴰ
use mathlib.Core.List.Memᴰ.{head as here}
use mathlib.Core.List.Memᴰ.{tail as there}
use mathlib.Core.List.{List, [], ◌∷◌, ◌++◌, Memᴰ, append_assoc, append-nil}
use Prim.Native.Nat.{ℕ, ◌+◌, ◌≤◌, ◌<◌}
use native.Mathlib.Omega.{arith}
use lib.IntN.{ℤ, pos, neg_ℤ, nat_abs}
use Rattle.definition.specs.Lists.{those, only_if, for_each}
use Rattle.definition.specs.Literals.{Clause, Formula, same_set, opposes, opposed}
use Rattle.definition.specs.Standing.{Line, addition, deletion}
use Rattle.definition.specs.Assignments.{Assignment, trues}
use Rattle.definition.specs.Events.{Choice, Event, clause_replaced}
use Rattle.definition.specs.Clearing.{times}
use Rattle.definition.specs.Counter.{counter}
use Rattle.definition.specs.Order.{replacement_lines, replaced, replace}
use Rattle.definition.specs.Reencoding.{GoesInto, as_old, later, lines_of, lines}
use Rattle.theory_base.proofs.Tests.{of_true, differ, to_false, not_true, of_false}
use Rattle.theory_base.proofs.Members.{those_mem, mem_those, same_set_same, same_clause, opposes_mem, mem_opposes}
use Rattle.theory_base.proofs.Clauses.{members_snoc}
use Rattle.theory_base.proofs.Trues.{Sat, sat_left, sat_right}
use Rattle.theory_base.proofs.Removal.{Removed, removed_at, removed-++, sat_less, sat_of}
use Rattle.theory_soundness.proofs.Sound.{Ones, Sound, weaken}
use Rattle.theory_soundness.proofs.Rules.{add_implied, del_implied}
use Rattle.theory_soundness.proofs.Times.{holds_bit, times_nil, times_cons}
use Rattle.theory_soundness.proofs.Without.{Stands, Known}
use Rattle.theory_base.proofs.Loops.{for_each_mem, only_if_mem}
use Rattle.theory_counter.specs.Ready.{WellFormed}
use Rattle.theory_order.proofs.Replace.{opposed_trues, replaced_trues, replaced_old}
use Rattle.theory_order.specs.Pass.{kept, results, added}

-- ---- one clause replaced by another that has as many true literals
module _ {F G : Formula} {K : List Event} {d r : Clause} (e : Removed d F G) (q : (σ : Assignment) → Sat σ G → trues σ r ≡ trues σ d) where
  replaced_ones : (σ : Assignment) → Sat σ F → Ones σ K → Ones σ (clause_replaced d r ∷ K)
  replaced_ones σ t o c i = go i.goes
    where
      go : {j : Choice} {b : Clause} → GoesInto j (clause_replaced d r ∷ K) b → trues σ b ≡ 1
      go {j} (as_old f g) = sym (q σ (sat_less σ e t)) ∙ o r (record { choice = j; goes = g })
      go {j} {b} (later g) = o b (record { choice = j; goes = g })

  replacement_sound : {H : Formula} {L : List Event} {xs : List Line} → ((x : ℤ) → Memᴰ x r → x ≢ pos 0) → Sound (G ++ only_if (not (opposed r)) (r ∷ [])) K xs H L →
      Sound F (clause_replaced d r ∷ K) (replacement_lines d r ++ xs) H L
  unfolding replacement_lines only_if
  replacement_sound {H} {L} {xs} z s = weaken replaced_ones (go (opposed r) refl s)
    where
      go : (b : Bool) → opposed r ≡ b → Sound (G ++ only_if (not b) (r ∷ [])) K xs H L → Sound F K ((only_if (not b) (addition r ∷ []) ++ (deletion d ∷ [])) ++ xs) H L
      go true o s = del_implied e (λ σ t. omega (arith, q σ t, opposed_trues σ r z o)) (rw (append-nil G) at s)
      go false o s =
          add_implied (λ σ t. omega (arith, q σ (sat_less σ e t), sat_of σ e t))
          (del_implied (removed-++ (r ∷ []) e) (λ σ t. omega (arith, q σ (sat_left σ G (r ∷ []) t), (sat_right σ G (r ∷ []) t).0)) s)

-- ---- a clause that holds a negated choice literal is found where no clause before it holds one
unlike_set : (c d k : Clause) → opposes c d ≡ true → opposes c k ≡ false → same_set d k ≡ false
unlike_set c d k t f =
    to_false (λ s. let r = opposes_mem c d (of_true t) in differ (mem_opposes c k r.0 r.1 ((same_set_same d k s).0 (neg_ℤ r.0) r.2)) f)

-- ---- what the pass leaves of the clauses gone through, and what it adds
module _ (k : Choice) where
  module _ (u : WellFormed k) (H : Formula) (K L : List Event) (ys : List Line) where
    abbrev PassSound : Formula → Formula → Formula → Type 0
    PassSound X F R =
        Sound ((X ++ kept k F) ++ (counter k ++ (R ++ added k F))) K ys H L →
        Sound ((X ++ F) ++ (counter k ++ R)) (for_each F (replace k) ++ K) (lines (for_each F (replace k)) ++ ys) H L

    -- X was gone through and left, F is still to come, R was added
    pub pass_sound : (X F R : Formula) → ((d : Clause) → Memᴰ d X → opposes k.literals d ≡ false) →
        ((d : Clause) → Memᴰ d F → (x : ℤ) → Memᴰ x (replaced k d) → x ≢ pos 0) → PassSound X F R
    unfolding those only_if for_each lines lines_of replace
    pass_sound X [] R v z = λ s. rw (append-nil R) at s
    pass_sound X (d ∷ F) R v z = go (opposes k.literals d) refl (λ Y S y. pass_sound Y F S y (λ e i. z e (there i)))
      where
        r : Clause
        r = replaced k d

        N : Formula
        N = only_if (not (opposed r)) (r ∷ [])

        es : List Event
        es = for_each F (replace k)

        as_many : (σ : Assignment) → Sat σ ((X ++ F) ++ (counter k ++ R)) → trues σ r ≡ trues σ d
        as_many σ t = replaced_trues k u σ (sat_left σ (counter k) R (sat_right σ (X ++ F) (counter k ++ R) t)) d

        go : (t : Bool) → opposes k.literals d ≡ t → ((Y S : Formula) → ((e : Clause) → Memᴰ e Y → opposes k.literals e ≡ false) → PassSound Y F S) →
            Sound ((X ++ cond (not t) (d ∷ kept k F) (kept k F)) ++ (counter k ++ (R ++ (only_if t N ++ added k F)))) K ys H L →
            Sound ((X ++ (d ∷ F)) ++ (counter k ++ R)) ((only_if t (clause_replaced d r ∷ []) ++ es) ++ K) (lines (only_if t (clause_replaced d r ∷ []) ++ es) ++ ys) H L
        go false t ih s =
            simp append_assoc
            (simp append_assoc at (ih (X ++ (d ∷ [])) R (members_snoc (λ e. opposes k.literals e ≡ false) X d v t) (simp append_assoc (simp append_assoc at s))))
        go true t ih s =
            rw (append_assoc (replacement_lines d r) (lines es) ys)
            (replacement_sound (removed-++ (counter k ++ R) (removed_at d d X F (same_clause d) (λ e i. unlike_set k.literals d e t (v e i)))) as_many (z d (here refl))
            (simp append_assoc (simp append_assoc at (ih X (R ++ N) v (simp append_assoc (simp append_assoc at s))))))

  -- ---- the clauses after the pass
  pub kept_mem : (F : Formula) (d : Clause) → Memᴰ d (kept k F) → Memᴰ d F × (opposes k.literals d ≡ false)
  kept_mem F d i = let r = those_mem (λ d. not (opposes k.literals d)) F d i in (r.0, not_true r.1)

  pub mem_kept : (F : Formula) (d : Clause) → Memᴰ d F → opposes k.literals d ≡ false → Memᴰ d (kept k F)
  mem_kept F d i e = mem_those (λ d. not (opposes k.literals d)) F d i (of_false e)

  pub added_mem : (F : Formula) (d : Clause) → Memᴰ d (added k F) → (c : Clause) × Memᴰ c F × (d ≡ replaced k c)
  added_mem F d i =
      let r = for_each_mem F (results k) d i in
      (r.0, r.1, Memᴰ.eq_of_singleton (only_if_mem (not (opposed (replaced k r.0))) _ d (only_if_mem (opposes k.literals r.0) _ d r.2).1).1)

  -- a literal of a variable before the new ones stands in no more clauses than before
  pub pass_times : WellFormed k → (x : ℤ) → nat_abs x ≤ k.below → (F : Formula) → times x (kept k F) + times x (added k F) ≤ times x F
  unfolding those for_each only_if
  pass_times u x b [] = omega (arith, times_nil x)
  pass_times u x b (d ∷ F) = go (opposes k.literals d) (opposed (replaced k d)) (pass_times u x b F)
    where
      go : (t q : Bool) → times x (kept k F) + times x (added k F) ≤ times x F →
          times x (cond (not t) (d ∷ kept k F) (kept k F)) + times x (only_if t (only_if (not q) (replaced k d ∷ [])) ++ added k F) ≤ times x (d ∷ F)
      go false q ih = omega (arith, times_cons x d F, times_cons x d (kept k F))
      go true true ih = omega (arith, times_cons x d F)
      go true false ih = omega (arith, times_cons x d F, times_cons x (replaced k d) (added k F), holds_bit x (replaced k d) d (replaced_old k u d x b))

  -- the variables of clauses that are replaced stand
  pub pass_known : (h : ℕ) (K : List Event) (G F : Formula) → ((d : Clause) → Memᴰ d F → Memᴰ d G) → Known h K G → Known h (for_each F (replace k) ++ K) G
  unfolding for_each only_if replace
  pass_known h K G [] v w = w
  pass_known h K G (d ∷ F) v w = go (opposes k.literals d) (pass_known h K G F (λ e i. v e (there i)) w)
    where
      es : List Event
      es = for_each F (replace k)

      known : Known h (es ++ K) G → {j : Choice} {c : Clause} → GoesInto j (clause_replaced d (replaced k d) ∷ (es ++ K)) c → (x : ℤ) → Memᴰ x c → Stands (nat_abs x) G ⊎ (h < nat_abs x)
      known ih (as_old f g) x m = inl (d, v d (here refl), x, m, refl)
      known ih {j} {c} (later g) x m = ih c (record { choice = j; goes = g }) x m

      go : (t : Bool) → Known h (es ++ K) G → Known h ((only_if t (clause_replaced d (replaced k d) ∷ []) ++ es) ++ K) G
      go false ih = ih
      go true ih = λ c i. known ih i.goes
