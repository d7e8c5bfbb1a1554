-- The counter form of one choice is sound.
use mathlib.Core.Path.{◌≡◌, refl, sym, ◌∙◌}
use mathlib.Core.Logic.{◌⊎◌, inl, inr, ⊎_elim}
use mathlib.Core.Bool.{false}
use mathlib.Core.List.Memᴰ
use mathlib.Core.List.{List, [], ◌∷◌, ◌++◌, map, Memᴰ, append_assoc, append-nil}
use Prim.Native.Nat.{ℕ, ◌≤◌, ◌<◌}
use native.Mathlib.Omega.{arith}
use lib.Dec.{leb}
use lib.IntN.{ℤ, neg_ℤ, nat_abs}
use borrow.Author.Tests.{leb-true, leb-false}
use Rattle.definition.specs.Literals.{Clause, Formula, holds}
use Rattle.definition.specs.Standing.{Line, addition, deletion, after}
use Rattle.definition.specs.Assignments.{Assignment, trues}
use Rattle.definition.specs.Events.{Choice, Event, choice_taken}
use Rattle.definition.specs.Counter.{pairs, counter, copies, last_new, take_choice}
use Rattle.definition.specs.Reencoding.{lines_of, GoesInto, taken, later}
use Rattle.theory_base.proofs.Tests.{by_test, of_true, differ}
use Rattle.theory_base.proofs.Members.{holds_mem, mem_holds, natAbs_neg}
use Rattle.theory_base.specs.Clauses.{Fits, Absent}
use Rattle.theory_base.proofs.Trues.{Sat, sat_at, sat_all, sat_right}
use Rattle.theory_base.proofs.Removal.{Removed}
use Rattle.theory_base.proofs.Replay.{leads_after}
use Rattle.theory_soundness.proofs.Sound.{Into, Ones, Sound, nothing, sound_leads, weaken}
use Rattle.theory_soundness.proofs.Without.{trues_order, Stands, Known}
use Rattle.theory_soundness.proofs.Removals.{removes-++, mem_removes, del_all}
use Rattle.theory_counter.proofs.CounterClauses.{Written, written, counter_is}
use Rattle.theory_counter.specs.Ready.{WellFormed, Ready, Other}
use Rattle.theory_counter.proofs.Pairs.{pairs_hold}
use Rattle.theory_counter.proofs.Stages.{counter_one, counter_added}
use Rattle.theory_counter.proofs.CounterLiterals.{counter_absent}
use Rattle.theory_counter.proofs.Front.{taken_lines_are, copies_mem, well_formed, clause_taken, absent_else, front_removes}
use Rattle.theory_counter.specs.Front.{front}

-- the clauses that go into a choice from the taking of a choice on
goes_taken : {j k : Choice} {copies : List Clause} {es : List Event} {c d : Clause} → GoesInto j (choice_taken d k copies ∷ es) c → (c ≡ d) ⊎ Into es c
goes_taken taken = inl refl
goes_taken {j} (later g) = inr (record { choice = j; goes = g })

-- ---- stages 2 and 3 of a choice
module _ {k : Choice} (u : WellFormed k) where
  w : Written k
  w = written k u.long

  counter_exactly_one : (σ : Assignment) → Sat σ (counter k) → trues σ k.literals ≡ 1
  counter_exactly_one σ s =
      rw w.are (counter_one σ k.below w.one w.two w.others (rw w.are at u.proper) (rw (counter_is w) at s))

  counter_stages_added : {F G H : Formula} {K L : List Event} {xs : List Line} → Fits k.below F → Removed k.literals F G → ((x : ℤ) → Memᴰ x k.literals → Absent x G) →
      Sound (F ++ counter k) K xs H L → Sound F K (map addition (counter k) ++ xs) H L
  counter_stages_added {F} {G} {H} {K} {L} {xs} f d alone s =
      rw (counter_is w)
      (counter_added k.below w.one w.two w.others (rw w.are at u.proper) f (rw w.are at u.fit) (rw w.are at d) (rw w.are at alone)
      (rw (counter_is w) at s))

-- ---- all stages
module _ (F : Formula) (e : Clause) (k : Choice) (f : Fits k.below F) (r : Ready F e k) where
  front_one : (σ : Assignment) → Sat σ (front F k ++ counter k) → trues σ k.literals ≡ 1
  front_one σ t = counter_exactly_one (well_formed F e k f r) σ (sat_right σ (front F k) (counter k) t)

  ones_taken : {K : List Event} (σ : Assignment) → Sat σ (front F k ++ counter k) → Ones σ K → Ones σ (take_choice F e k ∷ K)
  unfolding take_choice
  ones_taken σ t o c i =
      ⊎_elim
      (λ q. rw q (sym (trues_order σ k.literals e r.proper r.proper_clause r.same) ∙ front_one σ t))
      (o c) (goes_taken i.goes)

  lines_form : (xs : List Line) → lines_of (take_choice F e k) ++ xs ≡ map addition (counter k) ++ (map deletion (k.literals ∷ copies F k.literals) ++ xs)
  lines_form xs = rw (taken_lines_are F e k) (simp append_assoc)

  pub counter_sound : {H : Formula} {K L : List Event} {xs : List Line} → Sound (front F k ++ counter k) K xs H L → Sound F (take_choice F e k ∷ K) (lines_of (take_choice F e k) ++ xs) H L
  counter_sound {H} {K} {L} {xs} s =
      rw (lines_form xs)
      (counter_stages_added (well_formed F e k f r) f (clause_taken F e k f r) (absent_else F e k f r)
      (del_all (removes-++ (counter k) (front_removes F e k f r)) deleted_hold (weaken ones_taken s)))
    where
      deleted_hold : (σ : Assignment) → Sat σ (front F k ++ counter k) → Sat σ (k.literals ∷ copies F k.literals)
      deleted_hold σ t =
          let one = front_one σ t in
          (omega arith, sat_all σ (copies F k.literals) (λ d i. sat_at σ (pairs k.literals) (pairs_hold σ k.literals r.proper (omega arith)) (copies_mem F k d i)))

  pub after_choice : after F (lines_of (take_choice F e k)) ≡ front F k ++ counter k
  after_choice =
      rw (append-nil (lines_of (take_choice F e k))) at (leads_after (sound_leads (counter_sound (nothing {K = []} {L = []} (λ σ s o. o)))))

-- ---- the variables of clauses that go into a choice

-- a literal of another variable, of the choice, or new
by_variable : {P : Type 0} (k : Choice) (x : ℤ) → (Other k x → P) → (Memᴰ x k.literals → P) → (Memᴰ (neg_ℤ x) k.literals → P) → (k.below < nat_abs x → P) → P
by_variable {P} k x other own negated new = by_test (leb (nat_abs x) k.below) (λ e. old (leb-true (nat_abs x) k.below e)) (λ e. new (leb-false (nat_abs x) k.below e))
  where
    no : (y : ℤ) → holds y k.literals ≡ false → Memᴰ y k.literals → ⊥
    no y e i = differ (mem_holds y k.literals i) e

    old : nat_abs x ≤ k.below → P
    old b =
        by_test (holds x k.literals) (λ e. own (holds_mem x k.literals (of_true e))) (λ e.
        by_test (holds (neg_ℤ x) k.literals) (λ q. negated (holds_mem (neg_ℤ x) k.literals (of_true q))) (λ q.
        other (record { small = b; not_in = no x e; not_negated = no (neg_ℤ x) q })))

module _ (F : Formula) (e : Clause) (k : Choice) (f : Fits k.below F) (r : Ready F e k) where
  own_stands : (x : ℤ) → Memᴰ x k.literals → Stands (nat_abs x) F
  own_stands x i = (e, r.standing, x, r.same.0 x i, refl)

  negated_stands : (x : ℤ) → Memᴰ (neg_ℤ x) k.literals → Stands (nat_abs x) F
  negated_stands x i = rw (natAbs_neg x) at (own_stands (neg_ℤ x) i)

  front_stands : (d : Clause) → Memᴰ d (front F k) → (x : ℤ) → Memᴰ x d → Stands (nat_abs x) F
  front_stands d i x j = (d, mem_removes (front_removes F e k f r) i, x, j, refl)

  counter_stands : (d : Clause) → Memᴰ d (counter k) → (x : ℤ) → Memᴰ x d → Stands (nat_abs x) F ⊎ (k.below < nat_abs x)
  counter_stands d i x j =
      by_variable k x (λ o. absurd (counter_absent k r.long x o d i j)) (λ m. inl (own_stands x m)) (λ m. inl (negated_stands x m)) (λ b. inr b)

  stands_before : (n : ℕ) → Stands n (front F k ++ counter k) → Stands n F ⊎ (k.below < n)
  stands_before n s =
      rw s.4 at (⊎_elim (λ i. inl (front_stands s.0 i s.2 s.3)) (λ i. counter_stands s.0 i s.2 s.3) (Memᴰ.append_cases (front F k) s.1))

  pub counter_known : {K : List Event} → Known (last_new k) K (front F k ++ counter k) → Known k.below (take_choice F e k ∷ K) F
  unfolding take_choice last_new
  counter_known w c i x j =
      ⊎_elim (λ q. inl (e, r.standing, x, rw q at j, refl))
      (λ g. ⊎_elim (stands_before (nat_abs x)) (λ b. inr (omega arith)) (w c g x j))
      (goes_taken i.goes)
