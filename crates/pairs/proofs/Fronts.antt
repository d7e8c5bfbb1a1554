-- What stands before the counter clauses is what the walk leaves, and the table counts the copies of each pair. Assumes nothing.
use mathlib.Core.Path.{◌≡◌, refl, sym, ap, ◌∙◌}
use mathlib.Core.Bool.{Bool, true, false, not}
use mathlib.Core.List.{List, [], ◌∷◌, Memᴰ}
use Prim.Native.Nat.{ℕ, ◌+◌, ◌*◌, ◌≤◌, ◌<◌}
use native.Mathlib.Omega.{arith}
use lib.Dec.{eqb, leb, T}
use lib.IntN.{ℤ}
use lib.ListN.{length, get_or}
use borrow.Author.Tests.{leb-false, eqb-true, lt-leb}
use Rattle.definition.specs.Lists.{any, those, count}
use Rattle.definition.specs.Literals.{Clause, Formula, same_set}
use Rattle.definition.specs.Standing.{take_out}
use Rattle.definition.specs.Events.{Choice}
use Rattle.definition.specs.Counter.{pairs}
use Rattle.theory_base.proofs.Tests.{by_test, of_true, to_true, differ}
use Rattle.theory_base.proofs.Loops.{count_same}
use Rattle.theory_base.proofs.Members.{any_mem, mem_any, proper_unopposed, same_same_set, those_same, those_those}
use Rattle.theory_base.specs.Clauses.{Proper, ProperAll, Same}
use Rattle.theory_base.proofs.Removal.{takes, mem_take_out}
use Rattle.theory_counter.specs.Ready.{Ready}
use Rattle.theory_counter.proofs.Pairs.{pair_form, pair_literal}
use Rattle.theory_counter.proofs.Copies.{count_removed}
use Rattle.theory_counter.specs.Front.{drop_copies, drop_all, front}
use Rattle.tables.specs.Places.{Places}
use Rattle.pairs.specs.Pairs.{slots, slot_of, PairsTaken}
use Rattle.pairs.proofs.Slots.{pair_of, Slotted, slotted, slot_tells}
use Rattle.pairs.proofs.Rows.{pair_there, pair_places}

-- ---- those that pass a test
those_all : (F : Formula) → those (λ d. not false) F ≡ F
unfolding those
those_all [] = refl
those_all (d ∷ F) = ap (λ (r : Formula). d ∷ r) (those_all F)

-- ---- what stands before the counter clauses

-- a clause is a copy of one of some clauses
abbrev copy_of : Formula → Clause → Bool
copy_of ps d = any (λ p. same_set p d) ps

drop_all_is : (ps X : Formula) → drop_all X ps ≡ those (λ d. not (copy_of ps d)) X
unfolding any
drop_all_is [] X = sym (those_all X)
drop_all_is (p ∷ ps) X = drop_all_is ps (drop_copies p X) ∙ those_those (same_set p) (copy_of ps) X

module _ {t : List ℕ} {l : Clause} (q : Places t l) (few : length l ≤ 64) (p : Proper l) where
  no_slot : (d : Clause) → Proper d → leb slots (slot_of t d) ≡ not (copy_of (pairs l) d)
  no_slot d pd = by_test (copy_of (pairs l) d) (λ e. copy e (any_mem (λ x. same_set x d) (pairs l) (of_true e))) other
    where
      copy : copy_of (pairs l) d ≡ true → (x : Clause) × Memᴰ x (pairs l) × T (same_set x d) → leb slots (slot_of t d) ≡ not (copy_of (pairs l) d)
      copy e m =
          let a = pair_places l m.0 m.1 in
          let s = eqb-true (slot_of t d) (a.i * 64 + a.j) (sym (slot_tells q few p a.i a.j a.less a.within d pd) ∙ to_true (rw a.is at m.2)) in
          lt-leb slots (slot_of t d) (omega (arith, s, a.less, a.within)) ∙ sym (ap not e)

      other : copy_of (pairs l) d ≡ false → leb slots (slot_of t d) ≡ not (copy_of (pairs l) d)
      other e = by_test (leb slots (slot_of t d)) (λ f. f ∙ sym (ap not e)) (λ f. slot_there (slotted q d (leb-false slots (slot_of t d) f)))
        where
          slot_there : Slotted l d (slot_of t d) → leb slots (slot_of t d) ≡ not (copy_of (pairs l) d)
          slot_there s = differ (mem_any (λ x. same_set x d) (pairs l) (pair_of l s.i s.j) (pair_there l s.i s.j s.less s.within) (same_same_set (pair_of l s.i s.j) d s.same)) e

module _ (F : Formula) (c : Clause) (k : Choice) (r : Ready F c k) (pr : ProperAll F) (few : length k.literals ≤ 64) {t : List ℕ} (q : Places t k.literals) where
  taken_proper : ProperAll (take_out k.literals F)
  taken_proper d m = pr d (mem_take_out k.literals F d m)

  pub front_is : front F k ≡ those (λ d. leb slots (slot_of t d)) (take_out k.literals F)
  unfolding front
  front_is =
      drop_all_is (pairs k.literals) (take_out k.literals F)
      ∙ sym (those_same (λ d. leb slots (slot_of t d)) (λ d. not (copy_of (pairs k.literals) d)) (take_out k.literals F) (λ d m. no_slot q few r.proper d (taken_proper d m)))

  not_choice : (p : Clause) → Memᴰ p (pairs k.literals) → Same p k.literals → ⊥
  not_choice p m s =
      let a = pair_form k.literals r.proper p m in
      proper_unopposed k.literals r.proper a.one a.one_in (pair_literal a a.one (s.1 a.one a.one_in))

  -- the table counts the copies of each pair
  pub counts_are : {s : List ℤ} {counts : List ℕ} → PairsTaken t (take_out k.literals F) s counts → (i j : ℕ) → i < j → j < length k.literals → get_or counts (i * 64 + j) 0 ≡ count (same_set (pair_of k.literals i j)) F
  counts_are w i j a b =
      w.counted (i * 64 + j) (omega arith)
      ∙ count_same (λ d. eqb (slot_of t d) (i * 64 + j)) (same_set (pair_of k.literals i j)) (take_out k.literals F) (λ d m. sym (slot_tells q few r.proper i j a b d (taken_proper d m)))
      ∙ sym (count_removed (pair_of k.literals i j) (not_choice (pair_of k.literals i j) (pair_there k.literals i j a b)) (takes k.literals c F r.standing r.same))
