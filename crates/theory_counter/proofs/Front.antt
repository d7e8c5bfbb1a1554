-- What stands before the counter clauses after stage 4 of a choice.
use mathlib.Core.Path.{◌≡◌, ap}
use mathlib.Core.List.Memᴰ.{head as here}
use mathlib.Core.List.Memᴰ.{tail as there}
use mathlib.Core.List.{◌∷◌, ◌++◌, map, map-append, append_assoc, Memᴰ}
use Prim.Native.Nat.{◌+◌, ◌-◌, ◌*◌, ◌≤◌}
use native.Mathlib.Omega.{arith}
use lib.IntN.{ℤ, neg_ℤ}
use lib.ListN.{length, length-append, length-map}
use Rattle.definition.specs.Lists.{bit, any, count}
use Rattle.definition.specs.Literals.{Clause, Formula, same_set, holds}
use Rattle.definition.specs.Standing.{addition, deletion, take_out}
use Rattle.definition.specs.Events.{Choice}
use Rattle.definition.specs.Clearing.{times}
use Rattle.definition.specs.Counter.{pairs, counter, take_choice, choice_lines, copies}
use Rattle.definition.specs.Reencoding.{lines_of}
use Rattle.theory_base.proofs.Members.{proper_unopposed, holds_false}
use Rattle.theory_base.specs.Clauses.{Same, Proper, Fits, Absent, FitAll}
use Rattle.theory_base.proofs.Removal.{Removed, takes}
use Rattle.theory_soundness.proofs.Times.{holds_yes, times_cons, times_none, none_times, times_removed}
use Rattle.theory_soundness.proofs.Removals.{Removes, next, times_removes, mem_removes, stay_in}
use Rattle.theory_counter.specs.Ready.{WellFormed, Ready, Other}
use Rattle.theory_counter.proofs.Pairs.{Pair, pair_form, pair_literal, pairs_absent, pairs_spread}
use Rattle.theory_counter.proofs.Copies.{count_removed, all_removed, copy_mem, copies_length}
use Rattle.theory_counter.proofs.CounterLiterals.{counter_length}
use Rattle.theory_counter.specs.Front.{front}

pub taken_lines_are : (F : Formula) (c : Clause) (k : Choice) → lines_of (take_choice F c k) ≡ map addition (counter k) ++ map deletion (k.literals ∷ copies F k.literals)
unfolding lines_of take_choice choice_lines counter
taken_lines_are F c k = simp (map-append, append_assoc)

-- 4(k-1) + 1 lines, and one for each copy of a pair that stands
pub taken_length : (F : Formula) (c : Clause) (k : Choice) → Proper k.literals → 2 ≤ length k.literals →
    length (lines_of (take_choice F c k)) ≡ 4 * (length k.literals - 1) + 1 + count (λ d. any (λ p. same_set p d) (pairs k.literals)) F
unfolding copies
taken_length F c k p b =
    let ds = k.literals ∷ copies F k.literals in
    omega (
      arith,
      ap length (taken_lines_are F c k),
      length-append (map addition (counter k)) (map deletion ds),
      length-map (counter k) addition,
      length-map ds deletion,
      counter_length k b,
      copies_length (pairs k.literals) F (pairs_spread k.literals p),
    )

pub copies_mem : (F : Formula) (k : Choice) (d : Clause) → Memᴰ d (copies F k.literals) → Memᴰ d (pairs k.literals)
unfolding copies
copies_mem F k d i = copy_mem (λ p. count (same_set p) F) (pairs k.literals) d i

module _ (F : Formula) (c : Clause) (k : Choice) (f : Fits k.below F) (r : Ready F c k) where
  -- the choice's literals are old ones, and each stands in no other clause
  pub own_fit : FitAll k.below k.literals
  own_fit x i = f c r.standing x (r.same.0 x i)

  pub well_formed : WellFormed k
  well_formed = record { proper = r.proper; long = r.long; fit = own_fit }

  pub clause_taken : Removed k.literals F (take_out k.literals F)
  clause_taken = takes k.literals c F r.standing r.same

  pub absent_else : (x : ℤ) → Memᴰ x k.literals → Absent x (take_out k.literals F)
  absent_else x i =
      none_times x (take_out k.literals F) (omega (arith, r.alone x i, times_removed x clause_taken, ap bit (holds_yes x k.literals i)))

  -- ---- stage 4
  pair_of : (d : Clause) → Memᴰ d (pairs k.literals) → Pair k.literals d
  pair_of d i = pair_form k.literals r.proper d i

  not_choice : (d : Clause) → Pair k.literals d → Same d k.literals → ⊥
  not_choice d q s = proper_unopposed k.literals r.proper q.one q.one_in (pair_literal q q.one (s.1 q.one q.one_in))

  pub front_removes : Removes F (k.literals ∷ copies F k.literals) (front F k)
  unfolding front copies
  front_removes =
      next clause_taken
      (all_removed (λ p. count (same_set p) F) (pairs k.literals) (take_out k.literals F) (pairs_spread k.literals r.proper)
      (λ p i. count_removed p (not_choice p (pair_of p i)) clause_taken))

  -- ---- how often a literal stands
  copies_absent : (x : ℤ) → (Memᴰ (neg_ℤ x) k.literals → ⊥) → Absent x (copies F k.literals)
  copies_absent x n d i = pairs_absent x k.literals r.proper n d (copies_mem F k d i)

  front_times : (x : ℤ) → (Memᴰ (neg_ℤ x) k.literals → ⊥) → times x F ≡ bit (holds x k.literals) + times x (front F k)
  front_times x n =
      omega (
        arith,
        times_removes x front_removes,
        times_cons x k.literals (copies F k.literals),
        times_none x (copies F k.literals) (copies_absent x n),
      )

  pub front_own : (x : ℤ) → Memᴰ x k.literals → times x (front F k) ≡ 0
  front_own x i = omega (arith, front_times x (proper_unopposed k.literals r.proper x i), r.alone x i, ap bit (holds_yes x k.literals i))

  pub front_other : (x : ℤ) → Other k x → times x (front F k) ≡ times x F
  front_other x o = omega (arith, front_times x o.not_negated, ap bit (holds_false x k.literals o.not_in))

  -- a clause with a literal of another variable stays
  pub front_kept : (x : ℤ) → Other k x → (d : Clause) → Memᴰ d F → Memᴰ x d → Memᴰ d (front F k)
  front_kept x o d i j = stay_in x front_removes i j away
    where
      away : Absent x (k.literals ∷ copies F k.literals)
      away e (here q) y = o.not_in (rw q at y)
      away e (there q) y = copies_absent x o.not_negated e q y

  -- ---- variables
  pub front_fits : Fits k.below (front F k)
  front_fits d i = f d (mem_removes front_removes i)
