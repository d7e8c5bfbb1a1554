-- A choice uses no other variables than those used before it and its new ones: a literal of its clauses is one of the choice, the negation of one, or of a new variable.
-- For any set U of variables that has those used before and the new ones.
use mathlib.Core.Logic.{⊎_elim}
use mathlib.Core.List.{Memᴰ}
use Prim.Native.Nat.{ℕ, ◌≤◌, ◌<◌}
use native.Mathlib.Omega.{arith}
use lib.Dec.{leb}
use lib.IntN.{ℤ, neg_ℤ, nat_abs}
use borrow.Author.Tests.{leb-true, leb-false}
use Rattle.definition.specs.Literals.{Clause, Formula, holds}
use Rattle.definition.specs.Events.{Choice}
use Rattle.definition.specs.Counter.{last_new, counter}
use Rattle.theory_base.proofs.Tests.{of_true, differ, by_test}
use Rattle.theory_base.proofs.Members.{natAbs_neg, holds_mem, mem_holds}
use Rattle.theory_base.specs.Clauses.{Absent}
use Rattle.theory_base.proofs.Fitting.{ProperTo}
use Rattle.theory_base.proofs.Replay.{AllClauses}
use Rattle.theory_soundness.proofs.Times.{times_none, none_times}
use Rattle.theory_counter.specs.Ready.{WellFormed, Other}
use Rattle.theory_counter.proofs.CounterLiterals.{counter_absent}
use Rattle.theory_counter.proofs.Pairs.{pair_form, pair_literal}
use Rattle.theory_order.proofs.Recursive.{deletions}
use Rattle.theory_order.proofs.Found.{counter_times}
use Rattle.theory_order.proofs.Replace.{replaced_literal}
use Rattle.theory_room.proofs.Choice.{counter_clause, deletions_clause}
use Rattle.theory_room.proofs.Lines.{Carried}

-- all variables of the clause are in U
abbrev pub Used : (ℕ → Type 0) → Clause → Type 0
Used U c = (x : ℤ) → Memᴰ x c → U (nat_abs x)

module _ (U : ℕ → Type 0) (c : Choice) (u : WellFormed c) (own : Used U c.literals) (new : (v : ℕ) → c.below < v → v ≤ last_new c → U v) where
  negated_used : (x : ℤ) → Memᴰ (neg_ℤ x) c.literals → U (nat_abs x)
  negated_used x i = rw (natAbs_neg x) at (own (neg_ℤ x) i)

  -- clauses without a literal of another variable
  without_other_used : (F : Formula) → AllClauses (ProperTo (last_new c)) F → ((x : ℤ) → Other c x → Absent x F) → AllClauses (Used U) F
  without_other_used F p n d m x i =
      by_test (leb (nat_abs x) c.below)
      (λ old.
      by_test (holds x c.literals) (λ t. own x (holds_mem x c.literals (of_true t)))
      (λ e.
      by_test (holds (neg_ℤ x) c.literals) (λ t. negated_used x (holds_mem (neg_ℤ x) c.literals (of_true t)))
      (λ k.
      absurd (n x (record { small = leb-true (nat_abs x) c.below old; not_in = λ j. differ (mem_holds x c.literals j) e; not_negated = λ j. differ (mem_holds (neg_ℤ x) c.literals j) k }) d m i))))
      (λ late. new (nat_abs x) (leb-false (nat_abs x) c.below late) ((p d m).1 x i))

  deletions_absent : (x : ℤ) → Other c x → Absent x (deletions c)
  deletions_absent x o = none_times x (deletions c) (omega (arith, counter_times c u x o.small, times_none x (counter c) (counter_absent c u.long x o)))

  pub carried_used : Carried c (Used U) (Used U)
  carried_used = record {
    more = λ d q. q;
    own = own;
    of_pairs = λ d m x i. negated_used x (pair_literal (pair_form c.literals u.proper d m) x i);
    of_counter = without_other_used (counter c) (counter_clause c u) (counter_absent c u.long);
    of_deletions = without_other_used (deletions c) (deletions_clause c u) deletions_absent;
    of_replaced = λ d q e x i. ⊎_elim (λ p. q x p.0) (λ p. new (nat_abs x) p.0 p.1) (replaced_literal c u d x i);
  }
