-- Every copy of each of several clauses, deleted one by one.
use mathlib.Core.Path.{◌≡◌, refl, sym, ◌∙◌}
use mathlib.Core.Logic.{⊎_elim}
use mathlib.Core.Bool.{Bool, true, false, cond, not, ◌||◌}
use mathlib.Core.List.Memᴰ
use mathlib.Core.List.Memᴰ.{head as here}
use mathlib.Core.List.Memᴰ.{tail as there}
use mathlib.Core.List.{[], ◌∷◌, Memᴰ}
use Prim.Native.Nat.{ℕ, zero, suc, ◌+◌}
use native.Mathlib.Nat.{zero-add}
use native.Mathlib.Numerals.{one-add}
use native.Mathlib.Omega.{arith}
use lib.Dec.{T}
use lib.ListN.{length, replicate, length-append, length-replicate}
use Rattle.definition.specs.Lists.{bit, count, any, those, for_each}
use Rattle.definition.specs.Literals.{Clause, Formula, same_set}
use Rattle.theory_base.proofs.Tests.{of_true, to_false}
use Rattle.theory_base.proofs.Members.{any_mem, same_set_same, same_turned, same_joined}
use Rattle.theory_base.specs.Clauses.{Same}
use Rattle.theory_base.proofs.Loops.{replicate_mem}
use Rattle.theory_base.proofs.Sums.{count_sum, sum_none}
use Rattle.theory_base.proofs.Removal.{Removed, found, later}
use Rattle.theory_soundness.proofs.Removals.{Removes, none_left, next, removes_join, Spread}
use Rattle.theory_counter.specs.Front.{drop_copies, drop_all}

-- ---- how many copies of a clause stand
-- no clause is a copy
not_copy : (p d : Clause) → (Same p d → ⊥) → same_set p d ≡ false
not_copy p d n = to_false (λ t. n (same_set_same p d t))

-- a clause that is a copy of q is none of p
not_both : (p q d : Clause) → (Same p q → ⊥) → same_set q d ≡ true → same_set p d ≡ false
not_both p q d n e = not_copy p d (λ s. n (same_joined s (same_turned (same_set_same q d (of_true e)))))

-- another clause is taken out
pub count_removed : (p : Clause) {c : Clause} {F G : Formula} → (Same p c → ⊥) → Removed c F G → count (same_set p) F ≡ count (same_set p) G
unfolding count
count_removed p {c} n (found {d = d} e) = rw (not_both p c d n e) (omega arith)
count_removed p n (later e r) = omega (arith, count_removed p n r)

count_dropped : (p q : Clause) (F : Formula) → (Same p q → ⊥) → count (same_set p) (drop_copies q F) ≡ count (same_set p) F
unfolding count those
count_dropped p q [] n = refl
count_dropped p q (d ∷ F) n = go (same_set q d) refl (count_dropped p q F n)
  where
    go : (b : Bool) → same_set q d ≡ b → count (same_set p) (drop_copies q F) ≡ count (same_set p) F →
        count (same_set p) (cond (not b) (d ∷ drop_copies q F) (drop_copies q F)) ≡ bit (same_set p d) + count (same_set p) F
    go true e ih = rw (not_both p q d n e) (omega arith)
    go false e ih = omega arith

-- a clause that is no copy is passed over
passed_over : (p d : Clause) (n : ℕ) {F G : Formula} → same_set p d ≡ false → Removes F (replicate n p) G → Removes (d ∷ F) (replicate n p) (d ∷ G)
passed_over p d zero e none_left = none_left
passed_over p d (suc n) e (next q r) = next (later e q) (passed_over p d n e r)

copies_removed : (p : Clause) (F : Formula) → Removes F (replicate (count (same_set p) F) p) (drop_copies p F)
unfolding count those
copies_removed p [] = none_left
copies_removed p (d ∷ F) = go (same_set p d) refl (copies_removed p F)
  where
    go : (b : Bool) → same_set p d ≡ b → Removes F (replicate (count (same_set p) F) p) (drop_copies p F) →
        Removes (d ∷ F) (replicate (bit b + count (same_set p) F) p) (cond (not b) (d ∷ drop_copies p F) (drop_copies p F))
    go true e r = rw one-add (next (found e) r)
    go false e r = rw zero-add (passed_over p d (count (same_set p) F) e r)

-- each as often as it stands
pub all_removed : (n : Clause → ℕ) (ps F : Formula) → Spread ps → ((p : Clause) → Memᴰ p ps → n p ≡ count (same_set p) F) →
    Removes F (for_each ps (λ p. replicate (n p) p)) (drop_all F ps)
unfolding for_each
all_removed n [] F s h = none_left
all_removed n (p ∷ ps) F s h =
    removes_join {A = replicate (n p) p} (rw (h p (here refl)) (copies_removed p F))
    (all_removed n ps (drop_copies p F) s.1 (λ q i. h q (there i) ∙ sym (count_dropped q p F (λ t. s.0 q i (same_turned t)))))

-- only copies of these clauses are deleted
pub copy_mem : (n : Clause → ℕ) (ps : Formula) (d : Clause) → Memᴰ d (for_each ps (λ p. replicate (n p) p)) → Memᴰ d ps
unfolding for_each
copy_mem n (p ∷ ps) d i =
    ⊎_elim (λ j. here (replicate_mem (n p) p d j)) (λ j. there (copy_mem n ps d j)) (Memᴰ.append_cases (replicate (n p) p) i)
copy_mem n [] d i = elim i [ ]

-- ---- as many as there are clauses that are copies of one of them
count_either : (p q : Clause → Bool) (F : Formula) → ((d : Clause) → T (p d) → T (q d) → ⊥) → count (λ d. p d || q d) F ≡ count p F + count q F
unfolding count
count_either p q [] n = refl
count_either p q (d ∷ F) n = omega (arith, count_either p q F n, both (p d) (q d) (n d))
  where
    both : (a b : Bool) → (T a → T b → ⊥) → bit (a || b) ≡ bit a + bit b
    both true true n = absurd (n tt tt)
    both true false n = refl
    both false true n = refl
    both false false n = refl

pub copies_length : (ps F : Formula) → Spread ps → length (for_each ps (λ p. replicate (count (same_set p) F) p)) ≡ count (λ d. any (λ p. same_set p d) ps) F
unfolding for_each any
copies_length [] F s = sym (count_sum (λ d. false) F ∙ sum_none (λ d. 0) F (λ d i. refl))
copies_length (p ∷ ps) F s =
    omega (
      arith,
      length-append (replicate (count (same_set p) F) p) (for_each ps (λ q. replicate (count (same_set q) F) q)),
      length-replicate (count (same_set p) F) p,
      copies_length ps F s.1,
      count_either (same_set p) (λ d. any (λ q. same_set q d) ps) F (λ d t u. let r = any_mem (λ q. same_set q d) ps u in s.0 r.0 r.1 (same_joined (same_set_same p d t) (same_turned (same_set_same r.0 d r.2)))),
    )
