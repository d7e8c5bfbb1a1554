-- The table of named literals: what its entries say, and one literal named more.
use mathlib.Core.Path.{◌≡◌, refl, sym, ap, ◌∙◌, fun_ext}
use mathlib.Core.Logic.{◌≢◌}
use mathlib.Core.Bool.{Bool, true, false, not, beq, cond, ◌||◌, or-false, or_comm}
use mathlib.Core.List.{[], ◌∷◌, ◌++◌}
use Prim.Native.Nat.{ℕ, zero, suc, ◌≤◌, ◌<◌}
use native.Mathlib.Omega.{arith}
use native.Mathlib.Decide.{ℕ_discrete}
use lib.Dec.{eqb}
use lib.IntN.{ℤ, pos, negsuc, neg_ℤ, nat_abs}
use lib.ListN.{length, get_or, replicate}
use lib.Seq.{get_or-set_same, get_or-set_other}
use borrow.Author.Tests.{eq-eqb, ne_eqb}
use Rattle.definition.specs.Lists.{any}
use Rattle.definition.specs.Text.{Bytes}
use Rattle.definition.specs.Literals.{Clause, same, holds}
use Rattle.definition.specs.Assignments.{true_in, sign, make_true}
use Rattle.definition.specs.Calls.{assigned}
use Rattle.theory_base.proofs.Members.{unlike_false, holds_snoc}
use Rattle.literals.specs.Literal.{negative}
use Rattle.theory_base.proofs.Slices.{getD_zeros}
use Rattle.answer.specs.Table.{Table, marked, entry_of, naming}

-- ---- the assignment

pub marked_assigned : (c : Clause) (m : Bytes) → Table c m → marked m ≡ assigned c
unfolding marked assigned
marked_assigned c m t = fun_ext (λ v. sym (t.names (pos v)))

-- ---- no literal named

no_entry : (l : ℤ) → eqb 0 (entry_of l) ≡ false
no_entry (pos n) = refl
no_entry (negsuc n) = refl

pub table_start : (n : ℕ) → Table [] (replicate n 0)
unfolding holds any
table_start n = record { names = λ l. rw (getD_zeros n (nat_abs l)) (sym (no_entry l)); at_most = λ v. omega (arith, getD_zeros n v) }

-- ---- whether a variable is named is one look at its entry

one_or_two : (e : ℕ) → e ≤ 2 → eqb e 1 || eqb e 2 ≡ not (eqb e 0)
one_or_two zero h = refl
one_or_two (suc zero) h = refl
one_or_two (suc (suc zero)) h = refl
one_or_two (suc (suc (suc e))) h = absurd (omega arith)

pub variable_named : (c : Clause) (m : Bytes) → Table c m → (l : ℤ) → l ≢ pos 0 → holds l c || holds (neg_ℤ l) c ≡ not (eqb (get_or m (nat_abs l) 0) 0)
variable_named c m t (pos zero) z = absurd (z refl)
variable_named c m t (pos (suc n)) z = rw (t.names (pos (suc n)), t.names (negsuc n)) (one_or_two (get_or m (suc n) 0) (t.at_most (suc n)))
variable_named c m t (negsuc n) z = rw (t.names (pos (suc n)), t.names (negsuc n)) (or_comm (eqb (get_or m (suc n) 0) 2) (eqb (get_or m (suc n) 0) 1) ∙ one_or_two (get_or m (suc n) 0) (t.at_most (suc n)))

-- ---- the entry of a literal that is named, and the others

module _ (m : Bytes) (l : ℤ) (h : nat_abs l < length m) where
  entry_same : get_or (naming l m) (nat_abs l) 0 ≡ entry_of l
  entry_same = get_or-set_same m (nat_abs l) (entry_of l) 0 h

  entry_other : (v : ℕ) → v ≢ nat_abs l → get_or (naming l m) v 0 ≡ get_or m v 0
  entry_other v n = get_or-set_other m (nat_abs l) v (entry_of l) 0 n

  -- naming a literal makes it true
  pub marked_naming : marked (naming l m) ≡ make_true l (marked m)
  unfolding marked make_true sign
  marked_naming = fun_ext (λ v. go v (ℕ_discrete v (nat_abs l)))
    where
      value_of : (k : ℤ) → eqb (entry_of k) 1 ≡ sign k
      value_of (pos n) = refl
      value_of (negsuc n) = refl

      go : (v : ℕ) → Dec (v ≡ nat_abs l) → eqb (get_or (naming l m) v 0) 1 ≡ cond (eqb v (nat_abs l)) (sign l) (eqb (get_or m v 0) 1)
      go v (yes e) = rw (e, entry_same, eq-eqb (nat_abs l) (nat_abs l) refl) (value_of l)
      go v (no n) = rw (entry_other v n, ne_eqb v (nat_abs l) n) refl

-- ---- a literal named whose variable was not

same_entry : (k l : ℤ) → nat_abs k ≡ nat_abs l → same k l ≡ eqb (entry_of l) (entry_of k)
unfolding same
same_entry (pos a) (pos b) e = eq-eqb a b e
same_entry (pos a) (negsuc b) e = refl
same_entry (negsuc a) (pos b) e = refl
same_entry (negsuc a) (negsuc b) e = eq-eqb a b (omega arith)

entry_at_most : (l : ℤ) → entry_of l ≤ 2
entry_at_most (pos n) = omega arith
entry_at_most (negsuc n) = omega arith

module _ (c : Clause) (m : Bytes) (t : Table c m) (l : ℤ) (h : nat_abs l < length m) (e : get_or m (nat_abs l) 0 ≡ 0) where
  unnamed : (k : ℤ) → nat_abs k ≡ nat_abs l → holds k c ≡ false
  unnamed k q = t.names k ∙ ap (λ (v : ℕ). eqb (get_or m v 0) (entry_of k)) q ∙ ap (λ (b : ℕ). eqb b (entry_of k)) e ∙ no_entry k

  pub table_naming : Table (c ++ (l ∷ [])) (naming l m)
  table_naming = record { names = λ k. names_at k (ℕ_discrete (nat_abs k) (nat_abs l)); at_most = λ v. bound v (ℕ_discrete v (nat_abs l)) }
    where
      names_at : (k : ℤ) → Dec (nat_abs k ≡ nat_abs l) → holds k (c ++ (l ∷ [])) ≡ eqb (get_or (naming l m) (nat_abs k) 0) (entry_of k)
      names_at k (yes q) = rw (holds_snoc k c l, unnamed k q, q, entry_same m l h) (same_entry k l q)
      names_at k (no n) = rw (holds_snoc k c l, unlike_false k l (λ q. n (ap nat_abs q)), entry_other m l h (nat_abs k) n, or-false (holds k c)) (t.names k)

      bound : (v : ℕ) → Dec (v ≡ nat_abs l) → get_or (naming l m) v 0 ≤ 2
      bound v (yes q) = rw (q, entry_same m l h) (entry_at_most l)
      bound v (no n) = rw (entry_other m l h v n) (t.at_most v)

-- ---- whether a literal is true

pub true_by_sign : (m : Bytes) (l : ℤ) → not (beq (eqb (get_or m (nat_abs l) 0) 1) (negative l)) ≡ true_in (marked m) l
unfolding true_in marked
true_by_sign m (pos n) = go (eqb (get_or m n 0) 1)
  where
    go : (b : Bool) → not (beq b false) ≡ b
    go true = refl
    go false = refl
true_by_sign m (negsuc n) = go (eqb (get_or m (suc n) 0) 1)
  where
    go : (b : Bool) → not (beq b true) ≡ not b
    go true = refl
    go false = refl
