-- In how many clauses a literal stands.
use mathlib.Core.Path.{◌≡◌, refl, sym, ◌∙◌, ap}
use mathlib.Core.Logic.{⊎_elim}
use mathlib.Core.Bool.{Bool, true, false}
use mathlib.Core.List.Memᴰ.{head as here}
use mathlib.Core.List.Memᴰ.{tail as there}
use mathlib.Core.List.{[], ◌∷◌, ◌++◌, Memᴰ}
use Prim.Native.Nat.{◌+◌, ◌≤◌}
use native.Mathlib.Omega.{arith}
use lib.Dec.{T, eqb, ltb, eqb→eq}
use lib.IntN.{ℤ}
use lib.ListN.{length}
use borrow.Author.Tests.{eq-eqb, ltb-true, lt-ltb}
use Rattle.definition.specs.Lists.{bit, count}
use Rattle.definition.specs.Literals.{Clause, Formula, holds}
use Rattle.definition.specs.Clearing.{times, unique}
use Rattle.theory_base.proofs.Tests.{to_true, of_true, bit≤1, and_l, and_r, and_i}
use Rattle.theory_base.proofs.Loops.{count-++}
use Rattle.theory_base.proofs.Members.{holds_mem, mem_holds, holds_false, all_at, all_of, same_set_same}
use Rattle.theory_base.specs.Clauses.{Same, Absent}
use Rattle.theory_base.proofs.Removal.{Removed, found, later, split}

pub holds_yes : (x : ℤ) (c : Clause) → Memᴰ x c → holds x c ≡ true
holds_yes x c m = to_true (mem_holds x c m)

pub holds_bit : (x : ℤ) (c d : Clause) → (Memᴰ x c → Memᴰ x d) → bit (holds x c) ≤ bit (holds x d)
holds_bit x c d w = go (holds x c) refl
  where
    go : (b : Bool) → holds x c ≡ b → bit (holds x c) ≤ bit (holds x d)
    go true e = rw (holds_yes x d (w (holds_mem x c (of_true e)))) (bit≤1 (holds x c))
    go false e = rw e (omega arith)

pub holds_same : (x : ℤ) (c d : Clause) → Same c d → bit (holds x c) ≡ bit (holds x d)
holds_same x c d s = omega (arith, holds_bit x c d (s.0 x), holds_bit x d c (s.1 x))

pub times_nil : (x : ℤ) → times x [] ≡ 0
unfolding times count
times_nil x = refl

pub times_cons : (x : ℤ) (d : Clause) (F : Formula) → times x (d ∷ F) ≡ bit (holds x d) + times x F
unfolding times count
times_cons x d F = refl

pub times-++ : (x : ℤ) (F G : Formula) → times x (F ++ G) ≡ times x F + times x G
unfolding times
times-++ x F G = count-++ (holds x) F G

pub times_none : (x : ℤ) (F : Formula) → Absent x F → times x F ≡ 0
unfolding times count
times_none x [] h = refl
times_none x (d ∷ F) h = rw (holds_false x d (h d (here refl))) (omega (arith, times_none x F (λ k i. h k (there i))))

pub times_at : (x : ℤ) {d : Clause} {F : Formula} → Memᴰ d F → Memᴰ x d → 1 ≤ times x F
unfolding times count
times_at x {d} (here {x = k} {xs = F} e) m = rw (← e, holds_yes x d m) (omega arith)
times_at x (there i) m = omega (arith, times_at x i m)

pub none_times : (x : ℤ) (F : Formula) → times x F ≡ 0 → Absent x F
none_times x F e d i m = omega (arith, times_at x i m)

pub times_removed : (x : ℤ) {c : Clause} {F G : Formula} → Removed c F G → times x F ≡ bit (holds x c) + times x G
unfolding times count
times_removed x {c} (found {d = d} e) = omega (arith, holds_same x c d (same_set_same c d (of_true e)))
times_removed x (later e r) = omega (arith, times_removed x r)

-- a clause that holds a literal which the deleted one does not hold stays
pub stays_in : (x : ℤ) {c d : Clause} {F G : Formula} → Removed c F G → Memᴰ d F → Memᴰ x d → (Memᴰ x c → ⊥) → Memᴰ d G
stays_in x r i m n = ⊎_elim (λ s. absurd (n (s.1 x m))) (λ j. j) (split r i)

-- ---- unique literal clauses
pub unique_at : (F : Formula) (c : Clause) → T (unique F c) → (x : ℤ) → Memᴰ x c → times x F ≡ 1
unfolding unique
unique_at F c t x i = eqb→eq (times x F) 1 (all_at (λ l. eqb (times l F) 1) c (and_r (ltb 0 (length c)) _ t) x i)

pub unique_some : (F : Formula) (c : Clause) → T (unique F c) → 1 ≤ length c
unfolding unique
unique_some F c t = ltb-true 0 (length c) (to_true (and_l (ltb 0 (length c)) _ t))

pub at_unique : (F : Formula) (c : Clause) → 1 ≤ length c → ((x : ℤ) → Memᴰ x c → times x F ≡ 1) → T (unique F c)
unfolding unique
at_unique F c b h =
    and_i (ltb 0 (length c)) _ (of_true (lt-ltb 0 (length c) b)) (all_of (λ l. eqb (times l F) 1) c (λ x i. of_true (eq-eqb (times x F) 1 (h x i))))

-- a literal in two clauses
pub two_clauses : (x : ℤ) (k : Clause) (F : Formula) → Memᴰ x k → (d : Clause) → Memᴰ d F → Memᴰ x d → 2 ≤ times x (k ∷ F)
two_clauses x k F i d j m = omega (arith, times_at x j m, times_cons x k F, ap bit (holds_yes x k i))

-- a literal that stands in one clause
pub one_clause : (l : ℤ) (F : Formula) → times l F ≡ 1 → (a b : Clause) → Memᴰ a F → Memᴰ l a → Memᴰ b F → Memᴰ l b → a ≡ b
one_clause l (d ∷ F) e a b (here i) m (here j) n = i ∙ sym j
one_clause l (d ∷ F) e a b (here i) m (there j) n = absurd (omega (arith, two_clauses l d F (rw i at m) b j n))
one_clause l (d ∷ F) e a b (there i) m (here j) n = absurd (omega (arith, two_clauses l d F (rw j at n) a i m))
one_clause l (d ∷ F) e a b (there i) m (there j) n = one_clause l F (omega (arith, times_at l i m, times_cons l d F)) a b i m j n
one_clause l [] e a b x5 m _ n = elim x5 [ ]
