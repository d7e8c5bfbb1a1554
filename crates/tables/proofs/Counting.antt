-- A table counted from zeros: its entry at a literal is the number of clauses in which the literal stands, and the tests by it are the definition's. Assumes nothing.
use mathlib.Core.Path.{◌≡◌, refl, sym, ap, ◌∙◌}
use mathlib.Core.Bool.{Bool, true, false, not, cond, ◌&&◌, ◌||◌}
use mathlib.Core.Logic.{◌≢◌}
use mathlib.Core.List.Memᴰ.{head as here}
use mathlib.Core.List.Memᴰ.{tail as there}
use mathlib.Core.List.{List, [], ◌∷◌, Memᴰ}
use Prim.Native.Nat.{ℕ, ◌+◌, ◌≤◌, ◌<◌, min}
use native.Mathlib.Omega.{arith}
use lib.Dec.{eqb, ltb}
use lib.IntN.{ℤ, pos, neg_ℤ, nat_abs}
use lib.ListN.{length, get_or, drop, length-set, replicate, length-replicate}
use lib.Seq.{get_or-set_other}
use Rattle.definition.specs.Lists.{bit, any, count, sum_of}
use Rattle.definition.specs.Literals.{Clause, Formula, same, holds, repeated}
use Rattle.definition.specs.Clearing.{times, unique, pure, choice_size, deletable}
use Rattle.theory_base.specs.Clauses.{ProperAll}
use Rattle.theory_base.proofs.Clauses.{proper_unrepeated}
use Rattle.theory_base.proofs.Tests.{of_true, differ, by_test, to_false}
use Rattle.theory_base.proofs.Members.{same_eq, any_mem, natAbs_neg, all_same}
use Rattle.theory_base.proofs.Slices.{drop_step, drop_end, getD_zeros}
use Rattle.literals.specs.Literal.{index_of, negation}
use Rattle.literals.proofs.Laws.{negation_small, index_within}
use Rattle.tables.specs.Entries.{entry_of, most, with_entries, counted_at, tallied, tallied_all}
use Rattle.tables.specs.Counts.{Counts, once_in, pure_in, unique_by, choice_by, deletable_by}
use Rattle.tables.proofs.Laws.{entry_zeros, entry_set, reset_zeros}

-- ---- the code's ways

pub tally_step : (t : List ℕ) (s : Clause) (i : ℕ) → i < length s → tallied (counted_at t (index_of (get_or s i (pos 0)))) (drop (i + 1) s) ≡ tallied t (drop i s)
unfolding tallied
tally_step t s i h = rw (drop_step s i (pos 0) h) refl

pub tally_end : (t : List ℕ) (s : Clause) (i : ℕ) → length s ≤ i → t ≡ tallied t (drop i s)
unfolding tallied
tally_end t s i h = rw (drop_end s i h) refl

-- ---- lengths

length_tallied : (t : List ℕ) (c : Clause) → length (tallied t c) ≡ length t
unfolding tallied
length_tallied t [] = refl
length_tallied t (l ∷ c) = length_tallied (counted_at t (index_of l)) c ∙ length-set t (index_of l) _

-- an index of no literal of the clause keeps its entry
tallied_other : (c : Clause) (t : List ℕ) (i : ℕ) → ((l : ℤ) → Memᴰ l c → index_of l ≢ i) → get_or (tallied t c) i 0 ≡ get_or t i 0
unfolding tallied
tallied_other [] t i n = refl
tallied_other (x ∷ c) t i n =
    tallied_other c (counted_at t (index_of x)) i (λ l m. n l (there m))
    ∙ get_or-set_other t (index_of x) i (min (get_or t (index_of x) 0 + 1) most) 0 (λ q. n x (here refl) (sym q))

-- a clause counted in a table of zeros leaves no trace once its entries are 0
pub uncounted : (n : ℕ) (c : Clause) → with_entries (tallied (replicate n 0) c) c 0 ≡ replicate n 0
uncounted n c = reset_zeros n (tallied (replicate n 0) c) c (length_tallied (replicate n 0) c ∙ length-replicate {A = ℕ} n 0) (λ i f. tallied_other c (replicate n 0) i f ∙ getD_zeros n i)

-- ---- an entry counts the places of its literal

counted_entry : (t : List ℕ) (x l : ℤ) → index_of l < length t → entry_of (counted_at t (index_of x)) l ≡ cond (same l x) (min (entry_of t l + 1) most) (entry_of t l)
counted_entry t x l h = entry_set t (min (entry_of t x + 1) most) x l h ∙ by_test (same l x) yes no
  where
    yes : same l x ≡ true → cond (same l x) (min (entry_of t x + 1) most) (entry_of t l) ≡ cond (same l x) (min (entry_of t l + 1) most) (entry_of t l)
    yes e = rw (same_eq l x (of_true e)) refl

    no : same l x ≡ false → cond (same l x) (min (entry_of t x + 1) most) (entry_of t l) ≡ cond (same l x) (min (entry_of t l + 1) most) (entry_of t l)
    no e = rw e refl

-- the places of l in a clause
abbrev places : ℤ → Clause → ℕ
places l c = count (same l) c

module _ (l : ℤ) where
  entry_of_clause : (c : Clause) (t : List ℕ) → index_of l < length t → entry_of t l ≤ most → entry_of (tallied t c) l ≡ min (entry_of t l + places l c) most
  unfolding tallied count
  entry_of_clause [] t h b = omega arith
  entry_of_clause (x ∷ c) t h b = go (same l x) (counted_entry t x l h) (entry_of_clause c (counted_at t (index_of x)) (rw (length-set t (index_of x) _) h))
    where
      go : (v : Bool) → entry_of (counted_at t (index_of x)) l ≡ cond v (min (entry_of t l + 1) most) (entry_of t l)
          → (entry_of (counted_at t (index_of x)) l ≤ most → entry_of (tallied (counted_at t (index_of x)) c) l ≡ min (entry_of (counted_at t (index_of x)) l + places l c) most)
          → entry_of (tallied (counted_at t (index_of x)) c) l ≡ min (entry_of t l + (bit v + places l c)) most
      go true e r = omega (arith, r (omega arith))
      go false e r = omega (arith, r (omega arith))

  entry_of_formula : (f : Formula) (t : List ℕ) → index_of l < length t → entry_of t l ≤ most → entry_of (tallied_all t f) l ≡ min (entry_of t l + sum_of (places l) f) most
  unfolding tallied_all sum_of
  entry_of_formula [] t h b = omega arith
  entry_of_formula (c ∷ f) t h b =
      let e = entry_of_clause c t h b in
      omega (arith, e, entry_of_formula f (tallied t c) (omega (arith, length_tallied t c)) (omega (arith, e)))

-- ---- where no clause repeats a literal, the places are the clauses

places_none : (l : ℤ) (c : Clause) → holds l c ≡ false → places l c ≡ 0
unfolding holds any count
places_none l [] e = refl
places_none l (x ∷ c) e = go (same l x) e (λ m. places_none l c m)
  where
    go : (v : Bool) → (v || any (same l) c) ≡ false → (any (same l) c ≡ false → places l c ≡ 0) → bit v + places l c ≡ 0
    go true m r = differ {b = true} tt m
    go false m r = omega (arith, r m)

places_once : (l : ℤ) (c : Clause) → repeated c ≡ false → places l c ≡ bit (holds l c)
unfolding holds any count repeated
places_once l [] d = refl
places_once l (x ∷ c) d = go (same l x) refl (any (same x) c) refl d (λ r. places_once l c r)
  where
    go : (v : Bool) → same l x ≡ v → (w : Bool) → any (same x) c ≡ w → (w || repeated c) ≡ false → (repeated c ≡ false → places l c ≡ bit (any (same l) c)) → bit v + places l c ≡ bit (v || any (same l) c)
    go v e true k m r = differ {b = true} tt m
    go true e false k m r = omega (arith, places_none l c (ap (λ (z : ℤ). any (same z) c) (same_eq l x (of_true e)) ∙ k))
    go false e false k m r = omega (arith, r m)

places_times : (l : ℤ) (f : Formula) → any repeated f ≡ false → sum_of (places l) f ≡ times l f
unfolding times count sum_of any
places_times l [] d = refl
places_times l (c ∷ f) d = go (repeated c) refl d (places_once l c) (λ r. places_times l f r)
  where
    go : (v : Bool) → repeated c ≡ v → (v || any repeated f) ≡ false → (repeated c ≡ false → places l c ≡ bit (holds l c)) → (any repeated f ≡ false → sum_of (places l) f ≡ times l f)
        → places l c + sum_of (places l) f ≡ bit (holds l c) + count (holds l) f
    go true e m o r = differ {b = true} tt m
    go false e m o r = omega (arith, o e, r m)

-- a literal stands at most once in each clause
times_within : (l : ℤ) (f : Formula) → times l f ≤ length f
unfolding times count
times_within l [] = omega arith
times_within l (c ∷ f) = go (holds l c) (times_within l f)
  where
    go : (v : Bool) → times l f ≤ length f → bit v + times l f ≤ length (c ∷ f)
    go true h = omega arith
    go false h = omega arith

-- proper clauses repeat no literal
none_repeated : (f : Formula) → ProperAll f → any repeated f ≡ false
none_repeated f p = to_false (λ t. let r = any_mem repeated f t in differ r.2 (proper_unrepeated r.0 (p r.0 r.1)))

-- THE TABLE'S MEANING: counted from zeros it is the table of F, as long as a number of clauses is a u32
pub counted_table : (h : ℕ) (F : Formula) → ProperAll F → length F ≤ most → Counts h (tallied_all (replicate (h + h + 2) 0) F) F
counted_table h F p b l f =
    let z = entry_zeros (h + h + 2) l in
    let e = entry_of_formula l F (replicate (h + h + 2) 0) (omega (arith, index_within l, length-replicate {A = ℕ} (h + h + 2) 0)) (omega (arith, z)) in
    omega (arith, z, e, places_times l F (none_repeated F p), times_within l F)

-- ---- the tests

module _ (h : ℕ) (b : h ≤ 2147483647) (t : List ℕ) (F : Formula) (k : Counts h t F) (c : Clause) (f : (x : ℤ) → Memᴰ x c → nat_abs x ≤ h) where
  pub unique_is : unique_by t c ≡ unique F c
  unfolding unique
  unique_is = ap (λ (z : Bool). ltb 0 (length c) && z) (all_same (once_in t) (λ l. eqb (times l F) 1) c (λ x i. ap (λ (n : ℕ). eqb n 1) (k x (f x i))))

  pub choice_is : choice_by t c ≡ (choice_size c && unique F c)
  choice_is = ap (λ (z : Bool). choice_size c && z) unique_is

  pub deletable_is : deletable_by t c ≡ deletable F c
  unfolding deletable
  deletable_is = ap (λ (z : Bool). z && not (choice_size c)) unique_is

  pub pure_is : (x : ℤ) → Memᴰ x c → pure_in t x ≡ pure F x
  unfolding pure
  pure_is x i =
      let n : negation x ≡ neg_ℤ x = negation_small x (omega (arith, f x i)) in
      ap (λ (z : ℤ). eqb (entry_of t z) 0) n ∙ ap (λ (m : ℕ). eqb m 0) (k (neg_ℤ x) (rw natAbs_neg (f x i)))
