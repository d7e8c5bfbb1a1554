-- Entries read after they are set, and marks in a table of stamps. Assumes nothing.
use mathlib.Core.Path.{◌≡◌, refl, sym, ap, ap₂, ◌∙◌}
use mathlib.Core.Logic.{◌≢◌}
use mathlib.Core.Bool.{Bool, true, false, cond, ◌||◌, or-false, or-true}
use mathlib.Core.List.Memᴰ.{head as here}
use mathlib.Core.List.Memᴰ.{tail as there}
use mathlib.Core.List.{List, [], ◌∷◌, ◌++◌, Memᴰ}
use Prim.Native.Nat.{ℕ, zero, suc, ◌+◌, ◌≤◌, ◌<◌}
use native.Mathlib.Omega.{arith}
use lib.Dec.{eqb, ltb}
use lib.IntN.{ℤ, pos, negsuc, neg_ℤ, nat_abs}
use lib.ListN.{length, get_or, set, drop, length-set, replicate, get_or-eq_default}
use lib.Seq.{get_or-set_same, get_or-set_other}
use borrow.Author.Tests.{eqb-true, eqb-false, eq-eqb, ne_eqb, ltb-true, ltb-false}
use Rattle.definition.specs.Lists.{any}
use Rattle.definition.specs.Literals.{Clause, same, holds}
use Rattle.theory_base.proofs.Tests.{by_test, of_true, to_true}
use Rattle.theory_base.proofs.Members.{same_eq, same_refl, unlike, natAbs_neg, holds_snoc}
use Rattle.theory_base.proofs.Slices.{drop_step, drop_end, getD_zeros}
use Rattle.literals.specs.Literal.{index_of, negation}
use mir.Syntax.{w32}
use mir.Val.{SFits, of_z, to_z}
use Rattle.literals.proofs.Laws.{answer, answer_negated, negation_small, index_injective, index_within}
use Rattle.tables.specs.Sizes.{log_reach, log_size}
use Rattle.tables.specs.Entries.{entry_of, with_entries}
use Rattle.tables.specs.Stamps.{AtMost, Marks, Fresh}

-- ---- where a table reaches

-- an entry for each variable up to h
pub index_inside : (h : ℕ) (t : List ℕ) (l : ℤ) → h + h + 2 ≤ length t → nat_abs l ≤ h → index_of l < length t
index_inside h t l r b = omega (arith, index_within l)

index_least : (l : ℤ) → nat_abs l + nat_abs l ≤ index_of l
index_least (pos n) = omega arith
index_least (negsuc n) = omega arith

-- a variable past the table reads 0
pub entry_past : (t : List ℕ) (l : ℤ) → length t ≤ nat_abs l + nat_abs l → entry_of t l ≡ 0
entry_past t l h = get_or-eq_default t 0 (omega (arith, index_least l))

pub entry_zeros : (n : ℕ) (l : ℤ) → entry_of (replicate n 0) l ≡ 0
entry_zeros n l = getD_zeros n (index_of l)

-- ---- read after set

entry_set_same : (t : List ℕ) (v : ℕ) (l : ℤ) → index_of l < length t → entry_of (set t (index_of l) v) l ≡ v
entry_set_same t v l h = get_or-set_same t (index_of l) v 0 h

pub entry_set_other : (t : List ℕ) (v : ℕ) (x l : ℤ) → l ≢ x → entry_of (set t (index_of x) v) l ≡ entry_of t l
entry_set_other t v x l n = get_or-set_other t (index_of x) (index_of l) v 0 (λ q. n (index_injective l x q))

pub entry_set : (t : List ℕ) (v : ℕ) (x l : ℤ) → index_of l < length t → entry_of (set t (index_of x) v) l ≡ cond (same l x) v (entry_of t l)
entry_set t v x l h = by_test (same l x) yes no
  where
    yes : same l x ≡ true → entry_of (set t (index_of x) v) l ≡ cond (same l x) v (entry_of t l)
    yes e = rw e (rw (same_eq l x (of_true e)) (entry_set_same t v x (rw (same_eq l x (of_true e)) at h)))

    no : same l x ≡ false → entry_of (set t (index_of x) v) l ≡ cond (same l x) v (entry_of t l)
    no e = rw e (entry_set_other t v x l (unlike l x e))

-- ---- the literals of a clause set

pub entries_step : (t : List ℕ) (s : Clause) (i v : ℕ) → i < length s → with_entries (set t (index_of (get_or s i (pos 0))) v) (drop (i + 1) s) v ≡ with_entries t (drop i s) v
unfolding with_entries
entries_step t s i v h = rw (drop_step s i (pos 0) h) refl

pub entries_end : (t : List ℕ) (s : Clause) (i v : ℕ) → length s ≤ i → t ≡ with_entries t (drop i s) v
unfolding with_entries
entries_end t s i v h = rw (drop_end s i h) refl

pub length_entries : (t : List ℕ) (c : Clause) (v : ℕ) → length (with_entries t c v) ≡ length t
unfolding with_entries
length_entries t [] v = refl
length_entries t (l ∷ c) v = length_entries (set t (index_of l) v) c v ∙ length-set t (index_of l) v

pub entry_set_all : (t : List ℕ) (c : Clause) (v : ℕ) (l : ℤ) → index_of l < length t → entry_of (with_entries t c v) l ≡ cond (holds l c) v (entry_of t l)
unfolding with_entries holds any
entry_set_all t [] v l h = refl
entry_set_all t (x ∷ c) v l h =
    entry_set_all (set t (index_of x) v) c v l (rw (length-set t (index_of x) v) h) ∙ rw (entry_set t v x l h) (go (same l x) (any (same l) c))
  where
    go : (a b : Bool) → cond b v (cond a v (entry_of t l)) ≡ cond (a || b) v (entry_of t l)
    go true true = refl
    go true false = refl
    go false b = refl

-- ---- back to zeros

-- entry by entry
pub zeros_by_entry : (t : List ℕ) (n : ℕ) → length t ≡ n → ((i : ℕ) → ◌≡◌ {A = ℕ} (get_or t i 0) 0) → t ≡ replicate n 0
zeros_by_entry [] zero e h = refl
zeros_by_entry [] (suc n) e h = absurd (omega arith)
zeros_by_entry (x ∷ t) zero e h = absurd (omega arith)
zeros_by_entry (x ∷ t) (suc n) e h = ap₂ (λ (y : ℕ) (r : List ℕ). y ∷ r) (h 0) (zeros_by_entry t n (omega arith) (λ i. h (suc i)))

zero_set : (t : List ℕ) (i : ℕ) → ◌≡◌ {A = ℕ} (get_or (set t i 0) i 0) 0
zero_set t i = by_test (ltb i (length t))
    (λ e. get_or-set_same t i 0 0 (ltb-true i (length t) e))
    (λ e. get_or-eq_default (set t i 0) 0 (omega (arith, ltb-false i (length t) e, length-set t i 0)))

-- a table with no entry but those of a clause is all zeros once they are set to 0
pub reset_zeros : (n : ℕ) (t : List ℕ) (c : Clause) → length t ≡ n → ((i : ℕ) → ((l : ℤ) → Memᴰ l c → index_of l ≢ i) → ◌≡◌ {A = ℕ} (get_or t i 0) 0) → with_entries t c 0 ≡ replicate n 0
unfolding with_entries
reset_zeros n t [] e h = zeros_by_entry t n e (λ i. h i (λ l. elim [ ]))
reset_zeros n t (x ∷ c) e h = reset_zeros n (set t (index_of x) 0) c (length-set t (index_of x) 0 ∙ e) rest
  where
    rest : (i : ℕ) → ((l : ℤ) → Memᴰ l c → index_of l ≢ i) → ◌≡◌ {A = ℕ} (get_or (set t (index_of x) 0) i 0) 0
    rest i f = by_test (eqb i (index_of x))
        (λ q. rw (eqb-true i (index_of x) q) (zero_set t (index_of x)))
        (λ q. get_or-set_other t (index_of x) i 0 0 (eqb-false i (index_of x) q) ∙ h i (others (eqb-false i (index_of x) q)))
      where
        others : i ≢ index_of x → (l : ℤ) → Memᴰ l (x ∷ c) → index_of l ≢ i
        others n l (here k) = λ q. n (sym q ∙ ap index_of k)
        others n l (there m) = f l m

-- ---- stamps

-- a table of zeros
pub zeros_at_most : (n stamp : ℕ) → AtMost (replicate n 0) stamp
zeros_at_most n stamp i = rw (getD_zeros n i) (omega arith)

pub fresh_more : (table : List ℕ) (stamp : ℕ) → AtMost table stamp → Fresh table (stamp + 1)
fresh_more table stamp b = record { below = λ i. more (get_or table i 0) (b i) }
  where
    more : (x : ℕ) → x ≤ stamp → x < stamp + 1
    more x h = omega arith

-- ---- the marks

pub marks_start : (table : List ℕ) (stamp : ℕ) → Fresh table stamp → Marks table stamp []
unfolding holds any
marks_start table stamp f = record {
  told = λ l h. ne_eqb (get_or table (index_of l) 0) stamp (λ e. no (get_or table (index_of l) 0) e (f.below (index_of l)));
  below = λ i. below (get_or table i 0) (f.below i);
}
  where
    no : (x : ℕ) → x ≡ stamp → x < stamp → ⊥
    no x e h = omega arith

    below : (x : ℕ) → x < stamp → x ≤ stamp
    below x h = omega arith

module _ (table : List ℕ) (stamp : ℕ) (here : Clause) (k : Marks table stamp here) (l : ℤ) (room : index_of l < length table) where
  told_same : eqb (entry_of (set table (index_of l) stamp) l) stamp ≡ holds l (here ++ (l ∷ []))
  told_same = eq-eqb _ _ (entry_set_same table stamp l room) ∙ sym (holds_snoc l here l ∙ ap (λ (b : Bool). holds l here || b) (to_true (same_refl l)) ∙ or-true (holds l here))

  told_other : (m : ℤ) → nat_abs m ≤ log_reach → same m l ≡ false → eqb (entry_of (set table (index_of l) stamp) m) stamp ≡ holds m (here ++ (l ∷ []))
  told_other m g e =
      ap (λ (x : ℕ). eqb x stamp) (entry_set_other table stamp l m (unlike m l e))
      ∙ k.told m g
      ∙ sym (holds_snoc m here l ∙ ap (λ (b : Bool). holds m here || b) e ∙ or-false (holds m here))

  set_below : AtMost (set table (index_of l) stamp) stamp
  set_below i = by_test (eqb i (index_of l))
      (λ e. rw (eqb-true i (index_of l) e, get_or-set_same table (index_of l) stamp 0 room) (omega arith))
      (λ e. rw (get_or-set_other table (index_of l) i stamp 0 (eqb-false i (index_of l) e)) (k.below i))

  marks_add : Marks (set table (index_of l) stamp) stamp (here ++ (l ∷ []))
  marks_add = record {
    told = λ m g. by_test (same m l) (λ e. rw (same_eq m l (of_true e)) told_same) (told_other m g);
    below = set_below;
  }

-- ---- the answers, by the entries a and b of a literal and its negation

module _ (l : ℤ) (h : nat_abs l ≤ log_reach) (table : List ℕ) (stamp : ℕ) {a : ℕ} (p : a ≡ entry_of table l) (here : Clause) (k : Marks table stamp here) where
  itself : eqb a stamp ≡ holds l here
  itself = rw p (k.told l h)

  module _ (n : a ≡ stamp → ⊥) {b : ℕ} (q : b ≡ entry_of table (negation l)) where
    other : eqb b stamp ≡ holds (neg_ℤ l) here
    other = rw (q, negation_small l (omega arith)) (k.told (neg_ℤ l) (rw (natAbs_neg l) h))

    pub mark_opposed : b ≡ stamp → (holds l here ≡ false) × (holds (neg_ℤ l) here ≡ true) × Marks table stamp here
    mark_opposed e = (sym itself ∙ ne_eqb a stamp n, sym other ∙ eq-eqb b stamp e, k)

    pub mark_new : {new : List ℕ} → (b ≡ stamp → ⊥) → log_size ≤ length table → new ≡ set table (index_of l) stamp → (holds l here ≡ false) × (holds (neg_ℤ l) here ≡ false) × Marks new stamp (here ++ (l ∷ []))
    mark_new m room e = (
      sym itself ∙ ne_eqb a stamp n,
      sym other ∙ ne_eqb b stamp m,
      rw e (marks_add table stamp here k l (index_inside log_reach table l room h)),
    )

-- what the code says of a literal whose negation is marked
pub opposed_marked : {l n : ℤ} {t : List ℕ} {stamp a b : ℕ} → nat_abs l ≤ log_reach → SFits w32 l → SFits w32 n →
    a ≡ entry_of t (to_z w32 (of_z w32 l)) → (a ≡ stamp → ⊥) → n ≡ negation (to_z w32 (of_z w32 l)) → b ≡ entry_of t (to_z w32 (of_z w32 n)) → b ≡ stamp →
    (c : Clause) → Marks t stamp c → (holds l c ≡ false) × (holds (neg_ℤ l) c ≡ true) × Marks t stamp c
opposed_marked {l = l} {t = t} {stamp = stamp} h f k p n e q r c m =
    mark_opposed l h t stamp (answer (entry_of t) l f p) c m n (answer_negated (entry_of t) l f k e q) r
