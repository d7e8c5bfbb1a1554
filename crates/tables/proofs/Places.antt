-- A clause's places, set in a table of zeros, say where each literal stands in it. Assumes nothing.
use mathlib.Core.Path.{◌≡◌, refl, sym, ap, ◌∙◌}
use mathlib.Core.Logic.{◌≢◌}
use mathlib.Core.Bool.{Bool, true, false, cond, not}
use mathlib.Core.List.Memᴰ.{head as here}
use mathlib.Core.List.Memᴰ.{tail as there}
use mathlib.Core.List.{List, [], ◌∷◌, Memᴰ}
use mathlib.Core.Option.{Option, some, none}
use Prim.Native.Nat.{ℕ, suc, ◌+◌, ◌≤◌, ◌<◌, min}
use native.Mathlib.Numerals.{add-one}
use native.Mathlib.Omega.{arith}
use lib.Dec.{leb, ltb}
use lib.IntN.{ℤ, pos, neg_ℤ, neg_ℤ-neg_ℤ, nat_abs}
use lib.ListN.{length, get_or, set, drop, length-set, replicate, length-replicate}
use lib.Seq.{get_or-set_other}
use borrow.Author.Tests.{leb-true, leb-false, ltb-true, ltb-false}
use Rattle.definition.specs.Literals.{Clause, same}
use Rattle.definition.specs.Order.{place_from}
use Rattle.theory_base.proofs.Tests.{of_true, by_test}
use Rattle.theory_base.proofs.Members.{same_eq, unlike_false, natAbs_neg}
use Rattle.theory_base.specs.Clauses.{Proper, FitAll}
use Rattle.theory_base.proofs.Places.{place_of, place_at}
use Rattle.theory_base.proofs.Slices.{drop_step, drop_end, getD_zeros}
use Rattle.literals.specs.Literal.{index_of, negation, negative, with_sign, largest}
use Rattle.literals.proofs.Laws.{index_within, negation_small}
use Rattle.tables.specs.Entries.{entry_of, with_entries}
use Rattle.tables.specs.Places.{with_numbers, place_in, number_of, Places}
use Rattle.tables.proofs.Laws.{entry_past, entry_zeros, entry_set, entry_set_other, reset_zeros}

pub numbers_step : (t : List ℕ) (s : Clause) (i : ℕ) → i < length s → with_numbers (set t (index_of (get_or s i (pos 0))) (i + 1)) (i + 1 + 1) (drop (i + 1) s) ≡ with_numbers t (i + 1) (drop i s)
unfolding with_numbers
numbers_step t s i h = rw (drop_step s i (pos 0) h) refl

pub numbers_end : (t : List ℕ) (s : Clause) (i : ℕ) → length s ≤ i → t ≡ with_numbers t (i + 1) (drop i s)
unfolding with_numbers
numbers_end t s i h = rw (drop_end s i h) refl

length_numbers : (t : List ℕ) (i : ℕ) (c : Clause) → length (with_numbers t i c) ≡ length t
unfolding with_numbers
length_numbers t i [] = refl
length_numbers t i (l ∷ c) = length_numbers (set t (index_of l) i) (i + 1) c ∙ length-set t (index_of l) i

-- an index of no literal of the clause keeps its entry
numbers_other : (c : Clause) (t : List ℕ) (k i : ℕ) → ((l : ℤ) → Memᴰ l c → index_of l ≢ i) → get_or (with_numbers t k c) i 0 ≡ get_or t i 0
unfolding with_numbers
numbers_other [] t k i n = refl
numbers_other (x ∷ c) t k i n =
    numbers_other c (set t (index_of x) k) (k + 1) i (λ l m. n l (there m))
    ∙ get_or-set_other t (index_of x) i k 0 (λ q. n x (here refl) (sym q))

-- a clause's places in a table of zeros leave no trace once its entries are 0
pub unplaced : (n : ℕ) (c : Clause) → with_entries (with_numbers (replicate n 0) 1 c) c 0 ≡ replicate n 0
unplaced n c = reset_zeros n (with_numbers (replicate n 0) 1 c) c (length_numbers (replicate n 0) 1 c ∙ length-replicate {A = ℕ} n 0) (λ i f. numbers_other c (replicate n 0) 1 i f ∙ getD_zeros n i)

-- a literal that is not in the clause keeps its entry
kept_number : (x : ℤ) (c : Clause) (t : List ℕ) (i : ℕ) → (Memᴰ x c → ⊥) → entry_of (with_numbers t i c) x ≡ entry_of t x
unfolding with_numbers
kept_number x [] t i n = refl
kept_number x (l ∷ c) t i n = kept_number x c (set t (index_of l) i) (i + 1) (λ j. n (there j)) ∙ entry_set_other t i l x (λ e. n (here e))

-- the place, or else the entry before
abbrev number_or : ℕ → Option ℕ → ℕ
number_or n none = n
number_or n (some i) = i

entry_numbers : (x : ℤ) (c : Clause) (t : List ℕ) (i : ℕ) → Proper c → index_of x < length t → entry_of (with_numbers t i c) x ≡ number_or (entry_of t x) (place_from i x c)
unfolding with_numbers place_from
entry_numbers x [] t i a h = refl
entry_numbers x (l ∷ c) t i a h = go (same x l) refl (entry_numbers x c (set t (index_of l) i) (i + 1) a.3 (rw (length-set t (index_of l) i) h))
  where
    go : (b : Bool) → same x l ≡ b → entry_of (with_numbers (set t (index_of l) i) (i + 1) c) x ≡ number_or (entry_of (set t (index_of l) i) x) (place_from (i + 1) x c)
        → entry_of (with_numbers (set t (index_of l) i) (i + 1) c) x ≡ number_or (entry_of t x) (cond b (some i) (place_from (suc i) x c))
    go true e ih =
        let q : x ≡ l = same_eq x l (of_true e) in
        kept_number x c (set t (index_of l) i) (i + 1) (λ j. a.1 (rw q at j))
        ∙ entry_set t i l x h ∙ rw e refl
    go false e ih = ih ∙ rw (entry_set t i l x h, e, add-one i) refl

place_none : (i : ℕ) (x : ℤ) (c : Clause) → (Memᴰ x c → ⊥) → place_from i x c ≡ none
unfolding place_from
place_none i x [] n = refl
place_none i x (l ∷ c) n = rw (unlike_false x l (λ e. n (here e))) (place_none (suc i) x c (λ j. n (there j)))

signed_variable : (s : Bool) (n : ℕ) → nat_abs (with_sign s n) ≡ n
signed_variable true n = natAbs_neg (pos n)
signed_variable false n = refl

number_zero : (n : ℕ) (o : Option ℕ) → n ≡ 0 → number_or n o ≡ number_of o
number_zero n none e = e
number_zero n (some i) e = refl

module _ (h : ℕ) (b : h < largest) (l : Clause) (a : Proper l) (u : FitAll h l) (m : ℤ) where
  abbrev t : List ℕ
  t = replicate (h + h + 2) 0

  size : length t ≡ h + h + 2
  size = length-replicate {A = ℕ} (h + h + 2) 0

  place_inside : nat_abs m ≤ h → place_in (with_numbers t 1 l) m ≡ number_of (place_from 1 (neg_ℤ m) l)
  place_inside e =
      ap (λ (z : ℤ). entry_of (with_numbers t 1 l) z) (negation_small m (omega arith))
      ∙ entry_numbers (neg_ℤ m) l t 1 a (omega (arith, size, index_within (neg_ℤ m), natAbs_neg m))
      ∙ number_zero (entry_of t (neg_ℤ m)) (place_from 1 (neg_ℤ m) l) (entry_zeros (h + h + 2) (neg_ℤ m))

  place_outside : h < nat_abs m → place_in (with_numbers t 1 l) m ≡ number_of (place_from 1 (neg_ℤ m) l)
  place_outside e =
      entry_past (with_numbers t 1 l) (negation m) (omega (arith, signed_variable (not (negative m)) (min (nat_abs m) largest), length_numbers t 1 l, size))
      ∙ sym (ap number_of (place_none 1 (neg_ℤ m) l (λ j. omega (arith, (u (neg_ℤ m) j).1, natAbs_neg m))))

-- THE TABLE'S MEANING, over any reach
pub places_of : (h : ℕ) → h < largest → (l : Clause) → Proper l → FitAll h l → Places (with_numbers (replicate (h + h + 2) 0) 1 l) l
places_of h b l a u = record { told = λ m. by_test (leb (nat_abs m) h) (λ e. place_inside h b l a u m (leb-true (nat_abs m) h e)) (λ e. place_outside h b l a u m (leb-false (nat_abs m) h e)) }

-- ---- what the table says of a literal

module _ {t : List ℕ} {l : Clause} (v : Places t l) where
  -- the negation of each literal of l has its place
  pub place_there : Proper l → (i : ℕ) → i < length l → place_in t (neg_ℤ (get_or l i (pos 0))) ≡ i + 1
  place_there a i h =
      let e : 1 + i ≡ i + 1 = omega arith in
      v.told (neg_ℤ (get_or l i (pos 0))) ∙ ap (λ (z : ℤ). number_of (place_from 1 z l)) (neg_ℤ-neg_ℤ (get_or l i (pos 0))) ∙ ap number_of (place_at 1 l a i h) ∙ e

  -- a literal with a place is the negation of the one there
  pub place_back : (m : ℤ) → 0 < place_in t m → (i : ℕ) × (i < length l) × (m ≡ neg_ℤ (get_or l i (pos 0))) × (place_in t m ≡ i + 1)
  place_back m h = go (place_from 1 (neg_ℤ m) l) refl
    where
      go : (o : Option ℕ) → place_from 1 (neg_ℤ m) l ≡ o → (i : ℕ) × (i < length l) × (m ≡ neg_ℤ (get_or l i (pos 0))) × (place_in t m ≡ i + 1)
      go none e = let z : place_in t m ≡ 0 = v.told m ∙ ap number_of e in absurd (omega arith)
      go (some p) e =
          let r = place_of 1 (neg_ℤ m) l p e in
          (r.0, r.2, sym (neg_ℤ-neg_ℤ m) ∙ ap neg_ℤ (sym r.3), omega (arith, v.told m, ap number_of e, r.1))

  pub place_within : (m : ℤ) → place_in t m ≤ length l
  place_within m = by_test (ltb 0 (place_in t m)) (λ e. let r = place_back m (ltb-true 0 (place_in t m) e) in omega (arith, r.1, r.3)) (λ e. omega (arith, ltb-false 0 (place_in t m) e))
