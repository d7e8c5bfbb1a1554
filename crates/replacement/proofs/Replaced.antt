-- The definition's words by the table of places: what stands for a literal, and which results hold a literal and its negation. Assumes nothing.
use mathlib.Core.Path.{◌≡◌, refl, sym, ap, ◌∙◌}
use mathlib.Core.List.Memᴰ
use mathlib.Core.List.{List}
use mathlib.Core.Option.{Option, some, none}
use Prim.Native.Nat.{ℕ, ◌+◌, ◌-◌, ◌≤◌, ◌<◌}
use native.Mathlib.Omega.{arith}
use lib.Dec.{T, ltb, eqb}
use lib.IntN.{ℤ, neg_ℤ}
use lib.ListN.{length, get_or, replicate}
use borrow.Author.Tests.{lt-ltb, ltb-true, eqb-true, eq-eqb}
use Rattle.definition.specs.Lists.{any, for_each}
use Rattle.definition.specs.Literals.{Clause, opposed}
use Rattle.definition.specs.Events.{Choice}
use Rattle.definition.specs.Counter.{size, lit, new}
use Rattle.definition.specs.Order.{place_from, previous, negated_new, instead_of, replaced}
use Rattle.theory_base.proofs.Tests.{of_true, to_true, each_way, and_l, and_r, and_i}
use mathlib.Core.Bool.{Bool, false}
use Rattle.theory_base.proofs.Chains.{any_is}
use Rattle.theory_base.proofs.Members.{any_mem, mem_any}
use Rattle.theory_base.specs.Clauses.{Proper, FitAll}
use Rattle.theory_base.proofs.Places.{place_of}
use Rattle.theory_base.proofs.Fitting.{UpTo}
use Rattle.theory_counter.specs.Ready.{WellFormed}
use Rattle.theory_order.proofs.Results.{Neighbours, opposed_exactly}
use Rattle.tables.specs.Places.{place_in, number_of, Places}
use Rattle.tables.proofs.Places.{place_there, place_back}
use Rattle.replacement.proofs.Marks.{mark_tells}
use Rattle.replacement.specs.Replaced.{with_place_marks, next_in, opposed_by, instead_by}

-- ---- the choice's words

-- what stands for a literal
abbrev pub instead : Choice → ℤ → Clause
instead k m = instead_of k m (place_from 1 (neg_ℤ m) k.literals)

pub replaced_each : (k : Choice) (d : Clause) → for_each d (instead k) ≡ replaced k d
unfolding replaced
replaced_each k d = refl

module _ {t : List ℕ} (k : Choice) (v : Places t k.literals) where
  abbrev l : Clause
  l = k.literals

  -- m is the negation of the literal at its place
  placed_at : (m : ℤ) → 0 < place_in t m → (place_in t m ≤ size k) × (m ≡ neg_ℤ (lit k (place_in t m)))
  unfolding lit size
  placed_at m h =
      let r = place_back v m h in
      let e : place_in t m - 1 ≡ r.0 = omega (arith, r.3) in
      (omega (arith, r.1, r.3), rw e r.2)

  -- the negation of the literal at a place has that place
  at_place : Proper l → (p : ℕ) → 0 < p → p ≤ size k → place_in t (neg_ℤ (lit k p)) ≡ p
  unfolding lit size
  at_place a p h b =
      let e : p - 1 + 1 ≡ p = omega arith in
      place_there v a (p - 1) (omega arith) ∙ e

  pub instead_is : (m : ℤ) → instead_by (length k.literals) k.below m (place_in t m) ≡ instead k m
  unfolding instead_of previous negated_new new size
  instead_is m = go (place_from 1 (neg_ℤ m) l) refl
    where
      go : (o : Option ℕ) → place_from 1 (neg_ℤ m) l ≡ o → instead_by (length l) k.below m (place_in t m) ≡ instead_of k m o
      go none e = let q : place_in t m ≡ 0 = v.told m ∙ ap number_of e in rw q refl
      go (some p) e =
          let q : place_in t m ≡ p = v.told m ∙ ap number_of e in
          rw q (rw (lt-ltb 0 p (omega (arith, (place_of 1 (neg_ℤ m) l p e).1))) refl)

  -- the next place is marked exactly where the clause holds the negation of the next literal
  pub opposed_is : WellFormed k → length k.literals ≤ 64 → (d : Clause) → Proper d → FitAll k.below d → opposed_by t d ≡ opposed (replaced k d)
  unfolding size
  opposed_is u b d a g = any_is (next_in t w) d ∙ each_way (λ z. of_true ((opposed_exactly k u d f a).1 (one z))) (λ z. two ((opposed_exactly k u d f a).0 (to_true z)))
    where
      f : UpTo k.below d
      f x i = (g x i).1

      w : List Bool
      w = with_place_marks t (replicate 66 false) d

      one : T (any (next_in t w) d) → Neighbours k d
      one z =
          let r = any_mem (next_in t w) d z in
          let p = place_in t r.0 in
          let h : 0 < p = ltb-true 0 p (to_true (and_l (ltb 0 p) (get_or w (p + 1) false) r.2)) in
          let q = placed_at r.0 h in
          let n = any_mem (λ m. eqb (place_in t m) (p + 1)) d (of_true (sym (mark_tells t (p + 1) d (omega (arith, q.0))) ∙ to_true (and_r (ltb 0 p) (get_or w (p + 1) false) r.2))) in
          let e : place_in t n.0 ≡ p + 1 = eqb-true (place_in t n.0) (p + 1) (to_true n.2) in
          let g = placed_at n.0 (omega arith) in
          record {
            place = p;
            from_first = h;
            before_last = omega (arith, g.0);
            one = Memᴰ.cast (sym q.1) r.1;
            next = Memᴰ.cast (sym (g.1 ∙ ap (λ (i : ℕ). neg_ℤ (lit k i)) e)) n.1;
          }

      two : Neighbours k d → T (any (next_in t w) d)
      two n =
          let m = neg_ℤ (lit k n.place) in
          let e : place_in t m ≡ n.place = at_place u.proper n.place n.from_first (omega (arith, n.before_last)) in
          let g : place_in t (neg_ℤ (lit k (n.place + 1))) ≡ n.place + 1 = at_place u.proper (n.place + 1) (omega arith) (omega (arith, n.before_last)) in
          mem_any (next_in t w) d m n.one
          (and_i (ltb 0 (place_in t m)) (get_or w (place_in t m + 1) false)
          (of_true (lt-ltb 0 (place_in t m) (omega (arith, n.from_first))))
          (of_true (mark_tells t (place_in t m + 1) d (omega (arith, n.before_last))
          ∙ to_true (mem_any (λ x. eqb (place_in t x) (place_in t m + 1)) d (neg_ℤ (lit k (n.place + 1))) n.next
          (of_true (eq-eqb (place_in t (neg_ℤ (lit k (n.place + 1)))) (place_in t m + 1) (omega arith)))))))
