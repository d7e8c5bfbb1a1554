-- The index of a store kept: one entry more, a clause marked as deleted, elements behind it.
use mathlib.Core.Path.{◌≡◌, refl, sym, ap, ap₂, subst, ◌∙◌}
use mathlib.Core.Bool.{Bool, true, false, cond}
use mathlib.Core.List.{List, [], ◌∷◌, ◌++◌}
use Prim.Native.Nat.{ℕ, zero, suc, ◌+◌, ◌-◌, ◌≤◌, ◌<◌}
use native.Mathlib.Omega.{arith}
use native.Mathlib.Numerals.{add-one}
use lib.Dec.{eqb, ltb}
use lib.IntN.{ℤ, pos}
use lib.ListN.{length, get_or, set, take, drop, length-set, length-append, get_or-replicate, replicate}
use lib.Seq.{take-append-le, take_at, take-length, length-take-le, get_or-take, get_or-set_same, get_or-set_other, take-set-le, take-set-lt, drop-set-lt, drop-set-add}
use borrow.Author.Tests.{eqb-true, eqb-false, ltb-true, ltb-false}
use Rattle.definition.specs.Literals.{Clause}
use Rattle.theory_base.specs.Slices.{between}
use Rattle.theory_base.proofs.Parts.{get_d_between, set_between}
use Rattle.theory_base.proofs.Tests.{by_test}
use Rattle.theory_base.proofs.Loops.{by_order}
use Rattle.literals.specs.Literal.{largest, header_of, flip, header_literals}
use Rattle.literals.proofs.Laws.{literals_flip, literals_header}
use Rattle.store.specs.Store.{FormedFrom, Formed, header_at, size_at, clause_at, past, marked, Place}
use Rattle.store.proofs.Laws.{by_entries, place_within, place_end, place_formed, marked_place, formed_next, kept_clause, past_within}
use Rattle.replay.specs.Index.{keys, key_of, key_at, last_from, last_with, Indexed}
use Rattle.replay.proofs.Index.{key_within, last_next, last_within}

-- ---- a clause of a part marked as deleted

pub marked_between : (a b : ℕ) (w : List ℤ) (p : ℕ) → p < b - a → between a b (marked w (a + p)) ≡ marked (between a b w) p
marked_between a b w p h = set_between a b w p (flip (header_at w (a + p))) h ∙ ap (λ (x : ℤ). set (between a b w) p (flip x)) (sym (get_d_between a b w p (pos 0) h))

-- ---- one entry more

-- the key's entries with this one
module _ (s : List ℤ) (q : ℕ) (links : List ℤ) (heads : List ℕ) (h : q < length s) (p : Place s q) (i : Indexed s q links heads) (small : q ≤ largest) (room : q < length links) (table : length heads ≡ keys) where
  abbrev key : ℕ
  key = key_at s q

  newest_next : (k : ℕ) → k < keys → get_or (set heads key (suc q)) k 0 ≡ last_with k (take (past s q) s)
  newest_next k l = rw (last_next k s q h p) (go (eqb key k) refl)
    where
      go : (t : Bool) → eqb key k ≡ t → get_or (set heads key (suc q)) k 0 ≡ cond t (suc q) (last_with k (take q s))
      go true m = let e = eqb-true key k m in ap (λ (j : ℕ). get_or (set heads key (suc q)) j 0) (sym e) ∙ get_or-set_same heads key (suc q) 0 (omega (arith, key_within (clause_at s q)))
      go false m = get_or-set_other heads key k (suc q) 0 (λ e. eqb-false key k m (sym e)) ∙ i.newest k l

  linked_next : (a : ℕ) → a < past s q → Place s a → header_literals (header_at (set links q (header_of (get_or heads key 0))) a) ≡ last_with (key_at s a) (take a s)
  linked_next a l pa =
      by_test (ltb a q) (λ t. old (ltb-true a q t))
      (λ t. by_order q a (ltb-false a q t)
      (λ e. subst (λ (j : ℕ). header_literals (header_at (set links q (header_of (get_or heads key 0))) j) ≡ last_with (key_at s j) (take j s)) e this)
      (λ x. absurd (omega (arith, past_within p pa x))))
    where
      old : a < q → header_literals (header_at (set links q (header_of (get_or heads key 0))) a) ≡ last_with (key_at s a) (take a s)
      old x = ap header_literals (get_or-set_other links q a (header_of (get_or heads key 0)) (pos 0) (λ e. omega arith)) ∙ i.linked a x pa

      n : get_or heads key 0 ≡ last_with key (take q s)
      n = i.newest key (key_within (clause_at s q))

      this : header_literals (header_at (set links q (header_of (get_or heads key 0))) q) ≡ last_with key (take q s)
      this =
          ap header_literals (get_or-set_same links q (header_of (get_or heads key 0)) (pos 0) room)
          ∙ literals_header (get_or heads key 0) (omega (arith, n, last_within key (take q s), length-take-le q s p.inside))
          ∙ n

  pub indexed_next : (new : List ℤ) (table : List ℕ) → new ≡ set links q (header_of (get_or heads key 0)) → table ≡ set heads key (q + 1) → Indexed s (past s q) new table
  indexed_next new table d e = rw (d, e ∙ ap (set heads key) (add-one q)) (record { newest = newest_next; linked = linked_next })

-- nothing is indexed
pub indexed_none : (s links : List ℤ) → Indexed s 0 links (replicate keys 0)
unfolding last_from
indexed_none s links = record { newest = λ k l. get_or-replicate {A = ℕ} keys k 0 0 l; linked = λ a l. absurd (omega arith) }

-- ---- elements behind the indexed part
module _ (s t : List ℤ) (links : List ℤ) (heads : List ℕ) (f : Formed s) (i : Indexed s (length s) links heads) where
  pub indexed_more : Indexed (s ++ t) (length s) links heads
  indexed_more = record {
    newest = λ k l. i.newest k l ∙ ap (last_with k) (take-length s ∙ sym (take_at s t (length s) refl));
    linked = one;
  }
    where
      one : (a : ℕ) → a < length s → Place (s ++ t) a → header_literals (header_at links a) ≡ last_with (key_at (s ++ t) a) (take a (s ++ t))
      one a l p =
          let e : take a (s ++ t) ≡ take a s = take-append-le a s t (omega arith) in
          let q : Place s a = place_within f (omega arith) (rw e at p.before) in
          let x : take (length s) s ≡ take (length s) (s ++ t) = take-length s ∙ sym (take_at s t (length s) refl) in
          let d : clause_at (s ++ t) a ≡ clause_at s a = kept_clause s (s ++ t) (length s) a x (omega arith) (omega (arith, length-append s t)) l (formed_next s a l q.rest).0 in
          i.linked a l q ∙ ap₂ (λ (c : Clause) (r : List ℤ). last_with (key_of c) r) (sym d) (sym e)

-- ---- a clause marked as deleted

flipped : (k p : ℕ) (s : List ℤ) → FormedFrom k (set s p (flip (header_at s p))) → FormedFrom k s
flipped zero p [] f = f
flipped (suc k) p [] f = f
flipped zero zero (h ∷ s) f = subst (λ (n : ℕ). FormedFrom n s) (literals_flip h) f
flipped zero (suc p) (h ∷ s) f = flipped (header_literals h) p s f
flipped (suc k) zero (x ∷ s) f = f
flipped (suc k) (suc p) (x ∷ s) f = flipped k p s f

-- places stay places
unmarked_place : (s : List ℤ) (p q : ℕ) → Place s p → Place (marked s p) q → Place s q
unmarked_place s p q a b = place_within (place_formed a) (omega (arith, b.inside, length-set s p (flip (header_at s p)))) (by_test (ltb p q) (λ t. later (ltb-true p q t)) (λ t. sooner (ltb-false p q t)))
  where
    later : p < q → Formed (take q s)
    later l =
        let e : take q (marked s p) ≡ marked (take q s) p = take-set-lt q s p (flip (header_at s p)) l ∙ ap (λ (x : ℤ). set (take q s) p (flip x)) (sym (get_or-take q s p (pos 0) l)) in
        flipped 0 p (take q s) (rw e at b.before)

    sooner : q ≤ p → Formed (take q s)
    sooner l = rw (take-set-le q s p (flip (header_at s p)) l) at b.before

module _ (s : List ℤ) (p : ℕ) (h : p < length s) (a : Place s p) where
  -- keys stay
  marked_key : (q : ℕ) → Place s q → key_at (marked s p) q ≡ key_at s q
  marked_key q b = ap key_of (by_test (ltb p q) (λ t. later (ltb-true p q t)) (λ t. by_order q p (ltb-false p q t) (λ e. subst (λ (j : ℕ). clause_at (marked s p) j ≡ clause_at s j) (sym e) this) sooner))
    where
      later : p < q → clause_at (marked s p) q ≡ clause_at s q
      later l =
          ap₂ (λ (x : ℤ) (r : List ℤ). take (header_literals x) r) (get_or-set_other s p q (flip (header_at s p)) (pos 0) (λ e. omega arith)) (drop-set-lt (q + 1) s p (flip (header_at s p)) (omega arith))

      this : clause_at (marked s p) p ≡ clause_at s p
      this =
          ap₂ (λ (n : ℕ) (r : List ℤ). take n r) (ap header_literals (get_or-set_same s p (flip (header_at s p)) (pos 0) h) ∙ literals_flip (header_at s p)) (drop-set-lt (p + 1) s p (flip (header_at s p)) (omega arith))

      sooner : q < p → clause_at (marked s p) q ≡ clause_at s q
      sooner l =
          let m = past_within b a l in
          let e : p ≡ q + 1 + (p - (q + 1)) = omega arith in
          let d : drop (q + 1) (marked s p) ≡ set (drop (q + 1) s) (p - (q + 1)) (flip (header_at s p)) = ap (λ (j : ℕ). drop (q + 1) (set s j (flip (header_at s p)))) e ∙ drop-set-add (q + 1) s (p - (q + 1)) (flip (header_at s p)) in
          ap₂ (λ (x : ℤ) (r : List ℤ). take (header_literals x) r) (get_or-set_other s p q (flip (header_at s p)) (pos 0) (λ e. omega arith)) d
          ∙ take-set-le (size_at s q) (drop (q + 1) s) (p - (q + 1)) (flip (header_at s p)) (omega arith)

  marked_past_all : (q : ℕ) → Place s q → past (marked s p) q ≡ past s q
  marked_past_all q b = ap (λ (n : ℕ). q + (1 + n)) (by_test (eqb p q) (λ t. subst (λ (j : ℕ). size_at (marked s p) j ≡ size_at s j) (eqb-true p q t) here) other)
    where
      here : size_at (marked s p) p ≡ size_at s p
      here = ap header_literals (get_or-set_same s p (flip (header_at s p)) (pos 0) h) ∙ literals_flip (header_at s p)

      other : eqb p q ≡ false → size_at (marked s p) q ≡ size_at s q
      other t = ap header_literals (get_or-set_other s p q (flip (header_at s p)) (pos 0) (λ e. eqb-false p q t (sym e)))

  -- the last entries with a key stay
  marked_last : (key q : ℕ) → Place (marked s p) q → last_with key (take q (marked s p)) ≡ last_with key (take q s)
  marked_last key q b = by_entries (marked s p) (λ (q : ℕ). last_with key (take q (marked s p)) ≡ last_with key (take q s)) refl step q b
    where
      step : (at : ℕ) → at < length (marked s p) → Place (marked s p) at → last_with key (take at (marked s p)) ≡ last_with key (take at s) →
          last_with key (take (past (marked s p) at) (marked s p)) ≡ last_with key (take (past (marked s p) at) s)
      step at l m r =
          let n : Place s at = unmarked_place s p at a m in
          last_next key (marked s p) at l m
          ∙ ap₂ (λ (k x : ℕ). cond (eqb k key) (suc at) x) (marked_key at n) r
          ∙ sym (last_next key s at (omega (arith, length-set s p (flip (header_at s p)))) n)
          ∙ ap (λ (j : ℕ). last_with key (take j s)) (sym (marked_past_all at n))

  pub indexed_marked : (links : List ℤ) (heads : List ℕ) → Indexed s (length s) links heads → Indexed (marked s p) (length s) links heads
  indexed_marked links heads i =
      let e : length (marked s p) ≡ length s = length-set s p (flip (header_at s p)) in
      let g : Place (marked s p) (length s) = subst (Place (marked s p)) e (place_end (place_formed (marked_place s p h a))) in
      record {
        newest = λ k l. i.newest k l ∙ sym (marked_last k (length s) g);
        linked = λ j l c. let d = unmarked_place s p j a c in i.linked j l d ∙ ap (λ (k : ℕ). last_with k (take j s)) (sym (marked_key j d)) ∙ sym (marked_last (key_at (marked s p) j) j c);
      }
