-- A clause has a slot exactly if it is a copy of a pair, and the slot tells which pair: by the places of its two literals. Assumes nothing.
use mathlib.Core.Path.{◌≡◌, refl, sym, ap, ap₂, ◌∙◌}
use mathlib.Core.Logic.{◌≢◌}
use mathlib.Core.Bool.{Bool, true, false}
use mathlib.Core.List.Memᴰ.{head as here}
use mathlib.Core.List.Memᴰ.{tail as there}
use mathlib.Core.List.{List, [], ◌∷◌, Memᴰ}
use Prim.Native.Nat.{ℕ, zero, suc, ◌+◌, ◌-◌, ◌*◌, ◌≤◌, ◌<◌, min, max}
use native.Mathlib.Omega.{arith}
use lib.Dec.{eqb, ltb, leb, T}
use lib.IntN.{ℤ, pos, neg_ℤ, nat_abs}
use lib.ListN.{length, get_or}
use borrow.Author.Tests.{ltb-true, ltb-false, leb-true, leb-false, eqb-true, lt-ltb, le-ltb, le-leb, lt-leb, eq-eqb, ne_eqb}
use Rattle.definition.specs.Literals.{Clause, highest, same_set}
use Rattle.theory_base.proofs.Tests.{by_test, of_true, to_true, each_way}
use Rattle.theory_base.proofs.Loops.{getD_mem}
use Rattle.theory_base.proofs.Members.{proper_first, natAbs_neg, same_set_same, same_same_set, same_clause, same_joined, pair_turned}
use Rattle.theory_base.specs.Clauses.{Proper, Same}
use Rattle.theory_base.proofs.Clauses.{same_length}
use Rattle.theory_base.proofs.Fitting.{Between, highest_at, literal_between, negated_between, two_to}
use Rattle.tables.specs.Places.{place_in, Places}
use Rattle.tables.proofs.Places.{place_there, place_back}
use Rattle.pairs.specs.Pairs.{literal_at, slots, ordered_slot, slot, slot_of}

-- ---- slots by places

pub ordered_at : (a b : ℕ) → 0 < a → a < b → b ≤ 64 → ordered_slot a b ≡ (a - 1) * 64 + (b - 1)
ordered_at a b x y z = rw (lt-ltb 0 a x, lt-ltb a b y, le-leb b 64 z) refl

pub ordered_zero : (a b : ℕ) → a ≤ 0 → ordered_slot a b ≡ slots
ordered_zero a b x = rw (le-ltb 0 a x) refl

pub ordered_not : (a b : ℕ) → 0 < a → b ≤ a → ordered_slot a b ≡ slots
ordered_not a b x y = rw (lt-ltb 0 a x, le-ltb a b y) refl

pub ordered_high : (a b : ℕ) → 0 < a → a < b → 64 < b → ordered_slot a b ≡ slots
ordered_high a b x y z = rw (lt-ltb 0 a x, lt-ltb a b y, lt-leb b 64 z) refl

slot_less : (a b : ℕ) → a < b → slot a b ≡ ordered_slot a b
slot_less a b h = rw (lt-ltb a b h) refl

slot_more : (a b : ℕ) → b ≤ a → slot a b ≡ ordered_slot b a
slot_more a b h = rw (le-ltb a b h) refl

pub slot_long : (t : List ℕ) (d : Clause) → (length d ≡ 2 → ⊥) → slot_of t d ≡ slots
slot_long t d n = rw (ne_eqb (length d) 2 n) refl

-- ---- the slot of a clause of two literals, by their places

module _ (t : List ℕ) (d : Clause) (e : length d ≡ 2) {a b : ℕ} (f : a ≡ place_in t (get_or d 0 (pos 0))) (g : b ≡ place_in t (get_or d 1 (pos 0))) where
  slot_two : slot_of t d ≡ slot a b
  slot_two = rw (eq-eqb (length d) 2 e) (sym (ap₂ (λ (u v : ℕ). slot u v) f g))

  pub slot_sorted : slot_of t d ≡ ordered_slot (min a b) (max a b)
  slot_sorted = slot_two ∙ by_test (ltb a b)
      (λ l. let h = ltb-true a b l in
      let x : min a b ≡ a = omega arith in
      let y : max a b ≡ b = omega arith in
      rw (x, y) (slot_less a b h))
      (λ l. let h = ltb-false a b l in
      let x : min a b ≡ b = omega arith in
      let y : max a b ≡ a = omega arith in
      rw (x, y) (slot_more a b h))

-- ---- back from a slot

-- places in order
record InOrder (a b : ℕ) : Type 0 where
  pub some : 0 < a
  pub less : a < b
  pub most : b ≤ 64
  pub is : ordered_slot a b ≡ (a - 1) * 64 + (b - 1)

ordered_back : (a b : ℕ) → ordered_slot a b < slots → InOrder a b
ordered_back a b h =
    by_test (ltb 0 a)
    (λ e. let x = ltb-true 0 a e in
    by_test (ltb a b)
    (λ f. let y = ltb-true a b f in
    by_test (leb b 64)
    (λ g. let z = leb-true b 64 g in record { some = x; less = y; most = z; is = ordered_at a b x y z })
    (λ g. absurd (omega (arith, ordered_high a b x y (leb-false b 64 g)))))
    (λ f. absurd (omega (arith, ordered_not a b x (ltb-false a b f)))))
    (λ e. absurd (omega (arith, ordered_zero a b (ltb-false 0 a e))))

-- the slot of the literals at two places, from 0 on
slot_places : (i j : ℕ) → i < j → j < 64 → ordered_slot (i + 1) (j + 1) ≡ i * 64 + j
slot_places i j a b =
    let e : i + 1 - 1 ≡ i = omega arith in
    let f : j + 1 - 1 ≡ j = omega arith in
    ordered_at (i + 1) (j + 1) (omega arith) (omega arith) (omega arith) ∙ ap₂ (λ (u v : ℕ). u * 64 + v) e f

-- ---- the pair of the literals at two places

abbrev pub pair_of : Clause → ℕ → ℕ → Clause
pair_of l i j = neg_ℤ (literal_at l i) ∷ neg_ℤ (literal_at l j) ∷ []

apart : (l : Clause) → Proper l → (i j : ℕ) → i < j → j < length l → nat_abs (literal_at l i) ≢ nat_abs (literal_at l j)
apart [] p i j a b = absurd (omega arith)
apart (x ∷ l) p zero zero a b = absurd (omega arith)
apart (x ∷ l) p zero (suc j) a b = proper_first x l p (literal_at l j) (getD_mem l j (pos 0) (omega arith))
apart (x ∷ l) p (suc i) zero a b = absurd (omega arith)
apart (x ∷ l) p (suc i) (suc j) a b = apart l p.3 i j (omega arith) (omega arith)

unlike_negated : (a b : ℤ) → nat_abs a ≢ nat_abs b → neg_ℤ a ≢ neg_ℤ b
unlike_negated a b n e = n (sym (natAbs_neg a) ∙ ap nat_abs e ∙ natAbs_neg b)

same_by : {x y u v : ℤ} → x ≡ u → y ≡ v → Same (u ∷ v ∷ []) (x ∷ y ∷ [])
same_by {u = u} {v = v} e f = rw (e, f) (same_clause (u ∷ v ∷ []))

-- a clause with a slot is a pair, in either order
pub record Slotted (l : Clause) (d : Clause) (n : ℕ) : Type 0 where
  pub i : ℕ
  pub j : ℕ
  pub less : i < j
  pub within : j < length l
  pub is : n ≡ i * 64 + j
  pub same : Same (pair_of l i j) d

module _ {t : List ℕ} {l : Clause} (q : Places t l) where
  -- the places of two literals, the lower first
  slotted_by : (x y : ℤ) (n : ℕ) → InOrder (place_in t x) (place_in t y) → n ≡ ordered_slot (place_in t x) (place_in t y) → Slotted l (x ∷ y ∷ []) n
  slotted_by x y n o e =
      let a = place_back q x o.some in
      let b = place_back q y (omega (arith, o.some, o.less)) in
      record {
        i = a.0;
        j = b.0;
        less = omega (arith, a.3, b.3, o.less);
        within = b.1;
        is = e ∙ o.is ∙ ap₂ (λ (u v : ℕ). (u - 1) * 64 + (v - 1)) a.3 b.3 ∙ minus a.0 b.0;
        same = same_by a.2 b.2;
      }
    where
      minus : (u v : ℕ) → (u + 1 - 1) * 64 + (v + 1 - 1) ≡ u * 64 + v
      minus u v = let e : u + 1 - 1 ≡ u = omega arith in let f : v + 1 - 1 ≡ v = omega arith in rw (e, f) refl

  turned : (x y : ℤ) (n : ℕ) → Slotted l (y ∷ x ∷ []) n → Slotted l (x ∷ y ∷ []) n
  turned x y n s = record { i = s.i; j = s.j; less = s.less; within = s.within; is = s.is; same = same_joined s.same (pair_turned y x) }

  pub slotted : (d : Clause) → slot_of t d < slots → Slotted l d (slot_of t d)
  slotted [] h = absurd (omega (arith, slot_long t [] (λ e. no e)))
    where
      no : ◌≡◌ {A = ℕ} 0 2 → ⊥
      no e = omega arith
  slotted (x ∷ []) h = absurd (omega (arith, slot_long t (x ∷ []) (λ e. no e)))
    where
      no : ◌≡◌ {A = ℕ} 1 2 → ⊥
      no e = omega arith
  slotted (x ∷ y ∷ []) h = go (ltb (place_in t x) (place_in t y)) refl
    where
      go : (b : Bool) → ltb (place_in t x) (place_in t y) ≡ b → Slotted l (x ∷ y ∷ []) (slot_of t (x ∷ y ∷ []))
      go true e =
          let f : slot_of t (x ∷ y ∷ []) ≡ ordered_slot (place_in t x) (place_in t y) = rw e refl in
          slotted_by x y (slot_of t (x ∷ y ∷ [])) (ordered_back (place_in t x) (place_in t y) (omega (arith, f, h))) f
      go false e =
          let f : slot_of t (x ∷ y ∷ []) ≡ ordered_slot (place_in t y) (place_in t x) = rw e refl in
          turned x y (slot_of t (x ∷ y ∷ [])) (slotted_by y x (slot_of t (x ∷ y ∷ [])) (ordered_back (place_in t y) (place_in t x) (omega (arith, f, h))) f)
  slotted (x ∷ y ∷ z ∷ d) h = absurd (omega (arith, slot_long t (x ∷ y ∷ z ∷ d) no))
    where
      no : length (x ∷ y ∷ z ∷ d) ≡ 2 → ⊥
      no e = omega arith

  module _ (few : length l ≤ 64) (p : Proper l) (i j : ℕ) (a : i < j) (b : j < length l) where
    slot_forward : slot_of t (pair_of l i j) ≡ i * 64 + j
    slot_forward =
        let g : slot (i + 1) (j + 1) ≡ i * 64 + j = slot_less (i + 1) (j + 1) (omega arith) ∙ slot_places i j a (omega arith) in
        ap₂ (λ (u v : ℕ). slot u v) (place_there q p i (omega arith)) (place_there q p j b) ∙ g

    slot_turned : slot_of t (neg_ℤ (literal_at l j) ∷ neg_ℤ (literal_at l i) ∷ []) ≡ i * 64 + j
    slot_turned =
        let g : slot (j + 1) (i + 1) ≡ i * 64 + j = slot_more (j + 1) (i + 1) (omega arith) ∙ slot_places i j a (omega arith) in
        ap₂ (λ (u v : ℕ). slot u v) (place_there q p j b) (place_there q p i (omega arith)) ∙ g

    negated_there : (k : ℕ) → k < length l → Between 1 (highest l) (neg_ℤ (literal_at l k))
    negated_there k h = negated_between 1 (highest l) (literal_at l k) (literal_between {c = l} (p, highest_at l) (literal_at l k) (getD_mem l k (pos 0) h))

    pair_proper : Proper (pair_of l i j)
    pair_proper =
        let u = literal_at l i in
        let v = literal_at l j in
        (two_to (highest l) (neg_ℤ u) (neg_ℤ v) (negated_there i (omega arith)) (negated_there j b) (λ e. apart l p i j a b (sym (natAbs_neg u) ∙ e ∙ natAbs_neg v))).0

    differ_here : neg_ℤ (literal_at l i) ≢ neg_ℤ (literal_at l j)
    differ_here = unlike_negated (literal_at l i) (literal_at l j) (apart l p i j a b)

    -- a clause of two literals with the pair's set of literals
    two_slot : (x y : ℤ) → Same (pair_of l i j) (x ∷ y ∷ []) → slot_of t (x ∷ y ∷ []) ≡ i * 64 + j
    two_slot x y s = by_first (s.1 x (here refl)) (s.1 y (there (here refl)))
      where
        missing : (z w : ℤ) → z ≢ w → Memᴰ z (w ∷ w ∷ []) → ⊥
        missing z w n (here e) = n e
        missing z w n (there (here e)) = n e
        missing z w n (there (there x9)) = elim x9 [ ]

        by_first : Memᴰ x (pair_of l i j) → Memᴰ y (pair_of l i j) → slot_of t (x ∷ y ∷ []) ≡ i * 64 + j
        by_first (here e) (here f) = absurd (missing (neg_ℤ (literal_at l j)) (neg_ℤ (literal_at l i)) (λ g. differ_here (sym g)) (rw (e, f) at (s.0 (neg_ℤ (literal_at l j)) (there (here refl)))))
        by_first (here e) (there (here f)) = rw (e, f) slot_forward
        by_first (there (here e)) (here f) = rw (e, f) slot_turned
        by_first (there (here e)) (there (here f)) = absurd (missing (neg_ℤ (literal_at l i)) (neg_ℤ (literal_at l j)) differ_here (rw (e, f) at (s.0 (neg_ℤ (literal_at l i)) (here refl))))
        by_first (here e) (there (there x15)) = elim x15 [ ]
        by_first (there (here e)) (there (there x24)) = elim x24 [ ]
        by_first (there (there x19)) _ = elim x19 [ ]

    same_slot : (d : Clause) → length d ≡ 2 → Same (pair_of l i j) d → slot_of t d ≡ i * 64 + j
    same_slot [] n s = absurd (omega arith)
    same_slot (x ∷ []) n s = absurd (omega arith)
    same_slot (x ∷ y ∷ []) n s = two_slot x y s
    same_slot (x ∷ y ∷ z ∷ d) n s = absurd (omega arith)

    -- the slot tells the copies of the pair
    pub slot_tells : (d : Clause) → Proper d → same_set (pair_of l i j) d ≡ eqb (slot_of t d) (i * 64 + j)
    slot_tells d pd = each_way forward backward
      where
        forward : T (same_set (pair_of l i j) d) → T (eqb (slot_of t d) (i * 64 + j))
        forward u =
            let s = same_set_same (pair_of l i j) d u in
            of_true (eq-eqb (slot_of t d) (i * 64 + j) (same_slot d (sym (same_length (pair_of l i j) d pair_proper pd s)) s))

        found : (s : Slotted l d (slot_of t d)) → slot_of t d ≡ i * 64 + j → Same (pair_of l i j) d
        found s e =
            let u : s.i ≡ i = omega (arith, s.is, s.less, s.within) in
            let v : s.j ≡ j = omega (arith, s.is, s.less, s.within) in
            rw (u, v) at s.same

        backward : T (eqb (slot_of t d) (i * 64 + j)) → T (same_set (pair_of l i j) d)
        backward u =
            let e = eqb-true (slot_of t d) (i * 64 + j) (to_true u) in
            same_same_set (pair_of l i j) d (found (slotted d (omega arith)) e)
