-- Why a walk along the links of a clause's key finds the first clause with its set: clauses with the same set have the same key, the walk meets the
-- entries of the key from the last to the first, and the last match met is the first in the list.
use mathlib.Core.Path.{◌≡◌, refl, sym, ap, ap₂, subst, ◌∙◌}
use mathlib.Core.Bool.{Bool, true, false, cond}
use mathlib.Core.List.Memᴰ.{head as here}
use mathlib.Core.List.Memᴰ.{tail as there}
use mathlib.Core.List.{List, [], ◌∷◌, ◌++◌, Memᴰ}
use Prim.Native.Nat.{ℕ, zero, suc, ◌+◌, ◌≤◌, ◌<◌, min, ◌*◌, ◌%◌, max}
use native.Mathlib.Omega.{arith}
use lib.Dec.{eqb}
use Rattle.std.specs.List.{fold}
use Rattle.std.specs.Prelude.{Option, Some, None}
use Rattle.std.specs.Option.{option_or}
use lib.IntN.{ℤ, pos}
use lib.ListN.{length, get_or, take, drop}
use lib.Seq.{take-append-le, take_all, take-take, take-length, length-take-le}
use borrow.Author.Tests.{eqb-true, eqb-false}
use Rattle.definition.specs.Literals.{Clause, same_set}
use Rattle.theory_base.proofs.Tests.{of_true, by_test}
use Rattle.theory_base.proofs.Members.{same_set_same}
use Rattle.theory_base.specs.Clauses.{Within}
use Rattle.theory_base.proofs.Slices.{drop_step}
use Rattle.literals.specs.Literal.{index_of, header_literals}
use Rattle.store.specs.Store.{FormedFrom, Formed, header_at, size_at, deleted_at, clause_at, past, Place, begins_with, place_from, place_of}
use Rattle.store.proofs.Laws.{by_entries, place_end, clause_length, prefix_next}
use Rattle.store.proofs.Finding.{matches_deleted, matches_stands}
use Rattle.replay.specs.Index.{last_index, keys, lowest_index, greatest_index, key_of, key_at, last_from, last_with, Indexed}

-- ---- keys

-- the lowest index
pub lowest_most : (c : Clause) → lowest_index c ≤ last_index
unfolding lowest_index
lowest_most [] = omega arith
lowest_most (l ∷ c) = omega (arith, lowest_most c)

lowest_from : (c : Clause) (k : ℕ) → k ≤ last_index → fold (λ low l. min low (index_of l)) k c ≡ min k (lowest_index c)
unfolding lowest_index
lowest_from [] k h = omega arith
lowest_from (l ∷ c) k h = omega (arith, lowest_from c (min k (index_of l)) (omega arith))

pub lowest_is : (c : Clause) → fold (λ low l. min low (index_of l)) last_index c ≡ lowest_index c
lowest_is c = omega (arith, lowest_from c last_index (omega arith), lowest_most c)

lowest_least : (c : Clause) (l : ℤ) → Memᴰ l c → lowest_index c ≤ index_of l
unfolding lowest_index
lowest_least (x ∷ c) l (here e) = omega (arith, ap index_of e)
lowest_least (x ∷ c) l (there i) = omega (arith, lowest_least c l i)
lowest_least [] l x' = elim x' [ ]

lowest_subset : (c d : Clause) → Within d c → lowest_index c ≤ lowest_index d
unfolding lowest_index
lowest_subset c [] f = lowest_most c
lowest_subset c (l ∷ d) f = omega (arith, lowest_least c l (f l (here refl)), lowest_subset c d (λ x i. f x (there i)))

-- the greatest index
pub greatest_most : (c : Clause) → greatest_index c ≤ last_index
unfolding greatest_index
greatest_most [] = omega arith
greatest_most (l ∷ c) = omega (arith, greatest_most c)

greatest_from : (c : Clause) (k : ℕ) → min (fold (λ top l. max top (index_of l)) k c) last_index ≡ max (min k last_index) (greatest_index c)
unfolding greatest_index
greatest_from [] k = omega arith
greatest_from (l ∷ c) k = omega (arith, greatest_from c (max k (index_of l)))

pub greatest_is : (c : Clause) → min (fold (λ top l. max top (index_of l)) 0 c) last_index ≡ greatest_index c
greatest_is c = omega (arith, greatest_from c 0)

greatest_top : (c : Clause) (l : ℤ) → Memᴰ l c → min last_index (index_of l) ≤ greatest_index c
unfolding greatest_index
greatest_top (x ∷ c) l (here e) = omega (arith, ap index_of e)
greatest_top (x ∷ c) l (there i) = omega (arith, greatest_top c l i)
greatest_top [] l x' = elim x' [ ]

greatest_subset : (c d : Clause) → Within d c → greatest_index d ≤ greatest_index c
unfolding greatest_index
greatest_subset c [] f = omega arith
greatest_subset c (l ∷ d) f = omega (arith, greatest_top c l (f l (here refl)), greatest_subset c d (λ x i. f x (there i)))

pub key_within : (c : Clause) → key_of c < keys
unfolding key_of
key_within c = omega arith

pub key_is : (c : Clause) (a b : ℕ) → a ≡ lowest_index c → b ≡ greatest_index c → (613 * a + b) % keys ≡ key_of c
unfolding key_of
key_is c a b e f = ap₂ (λ (x y : ℕ). (613 * x + y) % keys) e f

-- clauses with the same set of literals have the same key
key_same : (c d : Clause) → same_set c d ≡ true → key_of c ≡ key_of d
unfolding key_of
key_same c d e =
    let m = same_set_same c d (of_true e) in
    let l : lowest_index c ≡ lowest_index d = omega (arith, lowest_subset c d m.1, lowest_subset d c m.0) in
    let t : greatest_index c ≡ greatest_index d = omega (arith, greatest_subset c d m.1, greatest_subset d c m.0) in
    key_is d (lowest_index c) (greatest_index c) l t

-- ---- the last entry with a key

formed_reach : (k : ℕ) (s : List ℤ) → FormedFrom k s → k ≤ length s
formed_reach zero s f = omega arith
formed_reach (suc k) [] f = absurd f
formed_reach (suc k) (x ∷ s) f = omega (arith, formed_reach k s f)

last-++ : (key k at b : ℕ) (s t : List ℤ) → FormedFrom k s → last_from key k at b (s ++ t) ≡ last_from key 0 (at + length s) (last_from key k at b s) t
unfolding last_from
last-++ key zero at b [] t f = ap (λ (n : ℕ). last_from key 0 n b t) (omega arith)
last-++ key (suc k) at b [] t f = absurd f
last-++ key zero at b (h ∷ s) t f =
    ap (λ (c : Clause). last_from key (header_literals h) (suc at) (cond (eqb (key_of c) key) (suc at) b) (s ++ t)) (take-append-le (header_literals h) s t (formed_reach (header_literals h) s f))
    ∙ last-++ key (header_literals h) (suc at) (cond (eqb (key_of (take (header_literals h) s)) key) (suc at) b) s t f
    ∙ ap (λ (n : ℕ). last_from key 0 n (last_from key 0 at b (h ∷ s)) t) (omega arith)
last-++ key (suc k) at b (x ∷ s) t f = last-++ key k (suc at) b s t f ∙ ap (λ (n : ℕ). last_from key 0 n (last_from key (suc k) at b (x ∷ s)) t) (omega arith)

last_skip : (key k at b : ℕ) (s : List ℤ) → length s ≤ k → last_from key k at b s ≡ b
unfolding last_from
last_skip key zero at b [] h = refl
last_skip key (suc k) at b [] h = refl
last_skip key zero at b (x ∷ s) h = absurd (omega arith)
last_skip key (suc k) at b (x ∷ s) h = last_skip key k (suc at) b s (omega arith)

last_one : (key at b : ℕ) (h : ℤ) (d : Clause) → length d ≡ header_literals h → last_from key 0 at b (h ∷ d) ≡ cond (eqb (key_of d) key) (suc at) b
unfolding last_from
last_one key at b h d n = last_skip key (header_literals h) (suc at) _ d (omega arith) ∙ ap (λ (c : Clause). cond (eqb (key_of c) key) (suc at) b) (take_all (header_literals h) d (omega arith))

module _ (key : ℕ) (s : List ℤ) (at : ℕ) (h : at < length s) (p : Place s at) where
  pub last_next : last_with key (take (past s at) s) ≡ cond (eqb (key_at s at) key) (suc at) (last_with key (take at s))
  last_next =
      ap (last_with key) (prefix_next s at h)
      ∙ last-++ key 0 0 0 (take at s) (header_at s at ∷ clause_at s at) p.before
      ∙ ap (λ (n : ℕ). last_from key 0 n (last_with key (take at s)) (header_at s at ∷ clause_at s at)) (let e : 0 + length (take at s) ≡ at = omega (arith, length-take-le at s p.inside) in e)
      ∙ last_one key at (last_with key (take at s)) (header_at s at) (clause_at s at) (clause_length s at h p.rest)

last_before : (key k at b : ℕ) (s : List ℤ) → b ≤ at → last_from key k at b s ≤ at + length s
unfolding last_from
last_before key k at b [] h = omega arith
last_before key zero at b (x ∷ s) h = go (eqb (key_of (take (header_literals x) s)) key) (λ b l. last_before key (header_literals x) (suc at) b s l)
  where
    go : (t : Bool) → ((b : ℕ) → b ≤ suc at → last_from key (header_literals x) (suc at) b s ≤ suc at + length s) → last_from key (header_literals x) (suc at) (cond t (suc at) b) s ≤ at + length (x ∷ s)
    go true r = omega (arith, r (suc at) (omega arith))
    go false r = omega (arith, r b (omega arith))
last_before key (suc k) at b (x ∷ s) h = omega (arith, last_before key k (suc at) b s (omega arith))

pub last_within : (key : ℕ) (s : List ℤ) → last_with key s ≤ length s
last_within key s = omega (arith, last_before key 0 0 0 s (omega arith))

-- ---- the first match

or_none : (f : Option ℕ) → option_or f None ≡ f
or_none (Some a) = refl
or_none None = refl

or_some : (f : Option ℕ) (t : Bool) (a : ℕ) (g : Option ℕ) → option_or (option_or f (cond t (Some a) None)) g ≡ option_or f (cond t (Some a) g)
or_some (Some b) t a g = refl
or_some None true a g = refl
or_some None false a g = refl

place-++ : (c : Clause) (k at : ℕ) (s t : List ℤ) → FormedFrom k s → place_from c k at (s ++ t) ≡ option_or (place_from c k at s) (place_from c 0 (at + length s) t)
unfolding place_from begins_with
place-++ c zero at [] t f = ap (λ (n : ℕ). place_from c 0 n t) (omega arith)
place-++ c (suc k) at [] t f = absurd f
place-++ c zero at (h ∷ s) t f = rw (take-append-le (header_literals h) s t (formed_reach (header_literals h) s f)) (go (begins_with c (h ∷ s)) (place-++ c (header_literals h) (at + 1) s t f))
  where
    go : (b : Bool) → place_from c (header_literals h) (at + 1) (s ++ t) ≡ option_or (place_from c (header_literals h) (at + 1) s) (place_from c 0 (at + 1 + length s) t)
        → cond b (Some at) (place_from c (header_literals h) (at + 1) (s ++ t)) ≡ option_or (cond b (Some at) (place_from c (header_literals h) (at + 1) s)) (place_from c 0 (at + length (h ∷ s)) t)
    go true r = refl
    go false r = r ∙ ap (λ (n : ℕ). option_or (place_from c (header_literals h) (at + 1) s) (place_from c 0 n t)) (omega arith)
place-++ c (suc k) at (x ∷ s) t f = place-++ c k (at + 1) s t f ∙ ap (λ (n : ℕ). option_or (place_from c k (at + 1) s) (place_from c 0 n t)) (omega arith)

place_none : (c : Clause) (k at : ℕ) (s : List ℤ) → length s ≤ k → place_from c k at s ≡ None
unfolding place_from
place_none c zero at [] h = refl
place_none c (suc k) at [] h = refl
place_none c zero at (x ∷ s) h = absurd (omega arith)
place_none c (suc k) at (x ∷ s) h = place_none c k (at + 1) s (omega arith)

place_one : (c : Clause) (at : ℕ) (h : ℤ) (d : Clause) → length d ≤ header_literals h → place_from c 0 at (h ∷ d) ≡ cond (begins_with c (h ∷ d)) (Some at) None
unfolding place_from
place_one c at h d n = ap (λ (f : Option ℕ). cond (begins_with c (h ∷ d)) (Some at) f) (place_none c (header_literals h) (at + 1) d n)

module _ (c : Clause) (s : List ℤ) (at : ℕ) (h : at < length s) (p : Place s at) where
  begins_same : begins_with c (header_at s at ∷ clause_at s at) ≡ begins_with c (drop at s)
  unfolding begins_with
  begins_same = rw (drop_step s at (pos 0) h, take-take (size_at s at) (size_at s at) (drop (at + 1) s) (omega arith)) refl

  place_next_entry : place_of c (take (past s at) s) ≡ option_or (place_of c (take at s)) (cond (begins_with c (drop at s)) (Some at) None)
  place_next_entry =
      ap (place_of c) (prefix_next s at h)
      ∙ place-++ c 0 0 (take at s) (header_at s at ∷ clause_at s at) p.before
      ∙ ap (λ (n : ℕ). option_or (place_of c (take at s)) (place_from c 0 n (header_at s at ∷ clause_at s at))) (let e : 0 + length (take at s) ≡ at = omega (arith, length-take-le at s p.inside) in e)
      ∙ ap (option_or (place_of c (take at s))) (place_one c at (header_at s at) (clause_at s at) (omega (arith, clause_length s at h p.rest)))
      ∙ ap (λ (b : Bool). option_or (place_of c (take at s)) (cond b (Some at) None)) begins_same

  -- an entry with another key is no match
  other_key : eqb (key_at s at) (key_of c) ≡ false → begins_with c (drop at s) ≡ false
  other_key e = by_test (begins_with c (drop at s)) (λ b. by_test (deleted_at s at) (λ d. sym (matches_deleted s at h c d)) (λ d. no (matches_stands s at h c d ∙ b))) (λ b. b)
    where
      no : same_set c (clause_at s at) ≡ true → begins_with c (drop at s) ≡ false
      no m = absurd (eqb-false (key_at s at) (key_of c) e (sym (key_same c (clause_at s at) m)))

-- ---- from the last entry with the clause's key on

abbrev Newest : Clause → List ℤ → ℕ → ℕ → Type 0
Newest c s q zero = place_of c (take q s) ≡ None
Newest c s q (suc a) = (a < q) × Place s a × (key_at s a ≡ key_of c) × (place_of c (take q s) ≡ option_or (place_of c (take a s)) (cond (begins_with c (drop a s)) (Some a) None))

newest_later : (c : Clause) (s : List ℤ) (a b p : ℕ) → a ≤ b → place_of c (take b s) ≡ place_of c (take a s) → Newest c s a p → Newest c s b p
newest_later c s a b zero l e n = e ∙ n
newest_later c s a b (suc p) l e n = (omega (arith, n.0), n.1, n.2, e ∙ n.3)

newest : (c : Clause) (s : List ℤ) (q : ℕ) → Place s q → Newest c s q (last_with (key_of c) (take q s))
unfolding place_from last_from
newest c s q e = by_entries s (λ (q : ℕ). Newest c s q (last_with (key_of c) (take q s))) refl step q e
  where
    step : (at : ℕ) → at < length s → Place s at → Newest c s at (last_with (key_of c) (take at s)) → Newest c s (past s at) (last_with (key_of c) (take (past s at) s))
    step at h p n = rw (last_next (key_of c) s at h p) (go (eqb (key_at s at) (key_of c)) refl)
      where
        go : (t : Bool) → eqb (key_at s at) (key_of c) ≡ t → Newest c s (past s at) (cond t (suc at) (last_with (key_of c) (take at s)))
        go true m = (omega arith, p, eqb-true (key_at s at) (key_of c) m, place_next_entry c s at h p)
        go false m =
            newest_later c s at (past s at) (last_with (key_of c) (take at s)) (omega arith)
            (place_next_entry c s at h p ∙ ap (λ (b : Bool). option_or (place_of c (take at s)) (cond b (Some at) None)) (other_key c s at h p m) ∙ or_none (place_of c (take at s)))
            n

-- ---- the walk along the links of a key: the entries behind `bound` are seen, `best` is the first match among them, and p leads on

pub record Walking (c : Clause) (s : List ℤ) (p : ℕ) (best : Option ℕ) : Type 0 where
  pub bound : ℕ
  pub place : Place s bound
  pub here : p ≡ last_with (key_of c) (take bound s)
  pub first : option_or (place_of c (take bound s)) best ≡ place_of c s

pub walking_start : (c : Clause) (s links : List ℤ) (heads : List ℕ) (p : ℕ) → Formed s → Indexed s (length s) links heads → p ≡ get_or heads (key_of c) 0 → Walking c s p None
walking_start c s links heads p f i e = record {
  bound = length s;
  place = place_end f;
  here = e ∙ i.newest (key_of c) (key_within c);
  first = or_none (place_of c (take (length s) s)) ∙ ap (place_of c) (take-length s);
}

module _ (c : Clause) (s : List ℤ) (p : ℕ) (best : Option ℕ) (w : Walking c s p best) where
  walked : Newest c s w.bound p
  walked = subst (λ (k : ℕ). Newest c s w.bound k) (sym w.here) (newest c s w.bound w.place)

  -- where p leads to
  module _ (a : ℕ) (e : p ≡ suc a) where
    led : Newest c s w.bound (suc a)
    led = subst (λ (k : ℕ). Newest c s w.bound k) e walked

    pub led_inside : a < length s
    led_inside = omega (arith, led.0, w.place.inside)

    pub led_place : Place s a
    led_place = led.1

    pub led_back : (links : List ℤ) (heads : List ℕ) (next : ℕ) → Indexed s (length s) links heads → next ≡ header_literals (header_at links a) → next ≤ a
    led_back links heads next i n = omega (arith, n, i.linked a led_inside led_place, last_within (key_at s a) (take a s), length-take-le a s led_place.inside)

    pub walking_step : (links : List ℤ) (heads : List ℕ) (next : ℕ) (more : Option ℕ) → Indexed s (length s) links heads → next ≡ header_literals (header_at links a) → more ≡ cond (begins_with c (drop a s)) (Some a) best → Walking c s next more
    walking_step links heads next more i n m = record {
      bound = a;
      place = led_place;
      here = n ∙ i.linked a led_inside led_place ∙ ap (λ (k : ℕ). last_with k (take a s)) led.2;
      first =
          ap (option_or (place_of c (take a s))) m
          ∙ sym (or_some (place_of c (take a s)) (begins_with c (drop a s)) a best)
          ∙ ap (λ (f : Option ℕ). option_or f best) (sym led.3)
          ∙ w.first;
    }

  pub walking_end : p ≡ 0 → best ≡ place_of c s
  walking_end e =
      let n : place_of c (take w.bound s) ≡ None = subst (λ (k : ℕ). Newest c s w.bound k) e walked in
      sym (ap (λ (f : Option ℕ). option_or f best) n) ∙ w.first
