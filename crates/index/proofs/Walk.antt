-- What the walk over a store's entries meets: one entry after another, each literal's places by the literals of the last entry. Assumes nothing.
use mathlib.Core.Path.{◌≡◌, refl, sym, ap, subst, ◌∙◌}
use mathlib.Core.Logic.{◌⊎◌, inl, inr, ⊎_elim}
use mathlib.Core.Bool.{Bool, true, false, cond}
use mathlib.Core.List.Memᴰ
use mathlib.Core.List.Memᴰ.{head as here}
use mathlib.Core.List.Memᴰ.{tail as there}
use mathlib.Core.List.{List, [], ◌∷◌, ◌++◌, Memᴰ}
use Prim.Native.Nat.{ℕ, zero, suc, ◌+◌, ◌≤◌, ◌<◌}
use native.Mathlib.Omega.{arith}
use lib.Dec.{ltb}
use lib.IntN.{ℤ, pos}
use lib.ListN.{length, take, drop, length-set}
use lib.Seq.{take-length, length-take-le, set_split, split_at}
use borrow.Author.Tests.{ltb-true, ltb-false}
use Rattle.definition.specs.Literals.{Clause, same, literals_of}
use Rattle.definition.specs.Calls.{numbers_of}
use Rattle.theory_base.proofs.Tests.{of_true, to_true, by_test}
use Rattle.theory_base.proofs.Loops.{by_order}
use Rattle.theory_base.proofs.Clauses.{literals_snoc, literals_none as no_literals}
use Rattle.theory_base.proofs.Members.{same_eq, same_refl as literal_same}
use Rattle.literals.specs.Literal.{negative, flip, header_literals}
use Rattle.literals.proofs.Laws.{literals_flip}
use Rattle.store.specs.Store.{FormedFrom, Formed, stored_from, stored, header_at, size_at, deleted_at, clause_at, past, marked, Place}
use Rattle.store.proofs.Laws.{stored_none, prefix_deleted, prefix_stands, by_entries, place_end, place_formed, clause_length, prefix_next, past_within, marked_place}
use Rattle.index.specs.Index.{entered_from, entered, literals_from, literals_in, SameEntries}
use Rattle.index.specs.Reading.{EntryWith}

-- ---- one entry more

-- a place entered once for each time that l is in a clause
unfoldable pub pushed : ℤ → ℕ → Clause → List ℕ → List ℕ
pushed l at [] ps = ps
pushed l at (x ∷ c) ps = pushed l at c (cond (same l x) (at ∷ ps) ps)

-- where an entry begins, what was before does not count
entered_fresh : (l : ℤ) (a b at : ℕ) (ps : List ℕ) (s : List ℤ) → entered_from l 0 a at ps s ≡ entered_from l 0 b at ps s
unfolding entered_from
entered_fresh l a b at ps [] = refl
entered_fresh l a b at ps (h ∷ s) = refl

pub entered-++ : (l : ℤ) (k start at : ℕ) (ps : List ℕ) (s t : List ℤ) → FormedFrom k s → entered_from l k start at ps (s ++ t) ≡ entered_from l 0 0 (at + length s) (entered_from l k start at ps s) t
unfolding entered_from
entered-++ l zero start at ps [] t f = entered_fresh l start 0 at ps t ∙ ap (λ (n : ℕ). entered_from l 0 0 n ps t) (omega arith)
entered-++ l (suc k) start at ps [] t f = absurd f
entered-++ l zero start at ps (h ∷ s) t f =
    entered-++ l (header_literals h) at (at + 1) ps s t f ∙ ap (λ (n : ℕ). entered_from l 0 0 n (entered_from l 0 start at ps (h ∷ s)) t) (omega arith)
entered-++ l (suc k) start at ps (x ∷ s) t f =
    entered-++ l k start (at + 1) (cond (same l x) (start ∷ ps) ps) s t f ∙ ap (λ (n : ℕ). entered_from l 0 0 n (entered_from l (suc k) start at ps (x ∷ s)) t) (omega arith)

entered_clause : (l : ℤ) (k start at : ℕ) (ps : List ℕ) (c : Clause) → length c ≤ k → entered_from l k start at ps c ≡ pushed l start c ps
unfolding entered_from pushed
entered_clause l k start at ps [] h = refl
entered_clause l zero start at ps (x ∷ c) h = absurd (omega arith)
entered_clause l (suc k) start at ps (x ∷ c) h = entered_clause l k start (at + 1) (cond (same l x) (start ∷ ps) ps) c (omega arith)

pub entered_added : (l : ℤ) (s : List ℤ) (h : ℤ) (c : Clause) → Formed s → length c ≡ header_literals h → entered l (s ++ (h ∷ c)) ≡ pushed l (length s) c (entered l s)
unfolding entered_from
entered_added l s h c f e =
    entered-++ l 0 0 0 [] s (h ∷ c) f
    ∙ entered_clause l (header_literals h) (0 + length s) (0 + length s + 1) (entered l s) c (omega arith)
    ∙ ap (λ (n : ℕ). pushed l n c (entered l s)) (omega arith)

pub literals-++ : (k : ℕ) (s t : List ℤ) → FormedFrom k s → literals_from k (s ++ t) ≡ literals_from k s + literals_in t
unfolding literals_from
literals-++ zero [] t f = omega arith
literals-++ (suc k) [] t f = absurd f
literals-++ zero (h ∷ s) t f = literals-++ (header_literals h) s t f
literals-++ (suc k) (x ∷ s) t f = omega (arith, literals-++ k s t f)

literals_clause : (k : ℕ) (c : Clause) → length c ≤ k → literals_from k c ≡ length c
unfolding literals_from
literals_clause k [] h = refl
literals_clause zero (x ∷ c) h = absurd (omega arith)
literals_clause (suc k) (x ∷ c) h = omega (arith, literals_clause k c (omega arith))

pub literals_added : (s : List ℤ) (h : ℤ) (c : Clause) → Formed s → length c ≡ header_literals h → literals_in (s ++ (h ∷ c)) ≡ literals_in s + length c
unfolding literals_from
literals_added s h c f e = literals-++ 0 s (h ∷ c) f ∙ ap (λ (n : ℕ). literals_in s + n) (literals_clause (header_literals h) c (omega arith))

-- the same by places: the entry at a place
module _ (s : List ℤ) (at : ℕ) (h : at < length s) (p : Place s at) where
  pub entered_next : (l : ℤ) → entered l (take (past s at) s) ≡ pushed l at (clause_at s at) (entered l (take at s))
  entered_next l =
      ap (entered l) (prefix_next s at h)
      ∙ entered_added l (take at s) (header_at s at) (clause_at s at) p.before (clause_length s at h p.rest)
      ∙ ap (λ (n : ℕ). pushed l n (clause_at s at) (entered l (take at s))) (length-take-le at s p.inside)

  pub literals_next : literals_in (take (past s at) s) ≡ literals_in (take at s) + size_at s at
  literals_next =
      ap literals_in (prefix_next s at h)
      ∙ literals_added (take at s) (header_at s at) (clause_at s at) p.before (clause_length s at h p.rest)
      ∙ ap (λ (n : ℕ). literals_in (take at s) + n) (clause_length s at h p.rest)

pub entered_none : (l : ℤ) → entered l [] ≡ []
unfolding entered_from
entered_none l = refl

pub literals_none : literals_in [] ≡ 0
unfolding literals_from
literals_none = refl

-- ---- the same entries

pub same_refl : (s : List ℤ) → SameEntries s s
same_refl s = record { size = refl; formed = λ f. f; literals = refl; places = λ l. refl }

pub same_trans : {r s t : List ℤ} → SameEntries r s → SameEntries s t → SameEntries r t
same_trans a b = record {
  size = b.size ∙ a.size;
  formed = λ f. b.formed (a.formed f);
  literals = b.literals ∙ a.literals;
  places = λ l. b.places l ∙ a.places l;
}

-- only a header's sign changes
module _ {s : List ℤ} {at : ℕ} (p : Place s at) (h : at < length s) where
  after : marked s at ≡ take at s ++ flip (header_at s at) ∷ drop (suc at) s
  after = set_split s at (flip (header_at s at)) h

  before : s ≡ take at s ++ header_at s at ∷ drop (suc at) s
  before = split_at s at (pos 0) h

  marked_entered : (l : ℤ) → entered l (marked s at) ≡ entered l s
  unfolding entered_from
  marked_entered l =
      ap (entered l) after
      ∙ entered-++ l 0 0 0 [] (take at s) (flip (header_at s at) ∷ drop (suc at) s) p.before
      ∙ ap (λ (n : ℕ). entered_from l n (0 + length (take at s)) (0 + length (take at s) + 1) (entered l (take at s)) (drop (suc at) s)) (literals_flip (header_at s at))
      ∙ sym (ap (entered l) before ∙ entered-++ l 0 0 0 [] (take at s) (header_at s at ∷ drop (suc at) s) p.before)

  marked_literals : literals_in (marked s at) ≡ literals_in s
  unfolding literals_from
  marked_literals =
      ap literals_in after
      ∙ literals-++ 0 (take at s) (flip (header_at s at) ∷ drop (suc at) s) p.before
      ∙ ap (λ (n : ℕ). literals_in (take at s) + literals_from n (drop (suc at) s)) (literals_flip (header_at s at))
      ∙ sym (ap literals_in before ∙ literals-++ 0 (take at s) (header_at s at ∷ drop (suc at) s) p.before)

  pub marked_same : SameEntries s (marked s at)
  marked_same = record {
    size = length-set s at (flip (header_at s at));
    formed = λ f. place_formed (marked_place s at h p);
    literals = marked_literals;
    places = marked_entered;
  }

-- ---- members of what is entered

pushed_keeps : (l : ℤ) (at : ℕ) (c : Clause) (ps : List ℕ) (p : ℕ) → Memᴰ p ps → Memᴰ p (pushed l at c ps)
unfolding pushed
pushed_keeps l at [] ps p i = i
pushed_keeps l at (x ∷ c) ps p i = pushed_keeps l at c (cond (same l x) (at ∷ ps) ps) p (go (same l x))
  where
    go : (b : Bool) → Memᴰ p (cond b (at ∷ ps) ps)
    go true = there i
    go false = i

pushed_new : (l : ℤ) (at : ℕ) (c : Clause) (ps : List ℕ) → Memᴰ l c → Memᴰ at (pushed l at c ps)
unfolding pushed
pushed_new l at (x ∷ c) ps (here e) =
    let z : same l x ≡ true = subst (λ (y : ℤ). same l y ≡ true) e (to_true (literal_same l)) in
    pushed_keeps l at c (cond (same l x) (at ∷ ps) ps) at (rw z (here refl))
pushed_new l at (x ∷ c) ps (there i) = pushed_new l at c (cond (same l x) (at ∷ ps) ps) i
pushed_new l at [] ps x' = elim x' [ ]

pushed_cases : (l : ℤ) (at : ℕ) (c : Clause) (ps : List ℕ) (p : ℕ) → Memᴰ p (pushed l at c ps) → Memᴰ p ps ⊎ ((p ≡ at) × Memᴰ l c)
unfolding pushed
pushed_cases l at [] ps p i = inl i
pushed_cases l at (x ∷ c) ps p i = ⊎_elim (λ j. go (same l x) refl j) (λ j. inr (j.0, there j.1)) (pushed_cases l at c (cond (same l x) (at ∷ ps) ps) p i)
  where
    go : (b : Bool) → same l x ≡ b → Memᴰ p (cond b (at ∷ ps) ps) → Memᴰ p ps ⊎ ((p ≡ at) × Memᴰ l (x ∷ c))
    go true e (here q) = inr (q, here (same_eq l x (of_true e)))
    go true e (there j) = inl j
    go false e j = inl j

-- a place that is entered up to q
abbrev Met : ℤ → List ℤ → ℕ → ℕ → Type 0
Met l s q p = (p < q) × Place s p × Memᴰ l (clause_at s p)

entered_before : (l : ℤ) (s : List ℤ) (q : ℕ) → Place s q → (p : ℕ) → Memᴰ p (entered l (take q s)) → Met l s q p
unfolding entered_from
entered_before l s q e = by_entries s (λ (q : ℕ). (p : ℕ) → Memᴰ p (entered l (take q s)) → Met l s q p) start step q e
  where
    start : (p : ℕ) → Memᴰ p (entered l []) → Met l s 0 p
    start p i = absurd (Memᴰ.not-nil i)

    step : (at : ℕ) → at < length s → Place s at → ((p : ℕ) → Memᴰ p (entered l (take at s)) → Met l s at p) → (p : ℕ) → Memᴰ p (entered l (take (past s at) s)) → Met l s (past s at) p
    step at h e f p i = ⊎_elim older newer (pushed_cases l at (clause_at s at) (entered l (take at s)) p (subst (λ (r : List ℕ). Memᴰ p r) (entered_next s at h e l) i))
      where
        older : Memᴰ p (entered l (take at s)) → Met l s (past s at) p
        older j = let m = f p j in (omega (arith, m.0), m.1, m.2)

        newer : (p ≡ at) × Memᴰ l (clause_at s at) → Met l s (past s at) p
        newer j = (omega (arith, j.0), subst (λ (n : ℕ). Place s n) (sym j.0) e, subst (λ (n : ℕ). Memᴰ l (clause_at s n)) (sym j.0) j.1)

before_entered : (l : ℤ) (s : List ℤ) (q : ℕ) → Place s q → (p : ℕ) → Met l s q p → Memᴰ p (entered l (take q s))
before_entered l s q e = by_entries s (λ (q : ℕ). (p : ℕ) → Met l s q p → Memᴰ p (entered l (take q s))) start step q e
  where
    start : (p : ℕ) → Met l s 0 p → Memᴰ p (entered l (take 0 s))
    start p m = absurd (omega (arith, m.0))

    step : (at : ℕ) → at < length s → Place s at → ((p : ℕ) → Met l s at p → Memᴰ p (entered l (take at s))) → (p : ℕ) → Met l s (past s at) p → Memᴰ p (entered l (take (past s at) s))
    step at h e f p m =
        subst (λ (r : List ℕ). Memᴰ p r) (sym (entered_next s at h e l))
        (by_test (ltb p at) (λ t. pushed_keeps l at (clause_at s at) (entered l (take at s)) p (f p (ltb-true p at t, m.1, m.2)))
        (λ t. by_order at p (ltb-false p at t) (λ z. new z) (λ z. past_it z)))
      where
        new : at ≡ p → Memᴰ p (pushed l at (clause_at s at) (entered l (take at s)))
        new z = subst (λ (n : ℕ). Memᴰ n (pushed l at (clause_at s at) (entered l (take at s)))) z
            (pushed_new l at (clause_at s at) (entered l (take at s)) (subst (λ (n : ℕ). Memᴰ l (clause_at s n)) (sym z) m.2))

        past_it : at < p → Memᴰ p (pushed l at (clause_at s at) (entered l (take at s)))
        past_it z = absurd (omega (arith, past_within e m.1 z, m.0))

module _ {l : ℤ} {s : List ℤ} {p : ℕ} where
  pub entered_sound : Formed s → Memᴰ p (entered l s) → EntryWith l s p
  entered_sound f i =
      let m = entered_before l s (length s) (place_end f) p (subst (λ (r : List ℤ). Memᴰ p (entered l r)) (sym (take-length s)) i) in
      record { inside = m.0; place = m.1; with_literal = m.2 }

  pub entered_complete : EntryWith l s p → Memᴰ p (entered l s)
  entered_complete e =
      subst (λ (r : List ℤ). Memᴰ p (entered l r)) (take-length s)
      (before_entered l s (length s) (place_end (place_formed e.place)) p (e.inside, e.place, e.with_literal))

-- ---- the last first

abbrev pub Falling : List ℕ → Type 0
Falling [] = Unit {0}
Falling (a ∷ ps) = ((b : ℕ) → Memᴰ b ps → b ≤ a) × Falling ps

pushed_falling : (l : ℤ) (at : ℕ) (c : Clause) (ps : List ℕ) → Falling ps → ((b : ℕ) → Memᴰ b ps → b ≤ at) → Falling (pushed l at c ps)
unfolding pushed
pushed_falling l at [] ps f g = f
pushed_falling l at (x ∷ c) ps f g = go (same l x) (λ qs. pushed_falling l at c qs)
  where
    most : (b : ℕ) → Memᴰ b (at ∷ ps) → b ≤ at
    most b (here e) = omega arith
    most b (there i) = g b i

    go : (t : Bool) → ((qs : List ℕ) → Falling qs → ((b : ℕ) → Memᴰ b qs → b ≤ at) → Falling (pushed l at c qs)) → Falling (pushed l at c (cond t (at ∷ ps) ps))
    go true r = r (at ∷ ps) (g, f) most
    go false r = r ps f g

entered_falls : (l : ℤ) (s : List ℤ) (q : ℕ) → Place s q → Falling (entered l (take q s))
unfolding entered_from
entered_falls l s q e = by_entries s (λ (q : ℕ). Falling (entered l (take q s))) tt step q e
  where
    less : (a b : ℕ) → a < b → a ≤ b
    less a b h = omega arith

    step : (at : ℕ) → at < length s → Place s at → Falling (entered l (take at s)) → Falling (entered l (take (past s at) s))
    step at h e f =
        subst (λ (r : List ℕ). Falling r) (sym (entered_next s at h e l))
        (pushed_falling l at (clause_at s at) (entered l (take at s)) f (λ b i. less b at (entered_before l s at e b i).0))

falling_split : (ps qs : List ℕ) (a b : ℕ) → Falling (ps ++ (a ∷ qs)) → Memᴰ b qs → b ≤ a
falling_split [] qs a b f i = f.0 b i
falling_split (p ∷ ps) qs a b f i = falling_split ps qs a b f.1 i

module _ (l : ℤ) (s : List ℤ) (f : Formed s) where
  pub entered_falling : Falling (entered l s)
  entered_falling = subst (λ (r : List ℤ). Falling (entered l r)) (take-length s) (entered_falls l s (length s) (place_end f))

  -- what is behind a place is no later
  module _ (ps qs : List ℕ) (a : ℕ) (e : entered l s ≡ ps ++ (a ∷ qs)) where
    pub entered_behind : (b : ℕ) → Memᴰ b qs → b ≤ a
    entered_behind b i = falling_split ps qs a b (subst (λ (r : List ℕ). Falling r) e entered_falling) i

-- ---- how many nodes a store takes

few_literals : (k : ℕ) (s : List ℤ) → literals_from k s + length (stored_from k s) ≤ length s
unfolding literals_from stored_from
few_literals k [] = omega arith
few_literals zero (h ∷ s) = go (negative h) (few_literals (header_literals h) s)
  where
    go : (b : Bool) → literals_from (header_literals h) s + length (stored_from (header_literals h) s) ≤ length s
        → literals_from (header_literals h) s + length (cond b (stored_from (header_literals h) s) (take (header_literals h) s ∷ stored_from (header_literals h) s)) ≤ length (h ∷ s)
    go true e = omega arith
    go false e = omega arith
few_literals (suc k) (x ∷ s) = omega (arith, few_literals k s)

pub literals_fit : (s : List ℤ) → literals_in s + numbers_of (stored s) ≤ literals_of (stored s) + length s
unfolding numbers_of
literals_fit s = omega (arith, few_literals 0 s)

-- the standing clauses are some of the entries
pub literals_most : (s : List ℤ) → Formed s → literals_of (stored s) ≤ literals_in s
literals_most s f =
    subst (λ (r : List ℤ). literals_of (stored r) ≤ literals_in r) (take-length s)
    (by_entries s (λ (at : ℕ). literals_of (stored (take at s)) ≤ literals_in (take at s)) none step (length s) (place_end f))
  where
    none : literals_of (stored []) ≤ literals_in []
    none = omega (arith, ap literals_of stored_none, no_literals, literals_none)

    step : (at : ℕ) → at < length s → Place s at → literals_of (stored (take at s)) ≤ literals_in (take at s) → literals_of (stored (take (past s at) s)) ≤ literals_in (take (past s at) s)
    step at h e r =
        by_test (deleted_at s at) (λ d. omega (arith, r, ap literals_of (prefix_deleted s at h e d), literals_next s at h e))
        (λ d. omega (arith, r, ap literals_of (prefix_stands s at h e d), literals_snoc (stored (take at s)) (clause_at s at), clause_length s at h e.rest, literals_next s at h e))
