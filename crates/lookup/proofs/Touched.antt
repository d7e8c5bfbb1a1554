-- The places that are touched are those of the standing clauses that hold a negated literal of the choice, and they rise. Assumes nothing.
use mathlib.Core.Path.{◌≡◌, refl, sym, ap, subst, ◌∙◌}
use mathlib.Core.Logic.{⊎_elim}
use mathlib.Core.Bool.{Bool, true, false, cond}
use mathlib.Core.List.Memᴰ
use mathlib.Core.List.Memᴰ.{head as here}
use mathlib.Core.List.Memᴰ.{tail as there}
use mathlib.Core.List.{List, [], ◌∷◌, ◌++◌, append-nil, Memᴰ}
use Prim.Native.Nat.{ℕ, zero, suc, ◌+◌, ◌≤◌, ◌<◌}
use native.Mathlib.Omega.{arith}
use lib.Dec.{T, ltb}
use lib.IntN.{ℤ}
use lib.ListN.{length, take}
use lib.Seq.{take-append-le, take_all, length-take-le}
use borrow.Author.Tests.{ltb-true, ltb-false}
use Rattle.definition.specs.Lists.{bit, count}
use Rattle.definition.specs.Literals.{Clause, opposes}
use Rattle.theory_base.proofs.Tests.{of_true, to_true, by_test}
use Rattle.theory_base.proofs.Loops.{by_order}
use Rattle.literals.specs.Literal.{negative, header_literals}
use Rattle.store.specs.Store.{FormedFrom, stored_from, stored, header_at, deleted_at, clause_at, past, Place}
use Rattle.store.proofs.Laws.{by_entries, clause_length, prefix_next, past_within}
use Rattle.lookup.specs.Lookup.{touched_from, touched_places}
use Rattle.lookup.proofs.Rising.{Rising, rising_snoc}

-- ---- one entry more

formed_reach : (k : ℕ) (s : List ℤ) → FormedFrom k s → k ≤ length s
formed_reach zero s f = omega arith
formed_reach (suc k) [] f = absurd f
formed_reach (suc k) (x ∷ s) f = omega (arith, formed_reach k s f)

touched-++ : (l : Clause) (k at : ℕ) (s t : List ℤ) → FormedFrom k s → touched_from l k at (s ++ t) ≡ touched_from l k at s ++ touched_from l 0 (at + length s) t
unfolding touched_from
touched-++ l zero at [] t f = ap (λ (n : ℕ). touched_from l 0 n t) (omega arith)
touched-++ l (suc k) at [] t f = absurd f
touched-++ l zero at (h ∷ s) t f = rw (take-append-le (header_literals h) s t (formed_reach (header_literals h) s f)) (go (negative h) (opposes l (take (header_literals h) s)) (touched-++ l (header_literals h) (at + 1) s t f ∙ ap (λ (n : ℕ). touched_from l (header_literals h) (at + 1) s ++ touched_from l 0 n t) (omega arith)))
  where
    go : (a b : Bool) → touched_from l (header_literals h) (at + 1) (s ++ t) ≡ touched_from l (header_literals h) (at + 1) s ++ touched_from l 0 (at + length (h ∷ s)) t
        → cond a (touched_from l (header_literals h) (at + 1) (s ++ t)) (cond b (at ∷ touched_from l (header_literals h) (at + 1) (s ++ t)) (touched_from l (header_literals h) (at + 1) (s ++ t)))
        ≡ cond a (touched_from l (header_literals h) (at + 1) s) (cond b (at ∷ touched_from l (header_literals h) (at + 1) s) (touched_from l (header_literals h) (at + 1) s)) ++ touched_from l 0 (at + length (h ∷ s)) t
    go true b e = e
    go false true e = ap (λ (r : List ℕ). at ∷ r) e
    go false false e = e
touched-++ l (suc k) at (x ∷ s) t f = touched-++ l k (at + 1) s t f ∙ ap (λ (n : ℕ). touched_from l k (at + 1) s ++ touched_from l 0 n t) (omega arith)

touched_literals : (l : Clause) (k at : ℕ) (c : Clause) → length c ≤ k → touched_from l k at c ≡ []
unfolding touched_from
touched_literals l k at [] h = refl
touched_literals l zero at (x ∷ c) h = absurd (omega arith)
touched_literals l (suc k) at (x ∷ c) h = touched_literals l k (at + 1) c (omega arith)

-- what the entry at a place adds
abbrev added : Clause → List ℤ → ℕ → List ℕ
added l s at = cond (deleted_at s at) [] (cond (opposes l (clause_at s at)) (at ∷ []) [])

touched_one : (l : Clause) (at : ℕ) (h : ℤ) (c : Clause) → length c ≡ header_literals h → touched_from l 0 at (h ∷ c) ≡ cond (negative h) [] (cond (opposes l c) (at ∷ []) [])
unfolding touched_from
touched_one l at h c e = rw (touched_literals l (header_literals h) (at + 1) c (omega arith), take_all (header_literals h) c (omega arith)) refl

touched_next : (l : Clause) (s : List ℤ) (at : ℕ) → at < length s → Place s at → touched_places l (take (past s at) s) ≡ touched_places l (take at s) ++ added l s at
touched_next l s at h p =
    ap (touched_places l) (prefix_next s at h)
    ∙ touched-++ l 0 0 (take at s) (header_at s at ∷ clause_at s at) p.before
    ∙ ap (λ (n : ℕ). touched_places l (take at s) ++ touched_from l 0 n (header_at s at ∷ clause_at s at)) (let e : 0 + length (take at s) ≡ at = omega (arith, length-take-le at s p.inside) in e)
    ∙ ap (λ (r : List ℕ). touched_places l (take at s) ++ r) (touched_one l at (header_at s at) (clause_at s at) (clause_length s at h p.rest))

-- ---- members

-- an entry before q stands and holds a negated literal of l
pub record Touches (l : Clause) (s : List ℤ) (q p : ℕ) : Type 0 where
  pub before : p < q
  pub place : Place s p
  pub stands : deleted_at s p ≡ false
  pub opposing : T (opposes l (clause_at s p))

touches_later : {l : Clause} {s : List ℤ} {a b p : ℕ} → a ≤ b → Touches l s a p → Touches l s b p
touches_later h t = record { before = omega (arith, t.before); place = t.place; stands = t.stands; opposing = t.opposing }

added_mem : (l : Clause) (s : List ℤ) (at p : ℕ) → Memᴰ p (added l s at) → (p ≡ at) × (deleted_at s at ≡ false) × T (opposes l (clause_at s at))
added_mem l s at p i = go (deleted_at s at) (opposes l (clause_at s at)) refl refl i
  where
    go : (a b : Bool) → deleted_at s at ≡ a → opposes l (clause_at s at) ≡ b → Memᴰ p (cond a [] (cond b (at ∷ []) [])) → (p ≡ at) × (deleted_at s at ≡ false) × T (opposes l (clause_at s at))
    go true b x y i = absurd (Memᴰ.not-nil i)
    go false true x y (here e) = (e, x, of_true y)
    go false true x y (there i) = absurd (Memᴰ.not-nil i)
    go false false x y i = absurd (Memᴰ.not-nil i)

mem_added : (l : Clause) (s : List ℤ) (at : ℕ) → deleted_at s at ≡ false → T (opposes l (clause_at s at)) → Memᴰ at (added l s at)
mem_added l s at d t = let e : opposes l (clause_at s at) ≡ true = to_true t in rw (d, e) (here refl)

pub touched_sound : (l : Clause) (s : List ℤ) (q : ℕ) → Place s q → (p : ℕ) → Memᴰ p (touched_places l (take q s)) → Touches l s q p
unfolding touched_from
touched_sound l s q e = by_entries s (λ (q : ℕ). (p : ℕ) → Memᴰ p (touched_places l (take q s)) → Touches l s q p) start step q e
  where
    start : (p : ℕ) → Memᴰ p (touched_places l []) → Touches l s 0 p
    start p i = absurd (Memᴰ.not-nil i)

    step : (at : ℕ) → at < length s → Place s at → ((p : ℕ) → Memᴰ p (touched_places l (take at s)) → Touches l s at p) → (p : ℕ) → Memᴰ p (touched_places l (take (past s at) s)) → Touches l s (past s at) p
    step at h e f p i =
        ⊎_elim (λ j. touches_later (omega arith) (f p j)) new
        (Memᴰ.append_cases (touched_places l (take at s)) (subst (λ (r : List ℕ). Memᴰ p r) (touched_next l s at h e) i))
      where
        new : Memᴰ p (added l s at) → Touches l s (past s at) p
        new j =
            let m = added_mem l s at p j in
            subst (λ (n : ℕ). Touches l s (past s at) n) (sym m.0) record { before = omega arith; place = e; stands = m.1; opposing = m.2 }

pub touched_complete : (l : Clause) (s : List ℤ) (q : ℕ) → Place s q → (p : ℕ) → Touches l s q p → Memᴰ p (touched_places l (take q s))
touched_complete l s q e = by_entries s (λ (q : ℕ). (p : ℕ) → Touches l s q p → Memᴰ p (touched_places l (take q s))) start step q e
  where
    start : (p : ℕ) → Touches l s 0 p → Memᴰ p (touched_places l (take 0 s))
    start p m = absurd (omega (arith, m.before))

    step : (at : ℕ) → at < length s → Place s at → ((p : ℕ) → Touches l s at p → Memᴰ p (touched_places l (take at s))) → (p : ℕ) → Touches l s (past s at) p → Memᴰ p (touched_places l (take (past s at) s))
    step at h e f p m =
        subst (λ (r : List ℕ). Memᴰ p r) (sym (touched_next l s at h e))
        (by_test (ltb p at) (λ t. Memᴰ.append_left (added l s at) (f p record { before = ltb-true p at t; place = m.place; stands = m.stands; opposing = m.opposing }))
        (λ t. by_order at p (ltb-false p at t) new past_it))
      where
        new : at ≡ p → Memᴰ p (touched_places l (take at s) ++ added l s at)
        new z =
            let m : Touches l s (past s at) at = subst (λ (n : ℕ). Touches l s (past s at) n) (sym z) m in
            subst (λ (n : ℕ). Memᴰ n (touched_places l (take at s) ++ added l s at)) z (Memᴰ.append_right (touched_places l (take at s)) (mem_added l s at m.stands m.opposing))

        past_it : at < p → Memᴰ p (touched_places l (take at s) ++ added l s at)
        past_it z = absurd (omega (arith, past_within e m.place z, m.before))

pub touched_rising : (l : Clause) (s : List ℤ) (q : ℕ) → Place s q → Rising (touched_places l (take q s))
unfolding touched_from
touched_rising l s q e = by_entries s (λ (q : ℕ). Rising (touched_places l (take q s))) tt step q e
  where
    step : (at : ℕ) → at < length s → Place s at → Rising (touched_places l (take at s)) → Rising (touched_places l (take (past s at) s))
    step at h e r = subst Rising (sym (touched_next l s at h e)) (go (deleted_at s at) (opposes l (clause_at s at)))
      where
        go : (a b : Bool) → Rising (touched_places l (take at s) ++ cond a [] (cond b (at ∷ []) []))
        go true b = subst Rising (sym (append-nil (touched_places l (take at s)))) r
        go false true = rising_snoc (touched_places l (take at s)) at r (λ b i. (touched_sound l s at e b i).before)
        go false false = subst Rising (sym (append-nil (touched_places l (take at s)))) r

-- as many as there are standing clauses with a negated literal of l
touched_from_count : (l : Clause) (k at : ℕ) (s : List ℤ) → length (touched_from l k at s) ≡ count (opposes l) (stored_from k s)
unfolding touched_from stored_from count
touched_from_count l k at [] = refl
touched_from_count l zero at (h ∷ s) = go (negative h) (opposes l (take (header_literals h) s)) refl (touched_from_count l (header_literals h) (at + 1) s)
  where
    go : (b o : Bool) → opposes l (take (header_literals h) s) ≡ o → length (touched_from l (header_literals h) (at + 1) s) ≡ count (opposes l) (stored_from (header_literals h) s)
        → length (cond b (touched_from l (header_literals h) (at + 1) s) (cond o (at ∷ touched_from l (header_literals h) (at + 1) s) (touched_from l (header_literals h) (at + 1) s)))
        ≡ count (opposes l) (cond b (stored_from (header_literals h) s) (take (header_literals h) s ∷ stored_from (header_literals h) s))
    go true o e r = r
    go false true e r = omega (arith, ap bit e)
    go false false e r = omega (arith, ap bit e)
touched_from_count l (suc k) at (x ∷ s) = touched_from_count l k (at + 1) s

pub touched_count : (l : Clause) (s : List ℤ) → length (touched_places l s) ≡ count (opposes l) (stored s)
touched_count l s = touched_from_count l 0 0 s
