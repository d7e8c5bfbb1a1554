-- The first standing clause with the same set of literals: what its place says, and what stands once it is deleted. Assumes nothing.
use mathlib.Core.Path.{◌≡◌, refl, sym, ap, subst, ◌∙◌}
use mathlib.Core.Bool.{Bool, true, false, cond, and_comm}
use mathlib.Core.List.{List, [], ◌∷◌, ◌++◌}
use Prim.Native.Nat.{ℕ, zero, suc, ◌+◌, ◌≤◌, ◌<◌}
use native.Mathlib.Omega.{arith}
use Rattle.std.specs.Prelude.{Some, None}
use lib.IntN.{ℤ, pos, negsuc}
use lib.ListN.{length, take, drop}
use lib.Seq.{take-take}
use Rattle.definition.specs.Lists.{any, all}
use Rattle.definition.specs.Literals.{Clause, Formula, holds, same_set}
use Rattle.definition.specs.Standing.{stands, take_out}
use Rattle.theory_base.proofs.Tests.{differ}
use Rattle.literals.specs.Literal.{header_literals}
use Rattle.store.specs.Store.{FormedFrom, Formed, stored_from, stored, size_at, deleted_at, clause_at, past, marked, Place, begins_with, place_from, place_of, Deleted}
use Rattle.theory_base.proofs.Slices.{drop_step, drop_end}
use Rattle.theory_base.proofs.Removal.{stands_past, take_out_past, take_out_none, stands_head, take_out_head}
use Rattle.store.proofs.Laws.{by_entries, place_end, drop_past, past_is, place_within, place_formed, stored_around, marked_place, marked_stored}

place_skip : (c : Clause) (k at : ℕ) (s : List ℤ) → place_from c k at s ≡ place_from c 0 (at + k) (drop k s)
unfolding place_from
place_skip c zero at s = ap (λ (n : ℕ). place_from c 0 n s) (omega arith)
place_skip c (suc k) at [] = refl
place_skip c (suc k) at (x ∷ s) = place_skip c k (at + 1) s ∙ ap (λ (n : ℕ). place_from c 0 n (drop k s)) (omega arith)

same_set_swap : (c d : Clause) → same_set c d ≡ same_set d c
unfolding same_set
same_set_swap c d = and_comm (all (λ (l : ℤ). holds l d) c) (all (λ (l : ℤ). holds l c) d)

-- what the entry at a place says
pub begins_at : (c : Clause) (s : List ℤ) (at : ℕ) → at < length s → begins_with c (drop at s) ≡ cond (deleted_at s at) false (same_set c (clause_at s at))
unfolding begins_with
begins_at c s at h = rw (drop_step s at (pos 0) h) refl

pub entry_begins : (c : Clause) (s : List ℤ) (at : ℕ) → at < length s → begins_with c (drop at s) ≡ cond (deleted_at s at) false (same_set (clause_at s at) c)
entry_begins c s at h = begins_at c s at h ∙ ap (cond (deleted_at s at) false) (same_set_swap c (clause_at s at))

-- ---- the loop
module _ (s : List ℤ) (at : ℕ) (h : at < length s) (c : Clause) where
  pub matches_deleted : deleted_at s at ≡ true → false ≡ begins_with c (drop at s)
  matches_deleted e = rw (begins_at c s at h, e) refl

  pub matches_stands : deleted_at s at ≡ false → same_set c (clause_at s at) ≡ begins_with c (drop at s)
  matches_stands e = rw (begins_at c s at h, e) refl

  pub place_hit : begins_with c (drop at s) ≡ true → Some at ≡ place_from c 0 at (drop at s)
  unfolding place_from
  place_hit e = rw (drop_step s at (pos 0) h) (rw (rw (drop_step s at (pos 0) h) at e) refl)

  pub place_miss : begins_with c (drop at s) ≡ false → place_from c 0 (past s at) (drop (past s at) s) ≡ place_from c 0 at (drop at s)
  unfolding place_from
  place_miss e =
      rw (drop_step s at (pos 0) h)
      (rw (rw (drop_step s at (pos 0) h) at e)
      (sym (place_skip c (size_at s at) (at + 1) (drop (at + 1) s)
      ∙ ap (λ (r : List ℤ). place_from c 0 (at + 1 + size_at s at) r) (drop_past s at h)
      ∙ ap (λ (n : ℕ). place_from c 0 n (drop (past s at) s)) (past_is s at h))))

pub place_nowhere : (c : Clause) (s : List ℤ) (at : ℕ) → length s ≤ at → None ≡ place_from c 0 at (drop at s)
unfolding place_from
place_nowhere c s at h = rw (drop_end s at h) refl

-- it stands at q, and none of those before it has the same set
record HitFrom (c : Clause) (k at p : ℕ) (s : List ℤ) : Type 0 where
  pub q : ℕ
  pub place : p ≡ at + q
  pub far : k ≤ q
  pub inside : q < length s
  pub before : FormedFrom k (take q s)
  pub stays : deleted_at s q ≡ false
  pub same : same_set c (clause_at s q) ≡ true
  pub none : stands c (stored_from k (take q s)) ≡ false

hit_here : (c : Clause) (at p : ℕ) (h : ℤ) (s : List ℤ) → begins_with c (h ∷ s) ≡ true → Some at ≡ Some p → HitFrom c 0 at p (h ∷ s)
unfolding stored_from stands any begins_with
hit_here c at p (negsuc n) s m e = differ {b = true} tt (sym m)
hit_here c at p (pos n) s m e =
    let x : at ≡ p = cc in
    record { q = 0; place = omega arith; far = omega arith; inside = omega arith; before = tt; stays = refl; same = m; none = refl }

deeper : (x : ℤ) (s : List ℤ) (q : ℕ) → clause_at (x ∷ s) (suc q) ≡ clause_at s q
deeper x s q = let e : suc q + 1 ≡ suc (q + 1) = omega arith in ap (λ (k : ℕ). take (size_at s q) (drop k (x ∷ s))) e

hit_later : (c : Clause) (at p : ℕ) (h : ℤ) (s : List ℤ) → begins_with c (h ∷ s) ≡ false → HitFrom c (header_literals h) (at + 1) p s → HitFrom c 0 at p (h ∷ s)
unfolding stored_from stands any begins_with
hit_later c at p (negsuc n) s m r =
    record { q = suc r.q; place = omega (arith, r.place); far = omega arith; inside = omega (arith, r.inside); before = r.before; stays = r.stays; same = ap (same_set c) (deeper (negsuc n) s r.q) ∙ r.same; none = r.none }
hit_later c at p (pos n) s m r = record {
  q = suc r.q;
  place = omega (arith, r.place);
  far = omega arith;
  inside = omega (arith, r.inside);
  before = r.before;
  stays = r.stays;
  same = ap (same_set c) (deeper (pos n) s r.q) ∙ r.same;
  none = rw (take-take n r.q s r.far, m) r.none;
}

hit_deeper : (c : Clause) (k at p : ℕ) (x : ℤ) (s : List ℤ) → HitFrom c k (at + 1) p s → HitFrom c (suc k) at p (x ∷ s)
unfolding stored_from
hit_deeper c k at p x s r =
    record { q = suc r.q; place = omega (arith, r.place); far = omega (arith, r.far); inside = omega (arith, r.inside); before = r.before; stays = r.stays; same = ap (same_set c) (deeper x s r.q) ∙ r.same; none = r.none }

hit_from : (c : Clause) (k at p : ℕ) (s : List ℤ) → place_from c k at s ≡ Some p → HitFrom c k at p s
unfolding place_from
hit_from c zero at p [] e = absurd (let z : ◌≡◌ {A = ℕ} 0 1 = cc in omega arith)
hit_from c (suc k) at p [] e = absurd (let z : ◌≡◌ {A = ℕ} 0 1 = cc in omega arith)
hit_from c zero at p (h ∷ s) e = go (begins_with c (h ∷ s)) refl e (λ x. hit_from c (header_literals h) (at + 1) p s x)
  where
    go : (t : Bool) → begins_with c (h ∷ s) ≡ t → cond t (Some at) (place_from c (header_literals h) (at + 1) s) ≡ Some p →
        (place_from c (header_literals h) (at + 1) s ≡ Some p → HitFrom c (header_literals h) (at + 1) p s) → HitFrom c 0 at p (h ∷ s)
    go true m x r = hit_here c at p h s m x
    go false m x r = hit_later c at p h s m (r x)
hit_from c (suc k) at p (x ∷ s) e = hit_deeper c k at p x s (hit_from c k (at + 1) p s e)

-- what is known of the place that was found
pub record Hit (c : Clause) (p : ℕ) (s : List ℤ) : Type 0 where
  pub inside : p < length s
  pub place : Formed s → Place s p
  pub stays : deleted_at s p ≡ false
  pub same : same_set c (clause_at s p) ≡ true
  -- none before it has the same set
  pub none : stands c (stored (take p s)) ≡ false

pub hit : (c : Clause) (s : List ℤ) (p : ℕ) → place_of c s ≡ Some p → Hit c p s
hit c s p e =
    let r = hit_from c 0 0 p s e in
    let i : p ≡ r.q = omega (arith, r.place) in
    subst (λ (k : ℕ). Hit c k s) (sym i)
    (record { inside = r.inside; place = λ f. place_within f (omega (arith, r.inside)) r.before; stays = r.stays; same = r.same; none = r.none })

miss_from : (c : Clause) (k at : ℕ) (s : List ℤ) → place_from c k at s ≡ None → stands c (stored_from k s) ≡ false
unfolding place_from stored_from stands any begins_with
miss_from c zero at [] e = refl
miss_from c (suc k) at [] e = refl
miss_from c zero at (h ∷ s) e = go h (begins_with c (h ∷ s)) refl e (λ x. miss_from c (header_literals h) (at + 1) s x)
  where
    go : (h : ℤ) (t : Bool) → begins_with c (h ∷ s) ≡ t → cond t (Some at) (place_from c (header_literals h) (at + 1) s) ≡ None →
        (place_from c (header_literals h) (at + 1) s ≡ None → stands c (stored_from (header_literals h) s) ≡ false) →
        stands c (stored_from 0 (h ∷ s)) ≡ false
    go h true m x r = absurd (let z : ◌≡◌ {A = ℕ} 0 1 = cc in omega arith)
    go (negsuc n) false m x r = r x
    go (pos n) false m x r = rw m (r x)
miss_from c (suc k) at (x ∷ s) e = miss_from c k (at + 1) s e

miss : (c : Clause) (s : List ℤ) → place_of c s ≡ None → stands c (stored s) ≡ false
miss c s e = miss_from c 0 0 s e

-- whether one was found is whether one stands
hit_stands : (c : Clause) (s : List ℤ) (p : ℕ) → Formed s → place_of c s ≡ Some p → stands c (stored s) ≡ true
hit_stands c s p f e =
    let r = hit c s p e in
    ap (stands c) (stored_around s p r.inside (r.place f) r.stays)
    ∙ stands_past c (stored (take p s)) (clause_at s p ∷ stored (drop (past s p) s)) r.none
    ∙ stands_head c (clause_at s p) (stored (drop (past s p) s)) r.same

pub deleted_hit : (c s t : List ℤ) (p : ℕ) → Formed s → place_of c s ≡ Some p → t ≡ marked s p → Deleted c s true t
deleted_hit c s t p f e d =
    let r = hit c s p e in
    let l = r.place f in
    rw d (record {
      found = sym (hit_stands c s p f e);
      formed = place_formed (marked_place s p r.inside l);
      left =
          marked_stored s p r.inside l r.stays
          ∙ sym (ap (take_out c) (stored_around s p r.inside l r.stays)
          ∙ take_out_past c (stored (take p s)) (clause_at s p ∷ stored (drop (past s p) s)) r.none
          ∙ ap (λ (a : Formula). stored (take p s) ++ a) (take_out_head c (clause_at s p) (stored (drop (past s p) s)) r.same));
    })

pub deleted_miss : (c s : List ℤ) → Formed s → place_of c s ≡ None → Deleted c s false s
deleted_miss c s f e = let r = miss c s e in record { found = sym r; formed = f; left = sym (take_out_none c (stored s) r) }

-- ---- a match that no other comes before is found

module _ (c : Clause) (s : List ℤ) (f : Formed s) where
  unmatched_before : (p : ℕ) → Place s p → ((q : ℕ) → q < p → Place s q → begins_with c (drop q s) ≡ false) → place_from c 0 p (drop p s) ≡ place_of c s
  unmatched_before p e g = by_entries s (λ (at : ℕ). at ≤ p → place_from c 0 at (drop at s) ≡ place_of c s) (λ _. refl) step p e (omega arith)
    where
      step : (at : ℕ) → at < length s → Place s at → (at ≤ p → place_from c 0 at (drop at s) ≡ place_of c s) → past s at ≤ p → place_from c 0 (past s at) (drop (past s at) s) ≡ place_of c s
      step at h a r m = place_miss s at h c (g at (omega arith) a) ∙ r (omega arith)

  pub first_match : (p : ℕ) → Place s p → p < length s → begins_with c (drop p s) ≡ true → ((q : ℕ) → q < p → Place s q → begins_with c (drop q s) ≡ false) → place_of c s ≡ Some p
  first_match p e h b g = sym (unmatched_before p e g) ∙ sym (place_hit s p h c b)

  pub no_match : ((q : ℕ) → q < length s → Place s q → begins_with c (drop q s) ≡ false) → place_of c s ≡ None
  no_match g = sym (unmatched_before (length s) (place_end f) g) ∙ sym (place_nowhere c s (length s) (omega arith))
