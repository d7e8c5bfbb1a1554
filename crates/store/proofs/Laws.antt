-- What stands in a store, by places: prefixes and rests, the entry at a place, a clause marked as deleted, a clause added. Assumes nothing.
use mathlib.Core.Path.{◌≡◌, refl, sym, ap, ap₂, subst, ◌∙◌}
use mathlib.Core.Bool.{Bool, true, false, cond, ◌&&◌, not}
use mathlib.Core.List.{List, [], ◌∷◌, ◌++◌, append-nil}
use Prim.Native.Nat.{ℕ, zero, suc, ◌+◌, ◌-◌, ◌≤◌, ◌<◌}
use native.Mathlib.Omega.{arith}
use native.Mathlib.Numerals.{one-add}
use lib.Dec.{leb}
use Rattle.std.specs.Prelude.{Some, None}
use lib.IntN.{ℤ, pos}
use lib.ListN.{length, take, drop, length-append, length-drop, length-set, take-append-drop}
use lib.Seq.{drop-append-le, get_or-take, drop-drop, take-add, take_all, take-append-le, take-take, take-length, length-take-le, sets, length-sets, take-set-le, drop-set-lt, get_or-set_same, take_at}
use borrow.Author.Tests.{leb-true, le-leb}
use Rattle.definition.specs.Literals.{Clause, Formula}
use Rattle.theory_base.proofs.Tests.{differ}
use Rattle.theory_base.proofs.Loops.{by_order}
use Rattle.literals.specs.Literal.{largest, negative, header_of, flip, header_literals}
use Rattle.literals.proofs.Laws.{flip_negative, literals_flip, literals_header}
use Rattle.store.specs.Store.{FormedFrom, Formed, stored_from, stored, entry, header_at, size_at, deleted_at, clause_at, past, marked, Place, fits_in, end_after, with_entry}
use Rattle.theory_base.proofs.Slices.{drop_step, drop_end, sets_before, sets_after, taken_sets}

-- ---- what follows a clause's literals

stored_skip : (k : ℕ) (s : List ℤ) → stored_from k s ≡ stored (drop k s)
unfolding stored_from
stored_skip zero s = refl
stored_skip (suc k) [] = refl
stored_skip (suc k) (x ∷ s) = stored_skip k s

formed_skip : (k : ℕ) (s : List ℤ) → FormedFrom k s → (k ≤ length s) × Formed (drop k s)
formed_skip zero s f = (omega arith, f)
formed_skip (suc k) [] f = absurd f
formed_skip (suc k) (x ∷ s) f = let m = formed_skip k s f in (omega (arith, m.0), m.1)

-- ---- a store after a store

formed_from-++ : (k : ℕ) (s t : List ℤ) → FormedFrom k s → Formed t → FormedFrom k (s ++ t)
formed_from-++ zero [] t f g = g
formed_from-++ (suc k) [] t f g = absurd f
formed_from-++ zero (h ∷ s) t f g = formed_from-++ (header_literals h) s t f g
formed_from-++ (suc k) (x ∷ s) t f g = formed_from-++ k s t f g

rest_from : (k : ℕ) (s t : List ℤ) → FormedFrom k s → FormedFrom k (s ++ t) → Formed t
rest_from zero [] t f g = g
rest_from (suc k) [] t f g = absurd f
rest_from zero (h ∷ s) t f g = rest_from (header_literals h) s t f g
rest_from (suc k) (x ∷ s) t f g = rest_from k s t f g

stored_from-++ : (k : ℕ) (s t : List ℤ) → FormedFrom k s → stored_from k (s ++ t) ≡ stored_from k s ++ stored t
unfolding stored_from
stored_from-++ zero [] t f = refl
stored_from-++ (suc k) [] t f = absurd f
stored_from-++ zero (h ∷ s) t f = go (negative h) (stored_from-++ (header_literals h) s t f) (take-append-le (header_literals h) s t (formed_skip (header_literals h) s f).0)
  where
    go : (b : Bool) → stored_from (header_literals h) (s ++ t) ≡ stored_from (header_literals h) s ++ stored t → take (header_literals h) (s ++ t) ≡ take (header_literals h) s
        → cond b (stored_from (header_literals h) (s ++ t)) (take (header_literals h) (s ++ t) ∷ stored_from (header_literals h) (s ++ t)) ≡ cond b (stored_from (header_literals h) s) (take (header_literals h) s ∷ stored_from (header_literals h) s) ++ stored t
    go true e p = e
    go false e p = cc
stored_from-++ (suc k) (x ∷ s) t f = stored_from-++ k s t f

pub formed-++ : (s t : List ℤ) → Formed s → Formed t → Formed (s ++ t)
formed-++ s t f g = formed_from-++ 0 s t f g

-- what follows a formed part of a formed store
formed_rest : (s t : List ℤ) → Formed s → Formed (s ++ t) → Formed t
formed_rest s t f g = rest_from 0 s t f g

pub stored-++ : (s t : List ℤ) → Formed s → stored (s ++ t) ≡ stored s ++ stored t
stored-++ s t f = stored_from-++ 0 s t f

pub stored_none : stored [] ≡ []
unfolding stored_from
stored_none = refl

-- ---- places

pub place_start : {s : List ℤ} → Formed s → Place s 0
place_start f = record { inside = omega arith; before = tt; rest = f }

pub place_within : {s : List ℤ} {at : ℕ} → Formed s → at ≤ length s → Formed (take at s) → Place s at
place_within {s} {at} f h g = record { inside = h; before = g; rest = formed_rest (take at s) (drop at s) g (rw take-append-drop f) }

pub place_end : {s : List ℤ} → Formed s → Place s (length s)
place_end {s} f = place_within f (omega arith) (rw take-length f)

pub place_formed : {s : List ℤ} {at : ℕ} → Place s at → Formed s
place_formed {s} {at} p = rw (take-append-drop at s) at (formed-++ (take at s) (drop at s) p.before p.rest)

-- what stands before a place, and what stands from it on
pub stored_split : {s : List ℤ} {at : ℕ} → Place s at → stored s ≡ stored (take at s) ++ stored (drop at s)
stored_split {s} {at} p = ap stored (sym (take-append-drop at s)) ∙ stored-++ (take at s) (drop at s) p.before

-- nothing stands past the end
pub stored_end : (s : List ℤ) (at : ℕ) → length s ≤ at → stored (drop at s) ≡ []
stored_end s at h = ap stored (drop_end s at h) ∙ stored_none

-- ---- one entry

formed_literals : (c : Clause) (m : ℕ) → length c ≡ m → FormedFrom m c
formed_literals [] zero e = tt
formed_literals [] (suc m) e = absurd (omega arith)
formed_literals (x ∷ c) zero e = absurd (omega arith)
formed_literals (x ∷ c) (suc m) e = formed_literals c m (omega arith)

stored_literals : (c : Clause) (m : ℕ) → length c ≡ m → stored_from m c ≡ []
unfolding stored_from
stored_literals [] m e = refl
stored_literals (x ∷ c) zero e = absurd (omega arith)
stored_literals (x ∷ c) (suc m) e = stored_literals c m (omega arith)

pub one_formed : (h : ℤ) (c : Clause) → length c ≡ header_literals h → Formed (h ∷ c)
one_formed h c e = formed_literals c (header_literals h) e

pub one_stored : (h : ℤ) (c : Clause) → length c ≡ header_literals h → stored (h ∷ c) ≡ cond (negative h) [] (c ∷ [])
unfolding stored_from
one_stored h c e = rw (stored_literals c (header_literals h) e, take_all (header_literals h) c (omega arith)) refl

-- ---- the entry at a place
module _ (s : List ℤ) (at : ℕ) (h : at < length s) where
  here : drop at s ≡ header_at s at ∷ drop (at + 1) s
  here = drop_step s at (pos 0) h

  pub past_is : at + 1 + size_at s at ≡ past s at
  past_is = omega arith

  pub drop_past : drop (size_at s at) (drop (at + 1) s) ≡ drop (past s at) s
  drop_past = drop-drop (size_at s at) (at + 1) s ∙ ap (λ (k : ℕ). drop k s) past_is

  -- the entry's literals lie inside, and an entry begins past it
  pub formed_next : Formed (drop at s) → (past s at ≤ length s) × Formed (drop (past s at) s)
  formed_next f =
      let m = formed_skip (size_at s at) (drop (at + 1) s) (rw here at f) in
      (omega (arith, m.0, length-drop (at + 1) s), rw drop_past at m.1)

  pub next_formed : Formed (drop at s) → Formed (drop (past s at) s)
  next_formed f = (formed_next f).1

  -- what stands from the place on, by the header
  rest_stored : stored (drop at s) ≡ cond (deleted_at s at) (stored (drop (past s at) s)) (clause_at s at ∷ stored (drop (past s at) s))
  unfolding stored_from
  rest_stored = rw (here, stored_skip (size_at s at) (drop (at + 1) s), drop_past) refl

  pub rest_deleted : deleted_at s at ≡ true → stored (drop at s) ≡ stored (drop (past s at) s)
  rest_deleted e = rest_stored ∙ rw e refl

  pub rest_stands : deleted_at s at ≡ false → stored (drop at s) ≡ clause_at s at ∷ stored (drop (past s at) s)
  rest_stands e = rest_stored ∙ rw e refl

  pub piece : take (1 + size_at s at) (drop at s) ≡ header_at s at ∷ clause_at s at
  piece = ap (λ (k : ℕ). take k (drop at s)) (one-add (size_at s at)) ∙ ap (take (suc (size_at s at))) here

  pub clause_length : Formed (drop at s) → length (clause_at s at) ≡ size_at s at
  clause_length f = length-take-le (size_at s at) (drop (at + 1) s) (omega (arith, (formed_next f).0, length-drop (at + 1) s))

  -- the elements up to the place past the entry
  pub prefix_next : take (past s at) s ≡ take at s ++ header_at s at ∷ clause_at s at
  prefix_next = take-add at (1 + size_at s at) s ∙ ap (λ (r : List ℤ). take at s ++ r) piece

  pub formed_one_at : Formed (drop at s) → Formed (header_at s at ∷ clause_at s at)
  formed_one_at f = one_formed (header_at s at) (clause_at s at) (clause_length f)

  pub stored_one_at : Formed (drop at s) → stored (header_at s at ∷ clause_at s at) ≡ cond (deleted_at s at) [] (clause_at s at ∷ [])
  stored_one_at f = one_stored (header_at s at) (clause_at s at) (clause_length f)

  pub place_next : Place s at → Place s (past s at)
  place_next p =
      record { inside = (formed_next p.rest).0; before = rw prefix_next (formed-++ (take at s) _ p.before (formed_one_at p.rest)); rest = (formed_next p.rest).1 }

  -- what stands before the place past the entry
  prefix_stored : Place s at → stored (take (past s at) s) ≡ stored (take at s) ++ cond (deleted_at s at) [] (clause_at s at ∷ [])
  prefix_stored p = ap stored prefix_next ∙ stored-++ (take at s) _ p.before ∙ ap (λ (r : Formula). stored (take at s) ++ r) (stored_one_at p.rest)

  pub prefix_deleted : Place s at → deleted_at s at ≡ true → stored (take (past s at) s) ≡ stored (take at s)
  prefix_deleted p e = prefix_stored p ∙ rw e (append-nil (stored (take at s)))

  pub prefix_stands : Place s at → deleted_at s at ≡ false → stored (take (past s at) s) ≡ stored (take at s) ++ (clause_at s at ∷ [])
  prefix_stands p e = prefix_stored p ∙ rw e refl

  -- the clause at the place among all
  pub stored_around : Place s at → deleted_at s at ≡ false → stored s ≡ stored (take at s) ++ clause_at s at ∷ stored (drop (past s at) s)
  stored_around p e = stored_split p ∙ ap (λ (r : Formula). stored (take at s) ++ r) (rest_stands e)

-- ---- a clause marked as deleted
module _ (s : List ℤ) (at : ℕ) (h : at < length s) where
  abbrev new : List ℤ
  new = marked s at

  inside : at < length new
  inside = omega (arith, length-set s at (flip (header_at s at)))

  marked_header : header_at (marked s at) at ≡ flip (header_at s at)
  marked_header = get_or-set_same s at (flip (header_at s at)) (pos 0) h

  -- before and behind nothing changes
  pub marked_before : take at (marked s at) ≡ take at s
  marked_before = take-set-le at s at (flip (header_at s at)) (omega arith)

  pub marked_behind : (k : ℕ) → at < k → drop k (marked s at) ≡ drop k s
  marked_behind k l = drop-set-lt k s at (flip (header_at s at)) l

  pub marked_past : past (marked s at) at ≡ past s at
  marked_past = ap (λ (k : ℕ). at + (1 + k)) (ap header_literals marked_header ∙ literals_flip (header_at s at))

  pub marked_place : Place s at → Place (marked s at) at
  marked_place p = record {
    inside = omega (arith, inside);
    before = rw marked_before p.before;
    rest =
        let e : drop at new ≡ flip (header_at s at) ∷ drop (at + 1) s = drop_step new at (pos 0) inside ∙ ap₂ (λ (x : ℤ) (r : List ℤ). x ∷ r) marked_header (marked_behind (at + 1) (omega arith)) in
        rw e (subst (λ (k : ℕ). FormedFrom k (drop (at + 1) s)) (sym (literals_flip (header_at s at))) (rw (drop_step s at (pos 0) h) at p.rest));
  }

  gone : deleted_at s at ≡ false → deleted_at new at ≡ true
  gone e = ap negative marked_header ∙ flip_negative (header_at s at) ∙ ap not e

  behind : drop (past new at) new ≡ drop (past s at) s
  behind = ap (λ (k : ℕ). drop k new) marked_past ∙ marked_behind (past s at) (omega arith)

  -- the clause at the place is gone, all others stay
  marked_rest : deleted_at s at ≡ false → stored (drop at (marked s at)) ≡ stored (drop (past s at) s)
  marked_rest e = rest_deleted new at inside (gone e) ∙ ap stored behind

  pub marked_prefix : Place s at → deleted_at s at ≡ false → stored (take (past s at) (marked s at)) ≡ stored (take at s)
  marked_prefix p e = ap (λ (k : ℕ). stored (take k new)) (sym marked_past) ∙ prefix_deleted new at inside (marked_place p) (gone e) ∙ ap stored marked_before

  pub marked_stored : Place s at → deleted_at s at ≡ false → stored (marked s at) ≡ stored (take at s) ++ stored (drop (past s at) s)
  marked_stored p e = stored_split (marked_place p) ∙ ap₂ (λ (a b : Formula). a ++ b) (ap stored marked_before) (marked_rest e)

-- ---- a clause's entry

pub entry_formed : (c : Clause) → length c ≤ largest → Formed (entry c)
entry_formed c h = one_formed (header_of (length c)) c (sym (literals_header (length c) (omega arith)))

pub entry_stored : (c : Clause) → length c ≤ largest → stored (entry c) ≡ c ∷ []
entry_stored c h = one_stored (header_of (length c)) c (sym (literals_header (length c) (omega arith)))

-- a clause added at the end
pub added_formed : (s : List ℤ) (c : Clause) → Formed s → length c ≤ largest → Formed (s ++ entry c)
added_formed s c f h = formed-++ s (entry c) f (entry_formed c h)

pub added_stored : (s : List ℤ) (c : Clause) → Formed s → length c ≤ largest → stored (s ++ entry c) ≡ stored s ++ (c ∷ [])
added_stored s c f h = stored-++ s (entry c) f ∙ ap (λ (r : Formula). stored s ++ r) (entry_stored c h)

-- the entry of c at a place: its header, the clause's part, the place past it
module _ (s : List ℤ) (at : ℕ) (c : Clause) (h : length c ≤ largest) (b : List ℤ) (e : drop at s ≡ entry c ++ b) where
  within : at < length s
  within = omega (arith, length-drop at s, simp length-append at (ap length e))

  heads : header_at s at ∷ drop (at + 1) s ≡ entry c ++ b
  heads = sym (drop_step s at (pos 0) within) ∙ e

  pub entry_header : header_at s at ≡ header_of (length c)
  entry_header = cc heads

  pub entry_size : size_at s at ≡ length c
  entry_size = ap header_literals entry_header ∙ literals_header (length c) (omega arith)

  pub entry_clause : clause_at s at ≡ c
  entry_clause = let t : drop (at + 1) s ≡ c ++ b = cc heads in ap₂ (λ (k : ℕ) (r : List ℤ). take k r) entry_size t ∙ take_at c b (length c) refl

-- ---- what append_clause answers

-- the clause stands behind what was filled up to `end`; all else is as it was
pub record Appended (old : List ℤ) (end : ℕ) (c : Clause) (r : ℕ) (new : List ℤ) : Type 0 where
  pub next : r ≡ end + (length c + 1)
  pub within : r ≤ length new
  pub small : length c ≤ largest
  pub filled : take r new ≡ take end old ++ entry c
  pub before : take end new ≡ take end old
  pub behind : drop r new ≡ drop r old
  pub formed : Formed (take end old) → Formed (take r new)
  pub standing : Formed (take end old) → stored (take r new) ≡ stored (take end old) ++ (c ∷ [])

fits_both : (size end : ℕ) (c : Clause) → fits_in size end c ≡ true → (length c ≤ largest) × (length c + 1 ≤ size - end)
fits_both size end c e = go (leb (length c) largest) refl e
  where
    go : (t : Bool) → leb (length c) largest ≡ t → (t && leb (length c + 1) (size - end)) ≡ true → (length c ≤ largest) × (length c + 1 ≤ size - end)
    go true m x = (leb-true (length c) largest m, leb-true (length c + 1) (size - end) x)
    go false m x = differ {b = true} tt (sym x)

pub appended : (old new : List ℤ) (end r : ℕ) (c : Clause) → end ≤ length old → end_after (length old) end c ≡ Some r → new ≡ with_entry old end c → Appended old end c r new
appended old new end r c h e w = go (fits_in (length old) end c) refl e w
  where
    write : length c ≤ largest → length c + 1 ≤ length old - end → r ≡ end + length (entry c) → new ≡ sets old end (entry c) → Appended old end c r new
    write a b i n =
        let f : take r new ≡ take end old ++ entry c = rw (i, n) (taken_sets (entry c) old end (omega arith)) in
        record {
          next = omega arith;
          within = rw (n, length-sets old end (entry c)) (omega arith);
          small = a;
          filled = f;
          before = rw n (sets_before (entry c) old end end (omega arith));
          behind = rw n (sets_after (entry c) old end r (omega arith));
          formed = λ g. rw f (added_formed (take end old) c g a);
          standing = λ g. ap stored f ∙ added_stored (take end old) c g a;
        }

    go : (t : Bool) → fits_in (length old) end c ≡ t → cond t (Some (end + (length c + 1))) None ≡ Some r → new ≡ cond t (sets old end (entry c)) old → Appended old end c r new
    go true m x n =
        let i : end + (length c + 1) ≡ r = cc in
        let k = fits_both (length old) end c m in
        write k.0 k.1 (omega arith) n
    go false m x n = absurd (let z : ◌≡◌ {A = ℕ} 0 1 = cc in omega arith)

-- there is room
pub fits_within : (size end : ℕ) (c : Clause) → length c ≤ largest → end + (length c + 1) ≤ size → fits_in size end c ≡ true
fits_within size end c a b = rw (le-leb (length c) largest a, le-leb (length c + 1) (size - end) (omega arith)) refl

-- ---- a store has room for what stands in it

-- no more clauses stand than the store has elements
few_from : (k : ℕ) (s : List ℤ) → length (stored_from k s) ≤ length s
unfolding stored_from
few_from k [] = omega arith
few_from zero (h ∷ s) = go (negative h) (few_from (header_literals h) s)
  where
    go : (b : Bool) → length (stored_from (header_literals h) s) ≤ length s → length (cond b (stored_from (header_literals h) s) (take (header_literals h) s ∷ stored_from (header_literals h) s)) ≤ length (h ∷ s)
    go true e = omega arith
    go false e = omega arith
few_from (suc k) (x ∷ s) = omega (arith, few_from k s)

pub few_stored : (s : List ℤ) → length (stored s) ≤ length s
few_stored s = few_from 0 s

-- the part of a clause lies inside the store
pub part_within : (s : List ℤ) (at : ℕ) → at < length s → Formed (drop at s) → at + 1 + size_at s at ≤ length s
part_within s at h f = omega (arith, (formed_next s at h f).0)

-- the clause at a place as a part of the store
pub part_there : (s : List ℤ) (at next : ℕ) → next ≡ past s at → take (next - (at + 1)) (drop (at + 1) s) ≡ clause_at s at
part_there s at next e = let k : next - (at + 1) ≡ size_at s at = omega arith in ap (λ (n : ℕ). take n (drop (at + 1) s)) k

-- ---- the first elements of a slice as a store: places and clauses inside are those of the slice

pub place_prefix : {s : List ℤ} {end at : ℕ} → Place s end → Place s at → at ≤ end → Place (take end s) at
place_prefix {s} {end} {at} e p h = place_within e.before (omega (arith, length-take-le end s e.inside)) (rw (take-take at end s h) p.before)

module _ (s : List ℤ) (end at : ℕ) (h : at < end) (l : end ≤ length s) where
  pub prefix_header : header_at (take end s) at ≡ header_at s at
  prefix_header = get_or-take end s at (pos 0) h

  pub prefix_clause : past s at ≤ end → clause_at (take end s) at ≡ clause_at s at
  prefix_clause b =
      let n : length (take end s) ≡ end = length-take-le end s l in
      let d : drop (at + 1) s ≡ drop (at + 1) (take end s) ++ drop end s = ap (drop (at + 1)) (sym (take-append-drop end s)) ∙ drop-append-le (at + 1) (take end s) (drop end s) (omega arith) in
      ap (λ (k : ℕ). take k (drop (at + 1) (take end s))) (ap header_literals prefix_header)
      ∙ sym (ap (take (size_at s at)) d ∙ take-append-le (size_at s at) (drop (at + 1) (take end s)) (drop end s) (omega (arith, length-drop (at + 1) (take end s))))

-- a clause inside what two slices share is the same in both
pub kept_clause : (s t : List ℤ) (end at : ℕ) → take end s ≡ take end t → end ≤ length s → end ≤ length t → at < end → past s at ≤ end → clause_at t at ≡ clause_at s at
kept_clause s t end at e a b h p =
    let d : header_at t at ≡ header_at s at = sym (prefix_header t end at h b) ∙ ap (λ (r : List ℤ). header_at r at) (sym e) ∙ prefix_header s end at h a in
    let m : past t at ≡ past s at = ap (λ (x : ℤ). at + (1 + header_literals x)) d in
    sym (prefix_clause t end at h b (omega arith)) ∙ ap (λ (r : List ℤ). clause_at r at) (sym e) ∙ prefix_clause s end at h a p

-- an entry ends where a later one begins, or before
pub past_within : {s : List ℤ} {x y : ℕ} → Place s x → Place s y → x < y → past s x ≤ y
past_within {s} {x} {y} p q h =
    let n : length (take y s) ≡ y = length-take-le y s q.inside in
    let r = (formed_next (take y s) x (omega arith) (place_prefix q p (omega arith)).rest).0 in
    omega (arith, r, n, ap header_literals (prefix_header s y x h q.inside))

-- ---- the entries one by one

-- what holds at the start and passes from each entry to the next holds at every place
pub by_entries : (s : List ℤ) (P : ℕ → Type 0) → P 0 → ((at : ℕ) → at < length s → Place s at → P at → P (past s at)) → (q : ℕ) → Place s q → P q
by_entries s P start step q e = go q 0 (place_start (place_formed e)) (omega arith) (omega arith) start
  where
    go : (n at : ℕ) → Place s at → at ≤ q → q ≤ at + n → P at → P q
    go zero at p l m x = let z : at ≡ q = omega arith in subst P z x
    go (suc n) at p l m x =
        by_order at q l (λ z. subst P z x)
        (λ h. let i : at < length s = omega (arith, e.inside) in
        go n (past s at) (place_next s at i p) (past_within p e h) (omega arith) (step at i p x))
