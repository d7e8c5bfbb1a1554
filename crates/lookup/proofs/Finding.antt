-- A literal's clauses read from the last one to the first: one that stands, and the first with some literals. What is known of those that are read is carried along (`Searched`).
use mathlib.Core.Path.{◌≡◌, refl, sym, ap, subst, ◌∙◌}
use mathlib.Core.Bool.{Bool, true, false, cond}
use mathlib.Core.List.Memᴰ
use mathlib.Core.List.Memᴰ.{head as here}
use mathlib.Core.List.Memᴰ.{tail as there}
use mathlib.Core.List.{List, [], ◌∷◌, ◌++◌, Memᴰ}
use mathlib.Core.Logic.{◌⊎◌, inl, inr, ⊎_elim}
use Prim.Native.Nat.{ℕ, ◌+◌, ◌≤◌, ◌<◌}
use native.Mathlib.Omega.{arith}
use Rattle.std.specs.Prelude.{Option, Some, None}
use lib.IntN.{ℤ}
use lib.ListN.{length, take, drop, length-set}
use lib.Seq.{take-length}
use Rattle.definition.specs.Lists.{bit, count}
use Rattle.definition.specs.Literals.{Clause, Formula, holds}
use Rattle.definition.specs.Clearing.{times}
use Rattle.theory_base.proofs.Tests.{by_test, of_true}
use Rattle.theory_base.proofs.Loops.{count-++}
use Rattle.theory_base.proofs.Members.{holds_mem, same_set_same}
use Rattle.literals.specs.Literal.{flip, index_of}
use Rattle.tables.specs.Sizes.{log_size}
use Rattle.tables.specs.Entries.{entry_of}
use Rattle.store.specs.Store.{Formed, stored_from, stored, header_at, deleted_at, clause_at, past, marked, Place, begins_with, place_of, Deleted}
use Rattle.store.proofs.Laws.{by_entries, place_end, prefix_deleted, prefix_stands}
use Rattle.store.proofs.Finding.{first_match, no_match, matches_deleted, matches_stands, hit, deleted_hit, deleted_miss}
use Rattle.index.specs.Index.{Indexed, entered, node_place, older_node}
use Rattle.index.specs.Reading.{Reading, EntryWith, FoundWith}
use Rattle.index.proofs.Laws.{indexed_inside, indexed_length, indexed_marked, marked_take, reading_done, reading_more, Reads}
use Rattle.index.proofs.Walk.{entered_complete, entered_behind}
use Rattle.lookup.specs.Lookup.{DeletedBy}
use Rattle.lookup.specs.Cursors.{shown_place, Readable, Moved, LastBefore}
use Rattle.lookup.proofs.Cursors.{led_start, cursor_last}

-- ---- a clause that stands

times_next : (l : ℤ) (f : Formula) (c : Clause) → times l (f ++ (c ∷ [])) ≡ times l f + bit (holds l c)
unfolding times count
times_next l f c = omega (arith, count-++ (holds l) f (c ∷ []))

nothing_stands : (l : ℤ) → times l (stored []) ≡ 0
unfolding times count stored_from
nothing_stands l = refl

-- a literal that stands does so somewhere
standing_with : (l : ℤ) (s : List ℤ) → Formed s → 1 ≤ times l (stored s) → (p : ℕ) × FoundWith l s p
standing_with l s f h =
    by_entries s (λ (at : ℕ). 1 ≤ times l (stored (take at s)) → (p : ℕ) × FoundWith l s p) (λ t. absurd (omega (arith, nothing_stands l))) step (length s) (place_end f) (rw (take-length s) h)
  where
    step : (at : ℕ) → at < length s → Place s at → (1 ≤ times l (stored (take at s)) → (p : ℕ) × FoundWith l s p) → 1 ≤ times l (stored (take (past s at) s)) → (p : ℕ) × FoundWith l s p
    step at i e r t =
        by_test (deleted_at s at) (λ d. r (rw (prefix_deleted s at i e d) at t))
        (λ d. by_test (holds l (clause_at s at))
        (λ m. (at, record { standing = record { inside = i; place = e; stands = d }; with_literal = holds_mem l (clause_at s at) (of_true m) }))
        (λ m. r (omega (arith, ap (times l) (prefix_stands s at i e d), times_next l (stored (take at s)) (clause_at s at), ap bit m))))

-- by the last node whose clause stands: the cursor of l, before the store's end
module _ {work : List ℤ} {end : ℕ} {newest : List ℕ} (i : Indexed work end newest) (l : ℤ) (h : index_of l < log_size) {t : ℕ} (e : t ≡ entry_of newest l) where
  pub last_readable : Readable work t
  last_readable = rw e (record { end = end; literal = l; led = led_start l 0 i h })

  module _ {r : ℕ} (m : Moved work t end r) where
    last_cursor : LastBefore work end l end r
    last_cursor = m.moves end l (rw e (led_start l end i h))

    pub last_found : 0 < r → {p : ℕ} → p ≡ node_place work r → FoundWith l (take end work) p
    last_found b f = rw f (last_cursor.found b).1

    pub none_stands : r ≡ 0 → {P : Type 0} → 1 ≤ times l (stored (take end work)) → P
    none_stands z s =
        let f = standing_with l (take end work) i.formed s in
        absurd (omega (arith, cursor_last last_cursor f.0 (omega (arith, f.1.standing.inside, indexed_length i)) f.1, ap (shown_place work) z))

-- ---- the first clause with the literals of c: of those with its first literal, the last that is read

-- those that are read have no match before the best one
abbrev Best : Clause → List ℤ → ℤ → List ℕ → Option ℕ → Type 0
Best c s l left None = (p : ℕ) → Memᴰ p (entered l s) → begins_with c (drop p s) ≡ true → Memᴰ p left
Best c s l left (Some b) =
    (b < length s) × Place s b × (begins_with c (drop b s) ≡ true) × ((p : ℕ) → Memᴰ p left → p ≤ b)
    × ((p : ℕ) → Memᴰ p (entered l s) → begins_with c (drop p s) ≡ true → Memᴰ p left ⊎ (b ≤ p))

pub record Searched (c : Clause) (work : List ℤ) (end : ℕ) (newest : List ℕ) (l : ℤ) (t : ℕ) (best : Option ℕ) : Type 0 where
  pub left : List ℕ
  pub reading : Reading work end newest l t left
  pub found : Best c (take end work) l left best

-- a match holds each literal of c
match_with : (c : Clause) (l : ℤ) (s : List ℤ) (p : ℕ) → Memᴰ l c → p < length s → Place s p → begins_with c (drop p s) ≡ true → EntryWith l s p
match_with c l s p i h e b =
    by_test (deleted_at s p) (λ d. absurd (let z : ◌≡◌ {A = ℕ} 0 1 = cc (matches_deleted s p h c d ∙ b) in omega arith))
    (λ d. record { inside = h; place = e; with_literal = (same_set_same c (clause_at s p) (of_true (matches_stands s p h c d ∙ b))).0 l i })

module _ (c : Clause) (s : List ℤ) (l : ℤ) (a : ℕ) (rest : List ℕ) (falls : (p : ℕ) → Memᴰ p rest → p ≤ a) (e : EntryWith l s a) where
  -- the place a is read
  best_next : (best : Option ℕ) → Best c s l (a ∷ rest) best → (b : Bool) → begins_with c (drop a s) ≡ b → Best c s l rest (cond b (Some a) best)
  best_next None f true m = (e.inside, e.place, m, falls, λ p j n. first p (f p j n))
    where
      first : (p : ℕ) → Memᴰ p (a ∷ rest) → Memᴰ p rest ⊎ (a ≤ p)
      first p (here z) = inr (omega arith)
      first p (there j) = inl j
  best_next (Some b) f true m = (e.inside, e.place, m, falls, λ p j n. ⊎_elim (first p) (λ h. inr (omega (arith, f.3 a (here refl)))) (f.4 p j n))
    where
      first : (p : ℕ) → Memᴰ p (a ∷ rest) → Memᴰ p rest ⊎ (a ≤ p)
      first p (here z) = inr (omega arith)
      first p (there j) = inl j
  best_next None f false m = λ p j n. other p n (f p j n)
    where
      other : (p : ℕ) → begins_with c (drop p s) ≡ true → Memᴰ p (a ∷ rest) → Memᴰ p rest
      other p n (here z) = absurd (let y : ◌≡◌ {A = ℕ} 0 1 = cc (sym n ∙ ap (λ (q : ℕ). begins_with c (drop q s)) z ∙ m) in omega arith)
      other p n (there j) = j
  best_next (Some b) f false m = (f.0, f.1, f.2, λ p j. f.3 p (there j), λ p j n. ⊎_elim (λ k. inl (other p n k)) inr (f.4 p j n))
    where
      other : (p : ℕ) → begins_with c (drop p s) ≡ true → Memᴰ p (a ∷ rest) → Memᴰ p rest
      other p n (here z) = absurd (let y : ◌≡◌ {A = ℕ} 0 1 = cc (sym n ∙ ap (λ (q : ℕ). begins_with c (drop q s)) z ∙ m) in omega arith)
      other p n (there j) = j

best_is : (c : Clause) (s : List ℤ) (l : ℤ) → Formed s → Memᴰ l c → (best : Option ℕ) → Best c s l [] best → best ≡ place_of c s
best_is c s l f i None g =
    sym (no_match c s f (λ q h e. by_test (begins_with c (drop q s)) (λ b. absurd (Memᴰ.not-nil (g q (entered_complete (match_with c l s q i h e b)) b))) (λ b. b)))
best_is c s l f i (Some b) g =
    sym (first_match c s f b g.1 g.0 g.2 (λ q h e. by_test (begins_with c (drop q s)) (λ m. earlier q h (g.4 q (entered_complete (match_with c l s q i (omega (arith, g.0)) e m)) m)) (λ m. m)))
  where
    earlier : (q : ℕ) → q < b → Memᴰ q [] ⊎ (b ≤ q) → begins_with c (drop q s) ≡ false
    earlier q h (inl j) = absurd (Memᴰ.not-nil j)
    earlier q h (inr k) = absurd (omega arith)

module _ {work : List ℤ} {end : ℕ} {newest : List ℕ} (i : Indexed work end newest) (c : Clause) (l : ℤ) {t : ℕ} {best : Option ℕ} (w : Searched c work end newest l t best) where
  pub searched_more : 0 < t → Reads work end newest l t w.left
  searched_more h = reading_more i w.reading h

  pub searched_on : 0 < t → {u a : ℕ} {new : Option ℕ} → u ≡ older_node work t → a ≡ node_place work t → new ≡ cond (begins_with c (drop a (take end work))) (Some a) best → Searched c work end newest l u new
  searched_on h {u} {a} {new} e f g =
      let m = searched_more h in
      let s = take end work in
      let n = node_place work t in
      let z : entered l s ≡ w.reading.read ++ (n ∷ m.rest) = w.reading.split ∙ ap (λ (ps : List ℕ). w.reading.read ++ ps) m.begins in
      let b : Best c s l m.rest (cond (begins_with c (drop n s)) (Some n) best) =
      best_next c s l n m.rest (entered_behind l s i.formed w.reading.read m.rest n z) m.entry best
      (subst (λ (ps : List ℕ). Best c s l ps best) m.begins w.found) (begins_with c (drop n s)) refl in
      rw (e, g, f) (record { left = m.rest; reading = m.reading; found = b })

  pub searched_all : Memᴰ l c → t ≡ 0 → best ≡ place_of c (take end work)
  searched_all j z = best_is c (take end work) l i.formed j best (subst (λ (ps : List ℕ). Best c (take end work) l ps best) (reading_done w.reading z) w.found)

-- ---- it is deleted

module _ {work : List ℤ} {end : ℕ} {newest : List ℕ} (i : Indexed work end newest) (c : Clause) where
  pub found_inside : {p : ℕ} → place_of c (take end work) ≡ Some p → p < length work
  found_inside {p} e = omega (arith, (hit c (take end work) p e).inside, indexed_length i, indexed_inside i)

  pub deleted_found : {p : ℕ} {new : List ℤ} → place_of c (take end work) ≡ Some p → new ≡ marked work p → DeletedBy c work end newest new
  deleted_found {p} {new} e f =
      let r = hit c (take end work) p e in
      let h : p < end = omega (arith, r.inside, indexed_length i) in
      let a = r.place i.formed in
      let d = deleted_hit c (take end work) (take end (marked work p)) p i.formed e (marked_take i a h) in
      rw f (record { size = length-set work p (flip (header_at work p)); deleted = subst (λ (b : Bool). Deleted c (take end work) b (take end (marked work p))) d.found d; indexed = indexed_marked i a h })

  pub deleted_none : place_of c (take end work) ≡ None → DeletedBy c work end newest work
  deleted_none e =
      let d = deleted_miss c (take end work) i.formed e in
      record { size = refl; deleted = subst (λ (b : Bool). Deleted c (take end work) b (take end work)) d.found d; indexed = i }
