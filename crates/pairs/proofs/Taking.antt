-- The pairs taken out one at a time, in any order: what is no pair stays, what is counted and what stands are together what stood, and a place once read has no pair any more. At the end each place was read, since a pair holds the negation of a literal of the choice. Assumes nothing.
use mathlib.Core.Path.{◌≡◌, refl, sym, ap, ap₂, subst, ◌∙◌}
use mathlib.Core.Logic.{◌≢◌, ◌⊎◌, inl, inr, ⊎_elim}
use mathlib.Core.Bool.{Bool, true, false, cond}
use mathlib.Core.List.Memᴰ.{head as here}
use mathlib.Core.List.Memᴰ.{tail as there}
use mathlib.Core.List.{List, [], ◌∷◌, ◌++◌, Memᴰ}
use Prim.Native.Nat.{ℕ, ◌+◌, ◌≤◌, ◌<◌, ◌^◌, min}
use native.Mathlib.Omega.{arith}
use lib.Dec.{eqb, ltb, leb}
use lib.IntN.{ℤ, pos, neg_ℤ, nat_abs}
use lib.ListN.{length, get_or, take, drop, length-set, replicate, length-replicate}
use lib.Seq.{get_or-set_same, get_or-set_other, take-length}
use borrow.Author.Tests.{ltb-true, ltb-false, lt-ltb, le-ltb, eqb-true, eqb-false, le-leb, lt-leb, leb-true, ne_eqb}
use Rattle.definition.specs.Lists.{bit, count, those}
use Rattle.definition.specs.Literals.{Clause, Formula}
use Rattle.theory_base.proofs.Tests.{by_test}
use Rattle.theory_base.proofs.Loops.{count-++, count_within, getD_mem}
use Rattle.theory_base.proofs.Slices.{getD_zeros}
use Rattle.theory_base.proofs.Members.{those-++, natAbs_neg}
use Rattle.theory_base.specs.Clauses.{FitAll}
use Rattle.literals.specs.Literal.{header_literals, flip, negative, negation}
use Rattle.literals.proofs.Laws.{flip_negative, negation_small}
use Rattle.tables.specs.Sizes.{input_reach, log_reach}
use Rattle.tables.specs.Entries.{most, counted_at}
use Rattle.tables.specs.Places.{Places}
use Rattle.store.specs.Store.{Formed, stored, deleted_at, clause_at, header_at, past, marked, Place}
use Rattle.store.proofs.Laws.{by_entries, place_end, stored_none, stored_around, prefix_deleted, prefix_stands, marked_before, marked_behind, marked_stored, past_within, kept_clause, few_stored}
use Rattle.std.specs.Prelude.{Some, None}
use Rattle.index.specs.Index.{node_place, older_node, entered, Indexed, SameEntries}
use Rattle.index.specs.Reading.{Reading, EntryWith}
use Rattle.index.proofs.Walk.{same_refl, same_trans, marked_same, entered_sound, entered_complete}
use Rattle.index.proofs.Laws.{part_store, part_size, indexed_part, reading_done, Reads, reading_more, reading_part}
use Rattle.pairs.specs.Pairs.{literal_at, slots, slot_of, as_slot, slot_at, PairStep, no_pair, in_slot, Countable, PairsLess, NoPairWith, PairsTaken}
use Rattle.pairs.proofs.Slots.{Slotted, slotted}

-- ---- the clause at a place, by what the functions answer

-- what a slot as an answer tells
slot_told : (n : ℕ) {m : ℕ} → Some m ≡ as_slot n → (n < slots) × (n ≡ m)
slot_told n {m} e = go (ltb n slots) refl e
  where
    go : (b : Bool) → ltb n slots ≡ b → Some m ≡ cond b (Some n) None → (n < slots) × (n ≡ m)
    go true f e = (ltb-true n slots f, cc)
    go false f e = cc

module _ (t : List ℕ) (s : List ℤ) (at : ℕ) (counts : List ℕ) (d : deleted_at s at ≡ false) {c : Clause} (e : c ≡ clause_at s at) {m : ℕ} (f : Some m ≡ as_slot (slot_of t c)) where
  its_slot : slot_at t s at ≡ m
  its_slot = rw d (ap (slot_of t) (sym e) ∙ (slot_told (slot_of t c) f).1)

  pub step_pair : {new : List ℤ} {new_counts : List ℕ} → new ≡ marked s at → new_counts ≡ counted_at counts m → PairStep t s at counts new new_counts
  step_pair a b =
      let h : m < slots = omega (arith, slot_told (slot_of t c) f) in record {
        store = a ∙ sym (ap (λ (k : ℕ). cond (ltb k slots) (marked s at) s) its_slot ∙ rw (lt-ltb m slots h) refl);
        counted = b ∙ sym (ap (λ (k : ℕ). cond (ltb k slots) (counted_at counts k) counts) its_slot ∙ rw (lt-ltb m slots h) refl);
      }

module _ (t : List ℕ) (s : List ℤ) (at : ℕ) (counts : List ℕ) (d : deleted_at s at ≡ false) {c : Clause} (e : c ≡ clause_at s at) (f : None ≡ as_slot (slot_of t c)) where
  no_slot : (slot_at t s at ≡ slot_of t c) × (slots ≤ slot_of t c)
  no_slot = (rw d (ap (slot_of t) (sym e)), go (ltb (slot_of t c) slots) refl f)
    where
      go : (b : Bool) → ltb (slot_of t c) slots ≡ b → None ≡ cond b (Some (slot_of t c)) None → slots ≤ slot_of t c
      go true g e = cc
      go false g e = ltb-false (slot_of t c) slots g

  pub step_other : PairStep t s at counts s counts
  step_other = record {
    store = sym (ap (λ (k : ℕ). cond (ltb k slots) (marked s at) s) no_slot.0 ∙ rw (le-ltb (slot_of t c) slots no_slot.1) refl);
    counted = sym (ap (λ (k : ℕ). cond (ltb k slots) (counted_at counts k) counts) no_slot.0 ∙ rw (le-ltb (slot_of t c) slots no_slot.1) refl);
  }

-- ---- a clause taken out of the middle

those_out : (t : List ℕ) (a b : Formula) (d : Clause) → slot_of t d < slots → those (no_pair t) (a ++ d ∷ b) ≡ those (no_pair t) (a ++ b)
unfolding those
those_out t a b d h = those-++ (no_pair t) a (d ∷ b) ∙ rw (lt-leb slots (slot_of t d) h) (sym (those-++ (no_pair t) a b))

count_out : (t : List ℕ) (n : ℕ) (a b : Formula) (d : Clause) → count (in_slot t n) (a ++ d ∷ b) ≡ bit (in_slot t n d) + count (in_slot t n) (a ++ b)
unfolding count
count_out t n a b d = omega (arith, count-++ (in_slot t n) a (d ∷ b), count-++ (in_slot t n) a b)

-- ---- places after a clause is marked

module _ (s : List ℤ) (at : ℕ) (h : at < length s) where
  abbrev new : List ℤ
  new = marked s at

  slot_there : (t : List ℕ) → deleted_at s at ≡ false → slots ≤ slot_at t new at
  slot_there t e = let d : deleted_at new at ≡ true = ap negative (get_or-set_same s at (flip (header_at s at)) (pos 0) h) ∙ flip_negative (header_at s at) ∙ rw e refl in rw d (omega arith)

  module _ (p : Place s at) (q : ℕ) (r : Place s q) (n : q ≢ at) where
    header_other : header_at new q ≡ header_at s q
    header_other = get_or-set_other s at q (flip (header_at s at)) (pos 0) n

    clause_other : clause_at new q ≡ clause_at s q
    clause_other = by_test (ltb q at)
        (λ e. let b = ltb-true q at e in kept_clause s new at q (sym (marked_before s at h)) (omega arith) (omega (arith, length-set s at (flip (header_at s at)))) b (past_within r p b))
        (λ e. ap₂ (λ (k : ℕ) (z : List ℤ). take k z) (ap header_literals header_other) (marked_behind s at h (q + 1) (behind (ltb-false q at e))))
      where
        behind : at ≤ q → at < q + 1
        behind b = omega arith

    slot_other : (t : List ℕ) → slot_at t new q ≡ slot_at t s q
    slot_other t = ap₂ (λ (x : ℤ) (d : Clause). cond (negative x) slots (slot_of t d)) header_other clause_other

-- ---- some pairs less

pub less_none : (t : List ℕ) (s : List ℤ) (counts : List ℕ) → PairsLess t s counts s counts
less_none t s counts = record { entries = same_refl s; size = refl; others = refl; counted = λ n b. refl; none = λ l at w k. k }

module _ (t : List ℕ) (s : List ℤ) (at : ℕ) (counts : List ℕ) (few : Countable t (stored s) counts) (h : at < length s) (p : Place s at) where
  module _ (e : deleted_at s at ≡ false) (k : slot_of t (clause_at s at) < slots) where
    abbrev m : ℕ
    m = slot_of t (clause_at s at)

    -- the count of each slot before, by that after
    before : (n : ℕ) → count (in_slot t n) (stored s) ≡ bit (in_slot t n (clause_at s at)) + count (in_slot t n) (stored (marked s at))
    before n =
        ap (count (in_slot t n)) (stored_around s at h p e) ∙ count_out t n (stored (take at s)) (stored (drop (past s at) s)) (clause_at s at)
        ∙ ap (λ (F : Formula). bit (in_slot t n (clause_at s at)) + count (in_slot t n) F) (sym (marked_stored s at h p e))

    counted_then : (n : ℕ) → n < slots → get_or (counted_at counts m) n 0 + count (in_slot t n) (stored (marked s at)) ≡ get_or counts n 0 + count (in_slot t n) (stored s)
    counted_then n b = by_test (eqb m n) (λ q. same q (eqb-true m n q)) (λ q. other q (eqb-false m n q))
      where
        same : eqb m n ≡ true → m ≡ n → get_or (counted_at counts m) n 0 + count (in_slot t n) (stored (marked s at)) ≡ get_or counts n 0 + count (in_slot t n) (stored s)
        same f q =
            let x : get_or (counted_at counts m) m 0 ≡ min (get_or counts m 0 + 1) most = get_or-set_same counts m (min (get_or counts m 0 + 1) most) 0 (omega (arith, few.size)) in
            let y : get_or (counted_at counts m) n 0 ≡ min (get_or counts n 0 + 1) most = subst (λ (i : ℕ). get_or (counted_at counts m) i 0 ≡ min (get_or counts i 0 + 1) most) q x in
            omega (arith, y, before n, ap bit f, few.few n b)

        other : eqb m n ≡ false → m ≢ n → get_or (counted_at counts m) n 0 + count (in_slot t n) (stored (marked s at)) ≡ get_or counts n 0 + count (in_slot t n) (stored s)
        other f q = omega (arith, get_or-set_other counts m n (min (get_or counts m 0 + 1) most) 0 (λ i. q (sym i)), before n, ap bit f)

    less_marked : PairsLess t s counts (marked s at) (counted_at counts m)
    less_marked = record {
      entries = marked_same p h;
      size = length-set counts m (min (get_or counts m 0 + 1) most);
      others =
          ap (those (no_pair t)) (marked_stored s at h p e)
          ∙ sym (ap (those (no_pair t)) (stored_around s at h p e) ∙ those_out t (stored (take at s)) (stored (drop (past s at) s)) (clause_at s at) k);
      counted = counted_then;
      none = λ l q w b. by_test (eqb q at) (λ i. rw (eqb-true q at i) (slot_there s at h t e)) (λ i. rw (slot_other s at h p q w.place (eqb-false q at i) t) b);
    }

  -- what take_pair leaves: some pairs less, and none at the place
  pub step_less : {new : List ℤ} {new_counts : List ℕ} → PairStep t s at counts new new_counts → PairsLess t s counts new new_counts × (slots ≤ slot_at t new at)
  step_less {new} {new_counts} w = by_test (deleted_at s at) deleted standing
    where
      same : slots ≤ slot_at t s at → new ≡ s → new_counts ≡ counts → PairsLess t s counts new new_counts × (slots ≤ slot_at t new at)
      same b x y = rw (x, y) (less_none t s counts, b)

      deleted : deleted_at s at ≡ true → PairsLess t s counts new new_counts × (slots ≤ slot_at t new at)
      deleted e = same (rw e (omega arith)) (w.store ∙ rw e refl) (w.counted ∙ rw e refl)

      standing : deleted_at s at ≡ false → PairsLess t s counts new new_counts × (slots ≤ slot_at t new at)
      standing e = by_test (ltb (slot_of t (clause_at s at)) slots) pair other
        where
          pair : ltb (slot_of t (clause_at s at)) slots ≡ true → PairsLess t s counts new new_counts × (slots ≤ slot_at t new at)
          pair f =
              let x : new ≡ marked s at = w.store ∙ rw (e, f) refl in
              let y : new_counts ≡ counted_at counts (slot_of t (clause_at s at)) = w.counted ∙ rw (e, f) refl in
              rw (x, y) (less_marked e (ltb-true (slot_of t (clause_at s at)) slots f), slot_there s at h t e)

          other : ltb (slot_of t (clause_at s at)) slots ≡ false → PairsLess t s counts new new_counts × (slots ≤ slot_at t new at)
          other f = same (rw e (ltb-false (slot_of t (clause_at s at)) slots f)) (w.store ∙ rw (e, f) refl) (w.counted ∙ rw (e, f) refl)

-- an entry stays one, with its literals
entry_back : {l : ℤ} {s u : List ℤ} {at : ℕ} → SameEntries s u → Formed s → EntryWith l u at → EntryWith l s at
entry_back {l} {at = at} e f w = entered_sound f (subst (λ (ps : List ℕ). Memᴰ at ps) (e.places l) (entered_complete w))

entry_kept : {l : ℤ} {s u : List ℤ} {at : ℕ} → SameEntries s u → Formed s → EntryWith l s at → EntryWith l u at
entry_kept {l} {at = at} e f w = entered_sound (e.formed f) (subst (λ (ps : List ℕ). Memᴰ at ps) (sym (e.places l)) (entered_complete w))

module _ {t : List ℕ} {s u : List ℤ} {x y : List ℕ} (f : Formed s) (a : PairsLess t s x u y) where
  pub countable_then : Countable t (stored s) x → Countable t (stored u) y
  countable_then c = record { size = a.size ∙ c.size; few = λ n b. omega (arith, a.counted n b, c.few n b) }

  pub none_then : (l : ℤ) → NoPairWith l t s → NoPairWith l t u
  none_then l g at w = let o = entry_back a.entries f w in a.none l at o (g at o)

  pub less_then : {v : List ℤ} {z : List ℕ} → PairsLess t u y v z → PairsLess t s x v z
  less_then b = record {
    entries = same_trans a.entries b.entries;
    size = b.size ∙ a.size;
    others = b.others ∙ a.others;
    counted = λ n h. b.counted n h ∙ a.counted n h;
    none = λ l at w k. b.none l at (entry_kept a.entries f w) (a.none l at w k);
  }

-- ---- the clauses that hold a literal, read from the last one to the first

-- at the node: what it holds is left to be read, and elsewhere no pair stands
pub record ReadingPairs (l : ℤ) (t : List ℕ) (end : ℕ) (newest : List ℕ) (old : List ℤ) (old_counts : List ℕ) (work : List ℤ) (counts : List ℕ) (node : ℕ) : Type 0 where
  pub size : length work ≡ length old
  pub indexed : Indexed work end newest
  pub less : PairsLess t (take end old) old_counts (take end work) counts
  pub left : List ℕ
  pub reading : Reading work end newest l node left
  pub none : (at : ℕ) → Memᴰ at (entered l (take end work)) → (slots ≤ slot_at t (take end work) at) ⊎ Memᴰ at left

module _ {l : ℤ} {t : List ℕ} {end : ℕ} {newest : List ℕ} {old : List ℤ} {x : List ℕ} where
  module _ {work : List ℤ} {y : List ℕ} {node : ℕ} (i : Indexed old end newest) (c : Countable t (stored (take end old)) x) (r : ReadingPairs l t end newest old x work y node) where
    pub pairs_reads : 0 < node → Reads work end newest l node r.left
    pairs_reads h = reading_more r.indexed r.reading h

    pub pairs_next : 0 < node → {at before : ℕ} → at ≡ node_place work node → before ≡ older_node work node → {part : List ℤ} {z : List ℕ} → PairStep t (take end work) at y part z
        → ReadingPairs l t end newest old x (part ++ drop end work) z before
    pairs_next h {at} {before} e b {part} {z} w =
        let m = pairs_reads h in
        let k = step_less t (take end work) at y (countable_then i.formed r.less c) (rw e m.entry.inside) (rw e m.entry.place) w in
        let d = part_store r.indexed k.0.entries in
        record {
          size = part_size r.indexed k.0.entries ∙ r.size;
          indexed = indexed_part r.indexed k.0.entries;
          less = less_then i.formed r.less (subst (λ (s : List ℤ). PairsLess t (take end work) y s z) (sym d) k.0);
          left = m.rest;
          reading = rw b (reading_part r.indexed k.0.entries m.reading);
          none = subst (λ (s : List ℤ). (q : ℕ) → Memᴰ q (entered l s) → (slots ≤ slot_at t s q) ⊎ Memᴰ q m.rest) (sym d) (left_then k.0 k.1 m);
        }
      where
        left_then : PairsLess t (take end work) y part z → slots ≤ slot_at t part at → (m : Reads work end newest l node r.left) → (q : ℕ) → Memᴰ q (entered l part) → (slots ≤ slot_at t part q) ⊎ Memᴰ q m.rest
        left_then a g m q j = ⊎_elim (λ u. inl (a.none l q o u)) (λ u. next (subst (λ (ps : List ℕ). Memᴰ q ps) m.begins u)) (r.none q v)
          where
            v : Memᴰ q (entered l (take end work))
            v = subst (λ (ps : List ℕ). Memᴰ q ps) (a.entries.places l) j

            o : EntryWith l (take end work) q
            o = entered_sound r.indexed.formed v

            next : Memᴰ q (node_place work node ∷ m.rest) → (slots ≤ slot_at t part q) ⊎ Memᴰ q m.rest
            next (here u) = inl (rw (u ∙ sym e) g)
            next (there u) = inr u

    pub pairs_end : node ≤ 0 → NoPairWith l t (take end work)
    pairs_end h at w = ⊎_elim (λ u. u) (λ u. absurd (nothing (subst (λ (ps : List ℕ). Memᴰ at ps) (reading_done r.reading (omega arith)) u))) (r.none at (entered_complete w))
      where
        nothing : Memᴰ at [] → ⊥
        nothing = elim [ ]

-- ---- all literals of the choice gone through

pub countable_zeros : (t : List ℕ) (s : List ℤ) {counts : List ℕ} → length s < 2 ^ 31 → counts ≡ replicate slots 0 → Countable t (stored s) counts
countable_zeros t s h e = rw e (record {
  size = length-replicate {A = ℕ} slots 0;
  few = λ n b. omega (arith, getD_zeros slots n, count_within (in_slot t n) (stored s), few_stored s);
})

-- the literals of the choice before i
pub record GoneThrough (l : Clause) (t : List ℕ) (end : ℕ) (newest : List ℕ) (old : List ℤ) (old_counts : List ℕ) (work : List ℤ) (counts : List ℕ) (i : ℕ) : Type 0 where
  pub size : length work ≡ length old
  pub indexed : Indexed work end newest
  pub less : PairsLess t (take end old) old_counts (take end work) counts
  pub none : (k : ℕ) → k < i → NoPairWith (negation (literal_at l k)) t (take end work)

pub negated_within : {l : Clause} → FitAll input_reach l → (i : ℕ) → i < length l → {n : ℤ} → n ≡ negation (literal_at l i) → nat_abs n ≤ log_reach
negated_within {l} f i h e =
    let x = literal_at l i in
    let b = (f x (getD_mem l i (pos 0) h)).1 in
    omega (arith, ap nat_abs (e ∙ negation_small x (omega (arith, b))), natAbs_neg x, b)

module _ {l : Clause} {t : List ℕ} {end : ℕ} {newest : List ℕ} {old : List ℤ} {x : List ℕ} (o : Indexed old end newest) where
  pub through_next : {work : List ℤ} {y : List ℕ} {i : ℕ} → GoneThrough l t end newest old x work y i → {n : ℤ} → n ≡ negation (literal_at l i) → {new : List ℤ} {z : List ℕ}
      → length new ≡ length work → PairsLess t (take end work) y (take end new) z → NoPairWith n t (take end new) → Indexed new end newest → GoneThrough l t end newest old x new z (i + 1)
  through_next {i = i} g e {new} s a b d = record {
    size = s ∙ g.size;
    indexed = d;
    less = less_then o.formed g.less a;
    none = λ k h. by_test (eqb k i)
        (λ q. subst (λ (j : ℕ). NoPairWith (negation (literal_at l j)) t (take end new)) (sym (eqb-true k i q)) (subst (λ (m : ℤ). NoPairWith m t (take end new)) e b))
        (λ q. none_then g.indexed.formed a (negation (literal_at l k)) (g.none k (before k h (eqb-false k i q))));
  }
    where
      before : (k : ℕ) → k < i + 1 → k ≢ i → k < i
      before k h q = omega (arith, q)

-- where no place has a pair, none stands
all_kept : (t : List ℕ) (s : List ℤ) → Formed s → ((at : ℕ) → at < length s → Place s at → slots ≤ slot_at t s at) → those (no_pair t) (stored s) ≡ stored s
unfolding those
all_kept t s f g = rw (take-length s) at (by_entries s (λ q. those (no_pair t) (stored (take q s)) ≡ stored (take q s)) (ap (those (no_pair t)) stored_none ∙ sym stored_none) step (length s) (place_end f))
  where
    step : (at : ℕ) → at < length s → Place s at → those (no_pair t) (stored (take at s)) ≡ stored (take at s) → those (no_pair t) (stored (take (past s at) s)) ≡ stored (take (past s at) s)
    step at h p ih = by_test (deleted_at s at) deleted standing
      where
        deleted : deleted_at s at ≡ true → those (no_pair t) (stored (take (past s at) s)) ≡ stored (take (past s at) s)
        deleted e = rw (prefix_deleted s at h p e) ih

        standing : deleted_at s at ≡ false → those (no_pair t) (stored (take (past s at) s)) ≡ stored (take (past s at) s)
        standing e =
            let k : slots ≤ slot_of t (clause_at s at) = rw e at (g at h p) in
            rw (prefix_stands s at h p e) (those-++ (no_pair t) (stored (take at s)) (clause_at s at ∷ []) ∙ rw (le-leb slots (slot_of t (clause_at s at)) k, ih) refl)

count_none : (t : List ℕ) (n : ℕ) → n < slots → (F : Formula) → count (in_slot t n) (those (no_pair t) F) ≡ 0
unfolding count those
count_none t n h [] = refl
count_none t n h (d ∷ F) = go (leb slots (slot_of t d)) refl (count_none t n h F)
  where
    go : (b : Bool) → leb slots (slot_of t d) ≡ b → count (in_slot t n) (those (no_pair t) F) ≡ 0 → count (in_slot t n) (cond b (d ∷ those (no_pair t) F) (those (no_pair t) F)) ≡ 0
    go true e ih = rw (ne_eqb (slot_of t d) n (λ q. other q (leb-true slots (slot_of t d) e))) (omega (arith, ih))
      where
        other : slot_of t d ≡ n → slots ≤ slot_of t d → ⊥
        other q k = omega arith
    go false e ih = ih

module _ {t : List ℕ} {l : Clause} (q : Places t l) (few : FitAll input_reach l) {s new : List ℤ} {x y : List ℕ} (f : Formed s) (z : x ≡ replicate slots 0) (a : PairsLess t s x new y)
    (g : (k : ℕ) → k < length l → NoPairWith (negation (literal_at l k)) t new) where
  none_left : (at : ℕ) → at < length new → Place new at → slots ≤ slot_at t new at
  none_left at h p = by_test (ltb (slot_at t new at) slots) (λ e. standing (ltb-true (slot_at t new at) slots e)) (λ e. ltb-false (slot_at t new at) slots e)
    where
      standing : slot_at t new at < slots → slots ≤ slot_at t new at
      standing e = by_test (deleted_at new at) (λ d. rw d (omega arith)) (λ d. found (slotted q (clause_at new at) (rw d at e)))
        where
          found : Slotted l (clause_at new at) (slot_of t (clause_at new at)) → slots ≤ slot_at t new at
          found w =
              let j = literal_at l w.i in
              let b : w.i < length l = omega (arith, w.less, w.within) in
              let n : negation j ≡ neg_ℤ j = negation_small j (omega (arith, (few j (getD_mem l w.i (pos 0) b)).1)) in
              g w.i b at (record { inside = h; place = p; with_literal = rw n (w.same.0 (neg_ℤ j) (here refl)) })

  stands_kept : those (no_pair t) (stored new) ≡ stored new
  stands_kept = all_kept t new (a.entries.formed f) none_left

  pub pairs_taken : PairsTaken t (stored s) new y
  pairs_taken = record {
    formed = a.entries.formed f;
    stands = sym stands_kept ∙ a.others;
    counted = λ n b. omega (arith, a.counted n b, ap (count (in_slot t n)) stands_kept, count_none t n b (stored new), ap (λ (r : List ℕ). get_or r n 0) z, getD_zeros slots n);
  }
