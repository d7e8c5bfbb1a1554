-- The index of a part of a slice: its clauses entered one by one, a clause added behind them, a clause deleted.
use mathlib.Core.Path.{◌≡◌, refl, sym, ap, ap₂, subst, ◌∙◌}
use mathlib.Core.List.{List, ◌++◌}
use Prim.Native.Nat.{ℕ, ◌+◌, ◌-◌, ◌≤◌, ◌<◌}
use native.Mathlib.Omega.{arith}
use lib.IntN.{ℤ, pos}
use lib.ListN.{length, get_or, set, take, drop, length-set, length-drop, length-append, length-replicate}
use lib.Seq.{sets, length-sets, take_at, take-take, take-set-le, drop-set-lt, drop-set-add, get_or_at}
use Rattle.theory_base.proofs.Slices.{sets_before, sets_after}
use Rattle.literals.specs.Literal.{largest, header_of, header_literals}
use Rattle.literals.proofs.Laws.{literals_header}
use Rattle.definition.specs.Literals.{Clause}
use Rattle.store.specs.Store.{Formed, entry, header_at, past, marked, Place, place_of}
use Rattle.std.specs.Prelude.{Some}
use Rattle.store.proofs.Finding.{hit}
use Rattle.store.proofs.Laws.{place_start, place_within, place_next, place_formed, marked_place, added_formed}
use Rattle.theory_base.specs.Slices.{between}
use Rattle.replay.specs.Replayed.{ClauseAdded}
use Rattle.replay.specs.declared.Layout.{Layout}
use Rattle.replay.specs.Index.{keys, key_at, Indexed, Linkable, Linked, store_in}
use Rattle.theory_base.proofs.Parts.{length_between, between_same, sets_between}
use Rattle.replay.proofs.Linking.{marked_between, indexed_none, indexed_next, indexed_more, indexed_marked}

-- ---- the loop of `index_all`: the entries before `at` are in the index

pub record Indexing (old work : List ℤ) (heads : List ℕ) (l : Layout) (at : ℕ) : Type 0 where
  pub len : length work ≡ length old
  pub kept : take l.links work ≡ take l.links old
  pub table : length heads ≡ keys
  pub place : Place (store_in l old) at
  pub index : l.links - l.store ≤ largest → Indexed (store_in l old) at (drop l.links work) heads

pub indexing_start : {old : List ℤ} {heads : List ℕ} {l : Layout} → Linkable old heads l → Indexing old old heads l 0
indexing_start {old} {heads} {l} p = record {
  len = refl;
  kept = refl;
  table = ap length p.none ∙ length-replicate {A = ℕ} keys 0;
  place = place_start p.formed;
  index = λ _. rw p.none (indexed_none (store_in l old) (drop l.links old));
}

module _ {old work : List ℤ} {first heads : List ℕ} {l : Layout} {at : ℕ} (p : Linkable old first l) (i : Indexing old work heads l at) where
  same_store : store_in l work ≡ store_in l old
  same_store = between_same l.store l.end l.links work old p.within i.kept

  store_length : length (store_in l old) ≡ l.end - l.store
  store_length = length_between l.store l.end old (omega (arith, p.room, p.within))

  module _ (h : at < l.end - l.store) where
    pub entry_rest : Formed (drop at (store_in l work))
    entry_rest = rw same_store i.place.rest

    pub link_inside : l.links + at < length work
    link_inside = omega (arith, i.len, p.room, p.within)

    module _ (new : List ℤ) (table : List ℕ) (d : new ≡ set work (l.links + at) (header_of (get_or heads (key_at (store_in l work) at) 0))) (e : table ≡ set heads (key_at (store_in l work) at) (at + 1)) where
      new_kept : take l.links new ≡ take l.links old
      new_kept = ap (take l.links) d ∙ take-set-le l.links work (l.links + at) _ (omega arith) ∙ i.kept

      new_store : store_in l new ≡ store_in l old
      new_store = between_same l.store l.end l.links new old p.within new_kept

      pub entry_there : at < length (store_in l new)
      entry_there = omega (arith, store_length, ap length new_store)

      pub indexing_step : (next : ℕ) → next ≡ past (store_in l new) at → Indexing old new table l next
      indexing_step next n =
          let s = store_in l old in
          let x : next ≡ past s at = n ∙ ap (λ (r : List ℤ). past r at) new_store in
          let k : key_at (store_in l work) at ≡ key_at s at = ap (λ (r : List ℤ). key_at r at) same_store in
          rw x (record {
            len = ap length d ∙ length-set work (l.links + at) _ ∙ i.len;
            kept = new_kept;
            table = ap length e ∙ length-set heads _ (at + 1) ∙ i.table;
            place = place_next s at (omega (arith, store_length)) i.place;
            index = λ small.
                indexed_next s at (drop l.links work) heads (omega (arith, store_length)) i.place (i.index small) (omega (arith, p.within)) (omega (arith, length-drop l.links work, link_inside)) i.table (drop l.links new) table
                (ap (drop l.links) d ∙ drop-set-add l.links work at _ ∙ ap (λ (j : ℕ). set (drop l.links work) at (header_of (get_or heads j 0))) k)
                (e ∙ ap (λ (j : ℕ). set heads j (at + 1)) k);
          })

  pub indexing_end : l.end - l.store ≤ at → Linked work heads l
  indexing_end h =
      let x : at ≡ l.end - l.store = omega (arith, i.place.inside, store_length) in
      record {
        order = p.order;
        within = p.within;
        room = omega (arith, p.room, i.len);
        table = i.table;
        formed = rw same_store p.formed;
        index = λ small. rw same_store (subst (λ (j : ℕ). Indexed (store_in l old) j (drop l.links work) heads) x (i.index small));
      }

linked_length : (work : List ℤ) (heads : List ℕ) (l : Layout) → Linked work heads l → length (store_in l work) ≡ l.end - l.store
linked_length work heads l p = length_between l.store l.end work (omega (arith, p.room, p.within))

-- ---- one clause more, behind which the part ends at r

module _ (old added new : List ℤ) (heads table : List ℕ) (l : Layout) (r : ℕ) (c : Clause) (p : Linked old heads l) (small : length c ≤ largest) (x : r ≡ l.end + (length c + 1)) (room : r ≤ l.links) (w : added ≡ sets old l.end (entry c)) where
  abbrev part : List ℤ
  part = store_in l old ++ entry c

  abbrev q : ℕ
  q = l.end - l.store

  part_length : length (store_in l old) ≡ q
  part_length = linked_length old heads l p

  part_added : between l.store r added ≡ part
  part_added =
      let n : r ≡ l.end + length (entry c) = omega arith in
      ap₂ (λ (k : ℕ) (v : List ℤ). between l.store k v) n w ∙ sets_between l.store l.end old (entry c) p.order (omega (arith, p.room))

  part_formed : Formed part
  part_formed = added_formed (store_in l old) c p.formed small

  part_place : Place part q
  part_place = place_within part_formed (omega (arith, part_length, length-append (store_in l old) (entry c))) (rw (take_at (store_in l old) (entry c) q part_length) p.formed)

  pub part_rest : Formed (drop q (between l.store r added))
  part_rest = rw part_added part_place.rest

  added_length : length added ≡ length old
  added_length = ap length w ∙ length-sets old l.end (entry c)

  pub part_link : l.links + q < length added
  part_link = omega (arith, added_length, p.room, p.within)

  module _ (d : new ≡ set added (l.links + q) (header_of (get_or heads (key_at (between l.store r added) q) 0))) (e : table ≡ set heads (key_at (between l.store r added) q) (q + 1)) where
    new_links : take l.links new ≡ take l.links added
    new_links = ap (take l.links) d ∙ take-set-le l.links added (l.links + q) _ (omega arith)

    new_part : between l.store r new ≡ part
    new_part = between_same l.store r l.links new added room new_links ∙ part_added

    pub clause_added : ClauseAdded old l c r new
    clause_added = record {
      next = x;
      filled = new_part;
      kept =
          sym (take-take l.store l.links new (omega (arith, p.order, p.within)))
          ∙ ap (take l.store) new_links
          ∙ take-take l.store l.links added (omega (arith, p.order, p.within))
          ∙ ap (take l.store) w
          ∙ sets_before (entry c) old l.end l.store p.order;
    }

    key_there : key_at (between l.store r added) q ≡ key_at part q
    key_there = ap (λ (s : List ℤ). key_at s q) part_added

    links_there : drop l.links added ≡ drop l.links old
    links_there = ap (drop l.links) w ∙ sets_after (entry c) old l.end l.links (omega arith)

    past_there : past part q ≡ r - l.store
    past_there =
        let h : header_at part q ≡ header_of (length c) = get_or_at (store_in l old) (header_of (length c)) c (pos 0) q part_length in
        omega (arith, ap header_literals h, literals_header (length c) (omega arith), p.order)

    part_index : l.links - l.store ≤ largest → Indexed part (past part q) (drop l.links new) table
    part_index s =
        let i : Indexed part q (drop l.links added) heads =
        rw links_there (subst (λ (j : ℕ). Indexed part j (drop l.links old) heads) part_length
        (indexed_more (store_in l old) (entry c) (drop l.links old) heads p.formed (subst (λ (j : ℕ). Indexed (store_in l old) j (drop l.links old) heads) (sym part_length) (p.index s)))) in
        indexed_next part q (drop l.links added) heads (omega (arith, part_length, length-append (store_in l old) (entry c))) part_place i (omega (arith, p.within)) (omega (arith, length-drop l.links added, part_link)) p.table (drop l.links new) table
        (ap (drop l.links) d ∙ drop-set-add l.links added q _ ∙ ap (λ (j : ℕ). set (drop l.links added) q (header_of (get_or heads j 0))) key_there)
        (e ∙ ap (λ (j : ℕ). set heads j (q + 1)) key_there)

    pub linked_added : Linked new table (record l { end = r })
    linked_added = record {
      order = omega (arith, p.order);
      within = room;
      room = omega (arith, ap length d ∙ length-set added (l.links + q) _, added_length, p.room);
      table = ap length e ∙ length-set heads _ (q + 1) ∙ p.table;
      formed = rw new_part part_formed;
      index = λ s. rw new_part (subst (λ (j : ℕ). Indexed part j (drop l.links new) table) past_there (part_index s));
    }

-- ---- a clause deleted
pub linked_deleted : (old new : List ℤ) (heads : List ℕ) (l : Layout) (c : Clause) → Linked old heads l → (a : ℕ) → Some a ≡ place_of c (store_in l old) → new ≡ marked old (l.store + a) → Linked new heads l
linked_deleted old new heads l c p a z d =
    let s = store_in l old in
    let n = linked_length old heads l p in
    let m = hit c s a (sym z) in
    let u : Place s a = m.place p.formed in
    let b : store_in l new ≡ marked s a = ap (store_in l) d ∙ marked_between l.store l.end old a (omega (arith, n, m.inside)) in
    let r : drop l.links new ≡ drop l.links old = ap (drop l.links) d ∙ drop-set-lt l.links old (l.store + a) _ (omega (arith, n, m.inside, p.within)) in
    record {
      order = p.order;
      within = p.within;
      room = omega (arith, ap length d ∙ length-set old (l.store + a) _, p.room);
      table = p.table;
      formed = rw b (place_formed (marked_place s a m.inside u));
      index = λ x.
          rw (b, r) (subst (λ (j : ℕ). Indexed (marked s a) j (drop l.links old) heads) n
          (indexed_marked s a m.inside u (drop l.links old) heads (subst (λ (j : ℕ). Indexed s j (drop l.links old) heads) (sym n) (p.index x))));
    }
