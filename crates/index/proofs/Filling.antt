-- Entering all clauses of a store, one after another: the nodes stay behind the store, so that the clauses to come stay. Assumes nothing.
use mathlib.Core.Path.{◌≡◌, refl, sym, ap, subst, ◌∙◌}
use mathlib.Core.List.{List, [], ◌++◌}
use Prim.Native.Nat.{ℕ, ◌+◌, ◌-◌, ◌*◌, ◌≤◌, ◌<◌, ◌^◌}
use native.Mathlib.Omega.{arith}
use lib.IntN.{ℤ}
use lib.ListN.{length, take, drop, take-append-drop, length-append, length-drop}
use lib.Seq.{take-take, take-append-le, length-take-le}
use Rattle.definition.specs.Literals.{literals_of}
use Rattle.definition.specs.Calls.{numbers_of}
use Rattle.theory_base.specs.Cells.{cells_of}
use Rattle.literals.specs.Literal.{index_of, header_literals}
use Rattle.tables.specs.Sizes.{log_size}
use Rattle.tables.specs.Entries.{entry_of}
use Rattle.tables.specs.Stamps.{AtMost}
use Rattle.store.specs.Store.{Formed, stored, header_at, size_at, past, Place, Compacted}
use Rattle.store.proofs.Laws.{place_start, place_next, prefix_header}
use Rattle.index.specs.Index.{nodes, Chain, none, entered, literals_in, Indexed, MadeRoom}
use Rattle.index.proofs.Walk.{entered_none, literals_none, literals-++, literals_next, literals_fit}

-- an empty table is the index of an empty store
empty_indexed : (work : List ℤ) (newest : List ℕ) → length work < 2 ^ 31 → length newest ≡ log_size → AtMost newest 0 → Indexed work 0 newest
empty_indexed work newest small size z = record {
  small = small;
  size = size;
  formed = tt;
  room = omega (arith, z 1);
  counted = none_left (nodes newest) (z 1) ∙ sym literals_none;
  chains = λ l h.
      let e = none_left (entry_of newest l) (z (index_of l)) in
      (omega (arith, e), subst (λ (t : ℕ). Chain work t (entered l [])) (sym e) (subst (λ (ps : List ℕ). Chain work 0 ps) (sym (entered_none l)) none));
}
  where
    none_left : (n : ℕ) → n ≤ 0 → n ≡ 0
    none_left n h = omega arith

-- the literals before a place are no more than all
literals_upto : {s : List ℤ} {q : ℕ} → Place s q → literals_in (take q s) ≤ literals_in s
literals_upto {s} {q} p =
    let e : literals_in s ≡ literals_in (take q s) + literals_in (drop q s) = ap literals_in (sym (take-append-drop q s)) ∙ literals-++ 0 (take q s) (drop q s) p.before in
    omega arith

-- the clauses before a place are entered
pub record Filling (old : List ℤ) (end : ℕ) (work : List ℤ) (newest : List ℕ) (at : ℕ) : Type 0 where
  pub place : Place (take end old) at
  pub size : length work ≡ length old
  pub kept : take end work ≡ take end old
  pub indexed : Indexed work at newest

module _ (old : List ℤ) (end : ℕ) (f : Formed (take end old)) (room : end + 2 * literals_in (take end old) ≤ length old) where
  pub filling_start : (table : List ℕ) → length old < 2 ^ 31 → AtMost table 0 → length table ≡ log_size → Filling old end old table 0
  filling_start table small z size = record { place = place_start f; size = refl; kept = refl; indexed = empty_indexed old table small size z }

  store_length : length (take end old) ≡ end
  store_length = length-take-le end old (omega arith)

  module _ (work : List ℤ) (newest : List ℕ) (at : ℕ) (inv : Filling old end work newest at) where
    pub filling_inside : at < end → at < length work
    filling_inside h = omega (arith, inv.size)

    module _ (h : at < end) (next : ℕ) (e : next ≡ past work at) where
      past_there : next ≡ past (take end old) at
      past_there =
          e ∙ ap (λ (x : ℤ). at + (1 + header_literals x)) (sym (prefix_header work end at h (omega (arith, inv.size))) ∙ ap (λ (s : List ℤ). header_at s at) inv.kept)

      next_place : Place (take end old) next
      next_place = subst (λ (k : ℕ). Place (take end old) k) (sym past_there) (place_next (take end old) at (omega (arith, store_length)) inv.place)

      next_nodes : nodes newest + (next - (at + 1)) ≡ literals_in (take next (take end old))
      next_nodes =
          let before : take at work ≡ take at (take end old) = sym (take-take at end work (omega arith)) ∙ ap (take at) inv.kept in
          let now : literals_in (take next (take end old)) ≡ literals_in (take at (take end old)) + size_at (take end old) at = ap (λ (k : ℕ). literals_in (take k (take end old))) past_there ∙ literals_next (take end old) at (omega (arith, store_length)) inv.place in
          omega (arith, inv.indexed.counted, ap literals_in before, past_there)

      pub filling_room : next + 2 * (nodes newest + (next - (at + 1))) ≤ length work
      filling_room = omega (arith, next_nodes, literals_upto next_place, next_place.inside, store_length, inv.size)

      pub filling_step : (new : List ℤ) (last : List ℕ) → length new ≡ length work → Indexed new next last → nodes last ≡ nodes newest + (next - (at + 1)) → take (length work - 2 * nodes last) new ≡ take (length work - 2 * nodes last) work → Filling old end new last next
      filling_step new last n i c k =
          let b : end ≤ length work - 2 * nodes last = omega (arith, next_nodes, literals_upto next_place, inv.size) in
          record {
            place = next_place;
            size = n ∙ inv.size;
            kept = sym (take-take end (length work - 2 * nodes last) new b) ∙ ap (take end) k ∙ take-take end (length work - 2 * nodes last) work b ∙ inv.kept;
            indexed = i;
          }

    pub filling_end : end ≤ at → Indexed work end newest × (take end work ≡ take end old)
    filling_end h =
        let z : at ≡ end = omega (arith, inv.place.inside, store_length) in
        (subst (λ (k : ℕ). Indexed work k newest) z inv.indexed, inv.kept)

-- ---- room

-- what stands takes no more than its cells
module _ (old : List ℤ) (end cells r : ℕ) (part : List ℤ) (inside : end ≤ length old) (n : length part ≡ length (take end old)) (c : Compacted (take end old) r part) (room : cells_of (stored (take end old)) + cells ≤ length old) where
  compacted_length : length (part ++ drop end old) ≡ length old
  compacted_length = length-append part (drop end old) ∙ omega (arith, length-drop end old, length-take-le end old inside)

  compacted_store : take r (part ++ drop end old) ≡ take r part
  compacted_store = take-append-le r part (drop end old) c.within

  pub compacted_formed : Formed (take r (part ++ drop end old))
  compacted_formed = rw compacted_store c.formed

  few : literals_in (take r (part ++ drop end old)) ≤ literals_of (stored (take end old))
  few =
      let m : literals_in (take r part) + numbers_of (stored (take end old)) ≤ literals_of (stored (take end old)) + length (take r part) = subst (λ F. literals_in (take r part) + numbers_of F ≤ literals_of F + length (take r part)) c.same (literals_fit (take r part)) in
      omega (arith, ap literals_in compacted_store, length-take-le r part c.within, c.size)

  pub compacted_room : r + 2 * literals_in (take r (part ++ drop end old)) ≤ length (part ++ drop end old)
  compacted_room = omega (arith, few, compacted_length, c.size)

  pub compacted_small : length old < 2 ^ 31 → length (part ++ drop end old) < 2 ^ 31
  compacted_small h = omega (arith, compacted_length)

  pub made_room : (new : List ℤ) (newest : List ℕ) → length new ≡ length (part ++ drop end old) → Indexed new r newest → take r new ≡ take r (part ++ drop end old) → MadeRoom cells old end new r newest
  made_room new newest e i k = record {
    size = e ∙ compacted_length;
    indexed = i;
    stands = ap stored (k ∙ compacted_store) ∙ c.same;
    roomy = omega (arith, i.counted, ap literals_in k, few, e, compacted_length, c.size);
  }
