-- What callers use of the index: what keeps it, and a literal's clauses read from the last to the first. Assumes nothing.
use mathlib.Core.Path.{◌≡◌, refl, sym, ap, subst, ◌∙◌}
use mathlib.Core.List.Memᴰ
use mathlib.Core.List.Memᴰ.{head as here}
use mathlib.Core.List.{List, [], ◌∷◌, ◌++◌, Memᴰ}
use Prim.Native.Nat.{ℕ, ◌+◌, ◌-◌, ◌*◌, ◌≤◌, ◌<◌}
use native.Mathlib.Omega.{arith}
use lib.IntN.{ℤ, nat_abs}
use lib.ListN.{length, take, drop, set, length-append, length-set, length-drop}
use lib.Seq.{sets, length-sets, length-take-le, take_at, drop_at, drop-drop, take-set-lt, drop-set-lt, append_snoc}
use Rattle.theory_base.proofs.Slices.{sets_before, sets_after}
use Rattle.literals.specs.Literal.{index_of, flip}
use Rattle.literals.proofs.Laws.{index_within}
use Rattle.tables.specs.Sizes.{log_reach, log_size}
use Rattle.tables.specs.Entries.{entry_of}
use Rattle.store.specs.Store.{header_at, marked, Place}
use Rattle.store.proofs.Laws.{prefix_header}
use Rattle.index.specs.Index.{nodes, node_place, older_node, Chain, none, node, entered, Indexed, SameEntries}
use Rattle.index.specs.Reading.{Reading, EntryWith}
use Rattle.index.proofs.Walk.{entered_sound, marked_same, same_refl}
use Rattle.index.proofs.Chains.{SameNodes, chain_kept}

pub index_reached : (l : ℤ) → nat_abs l ≤ log_reach → index_of l < log_size
index_reached l h = omega (arith, index_within l)

-- ---- what keeps the index

module _ {work : List ℤ} {end : ℕ} {newest : List ℕ} (i : Indexed work end newest) where
  pub indexed_inside : end ≤ length work
  indexed_inside = omega (arith, i.room)

  pub indexed_length : length (take end work) ≡ end
  indexed_length = length-take-le end work indexed_inside

  -- the same entries and the same nodes
  pub indexed_by : {new : List ℤ} → SameNodes (nodes newest) work new → SameEntries (take end work) (take end new) → Indexed new end newest
  indexed_by {new} n s = record {
    small = subst (λ (k : ℕ). k < 2147483648) (sym n.size) i.small;
    size = i.size;
    formed = s.formed i.formed;
    room = omega (arith, i.room, n.size);
    counted = i.counted ∙ sym s.literals;
    chains = λ l h. let c = i.chains l h in (c.0, subst (λ (ps : List ℕ). Chain new (entry_of newest l) ps) (sym (s.places l)) (chain_kept n c.0 c.1));
  }

  -- what lies behind the store stays
  pub nodes_behind : (new : List ℤ) → length new ≡ length work → drop end new ≡ drop end work → SameNodes (nodes newest) work new
  nodes_behind new e d = record {
    size = e;
    room = omega (arith, i.room);
    same =
        let k = length work - 2 * nodes newest - end in
        let z : end + k ≡ length work - 2 * nodes newest = omega (arith, i.room) in
        ap (λ (m : ℕ). drop m new) (sym z) ∙ sym (drop-drop k end new) ∙ ap (drop k) d ∙ drop-drop k end work ∙ ap (λ (m : ℕ). drop m work) z;
  }

  pub indexed_kept : (new : List ℤ) → length new ≡ length work → drop end new ≡ drop end work → SameEntries (take end work) (take end new) → Indexed new end newest
  indexed_kept new e d s = indexed_by (nodes_behind new e d) s

  -- what `&mut work[..end]` leaves
  module _ {part : List ℤ} (s : SameEntries (take end work) part) where
    part_length : length part ≡ end
    part_length = s.size ∙ indexed_length

    pub part_store : take end (part ++ drop end work) ≡ part
    part_store = take_at part (drop end work) end part_length

    pub part_size : length (part ++ drop end work) ≡ length work
    part_size = length-append part (drop end work) ∙ omega (arith, part_length, length-drop end work, indexed_inside)

    pub part_behind : drop end (part ++ drop end work) ≡ drop end work
    part_behind = drop_at part (drop end work) end part_length

    part_same : SameEntries (take end work) (take end (part ++ drop end work))
    part_same = subst (λ (r : List ℤ). SameEntries (take end work) r) (sym part_store) s

    pub indexed_part : Indexed (part ++ drop end work) end newest
    indexed_part = indexed_kept (part ++ drop end work) part_size part_behind part_same

  -- a clause marked
  module _ {at : ℕ} (p : Place (take end work) at) (h : at < end) where
    pub marked_take : take end (marked work at) ≡ marked (take end work) at
    marked_take =
        take-set-lt end work at (flip (header_at work at)) h
        ∙ ap (λ (x : ℤ). set (take end work) at (flip x)) (sym (prefix_header work end at h indexed_inside))

    pub marked_part : SameEntries (take end work) (take end (marked work at))
    marked_part = subst (λ (r : List ℤ). SameEntries (take end work) r) (sym marked_take) (marked_same p (omega (arith, indexed_length)))

    marked_nodes : SameNodes (nodes newest) work (marked work at)
    marked_nodes = nodes_behind (marked work at) (length-set work at (flip (header_at work at))) (drop-set-lt end work at (flip (header_at work at)) h)

    pub indexed_marked : Indexed (marked work at) end newest
    indexed_marked = indexed_by marked_nodes marked_part

  -- elements written between the store and the nodes
  pub indexed_sets : (at : ℕ) (xs : List ℤ) → end ≤ at → at + length xs + 2 * nodes newest ≤ length work → Indexed (sets work at xs) end newest
  indexed_sets at xs a b =
      indexed_by
      record {
        size = length-sets work at xs;
        room = omega (arith, i.room);
        same = sets_after xs work at (length work - 2 * nodes newest) (omega arith);
      }
      (subst (λ (r : List ℤ). SameEntries (take end work) r) (sym (sets_before xs work at end a)) (same_refl (take end work)))

-- ---- reading

pub reading_start : {work : List ℤ} {end : ℕ} {newest : List ℕ} → Indexed work end newest → (l : ℤ) → index_of l < log_size → Reading work end newest l (entry_of newest l) (entered l (take end work))
reading_start i l h = let c = i.chains l h in record { bound = c.0; chain = c.1; read = []; split = refl }

chain_done : {work : List ℤ} {t : ℕ} {ps : List ℕ} → Chain work t ps → t ≡ 0 → ps ≡ []
chain_done none e = refl
chain_done (node p o l c) e = absurd (omega arith)

pub reading_done : {work : List ℤ} {end : ℕ} {newest : List ℕ} {l : ℤ} {t : ℕ} {ps : List ℕ} → Reading work end newest l t ps → t ≡ 0 → ps ≡ []
reading_done r e = chain_done r.chain e

record ChainMore (work : List ℤ) (t : ℕ) (ps : List ℕ) : Type 0 where
  rest : List ℕ
  begins : ps ≡ node_place work t ∷ rest
  falls : older_node work t < t
  chain : Chain work (older_node work t) rest

chain_step : {work : List ℤ} {t : ℕ} {ps : List ℕ} → Chain work t ps → 0 < t → ChainMore work t ps
chain_step none h = absurd (omega arith)
chain_step {work} (node {t = t} {ps = ps} p o l c) h = record {
  rest = ps;
  begins = ap (λ (a : ℕ). a ∷ ps) (sym p);
  falls = omega arith;
  chain = subst (λ (u : ℕ). Chain work u ps) (sym o) c;
}

-- the node t is read: where its clause is, and what is left
pub record Reads (work : List ℤ) (end : ℕ) (newest : List ℕ) (l : ℤ) (t : ℕ) (ps : List ℕ) : Type 0 where
  pub rest : List ℕ
  pub begins : ps ≡ node_place work t ∷ rest
  pub first : 1 ≤ t
  pub within : 2 * t ≤ length work
  pub inside : node_place work t < end
  pub entry : EntryWith l (take end work) (node_place work t)
  pub falls : older_node work t < t
  pub reading : Reading work end newest l (older_node work t) rest

pub reading_more : {work : List ℤ} {end : ℕ} {newest : List ℕ} {l : ℤ} {t : ℕ} {ps : List ℕ} → Indexed work end newest → Reading work end newest l t ps → 0 < t → Reads work end newest l t ps
reading_more {work} {end} {newest} {l} {t} {ps} i r h =
    let m = chain_step r.chain h in
    let z : entered l (take end work) ≡ r.read ++ (node_place work t ∷ m.rest) = r.split ∙ ap (λ (qs : List ℕ). r.read ++ qs) m.begins in
    let e : EntryWith l (take end work) (node_place work t) = entered_sound i.formed (subst (λ (qs : List ℕ). Memᴰ (node_place work t) qs) (sym z) (Memᴰ.append_right r.read (here refl))) in
    record {
      rest = m.rest;
      begins = m.begins;
      first = h;
      within = omega (arith, i.room, r.bound);
      inside = omega (arith, e.inside, indexed_length i);
      entry = e;
      falls = m.falls;
      reading = record {
        bound = omega (arith, m.falls, r.bound);
        chain = m.chain;
        read = r.read ++ (node_place work t ∷ []);
        split = z ∙ sym (append_snoc r.read (node_place work t) m.rest);
      };
    }

-- the same entries and the same nodes
pub reading_by : {work new : List ℤ} {end : ℕ} {newest : List ℕ} {l : ℤ} {t : ℕ} {ps : List ℕ} → SameNodes (nodes newest) work new → SameEntries (take end work) (take end new) → Reading work end newest l t ps → Reading new end newest l t ps
reading_by {l = l} n s r = record { bound = r.bound; chain = chain_kept n r.bound r.chain; read = r.read; split = s.places l ∙ r.split }

pub reading_part : {work part : List ℤ} {end : ℕ} {newest : List ℕ} {l : ℤ} {t : ℕ} {ps : List ℕ} → Indexed work end newest → SameEntries (take end work) part → Reading work end newest l t ps → Reading (part ++ drop end work) end newest l t ps
reading_part {work} {part} {end} i s r =
    reading_by (nodes_behind i (part ++ drop end work) (part_size i s) (part_behind i s))
    (subst (λ (q : List ℤ). SameEntries (take end work) q) (sym (part_store i s)) s) r
