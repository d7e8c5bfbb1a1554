-- Entering a clause: after each of its literals, the chains are those of the store before it and of the literals so far. Assumes nothing.
use mathlib.Core.Path.{◌≡◌, refl, sym, ap, subst, ◌∙◌}
use mathlib.Core.Bool.{Bool, true, false, cond}
use mathlib.Core.List.{List, [], ◌∷◌, ◌++◌}
use Prim.Native.Nat.{ℕ, suc, ◌+◌, ◌-◌, ◌*◌, ◌≤◌, ◌<◌, ◌^◌}
use native.Mathlib.Omega.{arith}
use lib.IntN.{ℤ, pos, negsuc}
use lib.ListN.{length, get_or, take, drop, set, length-set, length-drop}
use lib.Seq.{take-suc, take-take, length-take-le, take-set-le, get_or-drop, get_or-set_same, get_or-set_other}
use Rattle.definition.specs.Literals.{Clause, same}
use Rattle.theory_base.proofs.Tests.{of_true}
use Rattle.theory_base.proofs.Members.{same_eq}
use Rattle.theory_base.proofs.Slices.{getD_before}
use Rattle.literals.specs.Literal.{index_of}
use Rattle.tables.specs.Sizes.{log_size}
use Rattle.tables.specs.Entries.{entry_of}
use Rattle.tables.proofs.Laws.{entry_set}
use Rattle.store.specs.Store.{header_at, size_at, clause_at, past}
use Rattle.store.proofs.Laws.{prefix_next, formed-++, one_formed, part_there}
use Rattle.index.specs.Index.{nodes, Chain, with_node, with_last, entered, literals_in, Indexed}
use Rattle.index.proofs.Walk.{pushed, entered_added, literals_added}
use Rattle.index.proofs.Chains.{SameNodes, length_with_node, with_node_same, chain_kept, chain_more}
use Rattle.index.proofs.Laws.{indexed_inside, indexed_length}

-- ---- what enter_literal leaves

-- 1 is no literal's index
index_free : (l : ℤ) → index_of l ≡ 1 → ⊥
index_free (pos n) e = omega arith
index_free (negsuc n) e = omega arith

module _ (newest : List ℕ) (x : ℤ) where
  length_with_last : length (with_last newest x) ≡ length newest
  length_with_last = length-set (set newest (index_of x) (nodes newest + 1)) 1 (nodes newest + 1) ∙ length-set newest (index_of x) (nodes newest + 1)

  nodes_with_last : 1 < length newest → nodes (with_last newest x) ≡ nodes newest + 1
  nodes_with_last h =
      get_or-set_same (set newest (index_of x) (nodes newest + 1)) 1 (nodes newest + 1) 0 (omega (arith, length-set newest (index_of x) (nodes newest + 1)))

  entry_with_last : (l : ℤ) → index_of l < length newest → entry_of (with_last newest x) l ≡ cond (same l x) (nodes newest + 1) (entry_of newest l)
  entry_with_last l h =
      get_or-set_other (set newest (index_of x) (nodes newest + 1)) 1 (index_of l) (nodes newest + 1) 0 (λ e. index_free l e)
      ∙ entry_set newest (nodes newest + 1) x l h

-- ---- one literal more

pushed_snoc : (l : ℤ) (at : ℕ) (c : Clause) (x : ℤ) (ps : List ℕ) → pushed l at (c ++ (x ∷ [])) ps ≡ cond (same l x) (at ∷ pushed l at c ps) (pushed l at c ps)
unfolding pushed
pushed_snoc l at [] x ps = refl
pushed_snoc l at (y ∷ c) x ps = pushed_snoc l at c x (cond (same l y) (at ∷ ps) ps)

-- the first literals of the clause at a place, up to the place i
abbrev literals_to : List ℤ → ℕ → ℕ → Clause
literals_to s at i = take (i - (at + 1)) (drop (at + 1) s)

literals_more : (s : List ℤ) (at i : ℕ) → at + 1 ≤ i → i < length s → literals_to s at (i + 1) ≡ literals_to s at i ++ (get_or s i (pos 0) ∷ [])
literals_more s at i a b =
    let j = i - (at + 1) in
    let e : i + 1 - (at + 1) ≡ suc j = omega arith in
    let z : at + 1 + j ≡ i = omega arith in
    ap (λ (k : ℕ). take k (drop (at + 1) s)) e
    ∙ take-suc (drop (at + 1) s) j (pos 0) (omega (arith, length-drop (at + 1) s))
    ∙ ap (λ (y : ℤ). take j (drop (at + 1) s) ++ (y ∷ [])) (get_or-drop (at + 1) s j (pos 0) ∙ ap (λ (k : ℕ). get_or s k (pos 0)) z)

-- the chain of a literal, with the new node if it is its own
extended : (b : Bool) {work new : List ℤ} {n t at : ℕ} {ps : List ℕ} → SameNodes n work new → t ≤ n → Chain work t ps → (b ≡ true → Chain new (n + 1) (at ∷ ps)) → (cond b (n + 1) t ≤ n + 1) × Chain new (cond b (n + 1) t) (cond b (at ∷ ps) ps)
extended true s h c f = (omega arith, f refl)
extended false s h c f = (omega arith, chain_kept s h c)

-- the literals of the clause at a place are entered up to the place i
pub record Entering (old : List ℤ) (table : List ℕ) (at next : ℕ) (work : List ℤ) (newest : List ℕ) (i : ℕ) : Type 0 where
  pub from : at + 1 ≤ i
  pub to : i ≤ next
  pub size : length work ≡ length old
  pub reach : length newest ≡ length table
  pub counted : nodes newest ≡ nodes table + (i - (at + 1))
  pub kept : take (length old - 2 * nodes newest) work ≡ take (length old - 2 * nodes newest) old
  pub chains : (l : ℤ) → index_of l < log_size → (entry_of newest l ≤ nodes newest) × Chain work (entry_of newest l) (pushed l at (literals_to old at i) (entered l (take at old)))

module _ (old : List ℤ) (table : List ℕ) (at next : ℕ) (pre : Indexed old at table) (p : next ≡ past old at) (room : next + 2 * (nodes table + (next - (at + 1))) ≤ length old) where
  pub entering_start : Entering old table at next old table (at + 1)
  unfolding pushed
  entering_start = record {
    from = omega arith;
    to = omega (arith, p);
    size = refl;
    reach = refl;
    counted = omega arith;
    kept = refl;
    chains =
        let z : at + 1 - (at + 1) ≡ 0 = omega arith in
        λ l h. ((pre.chains l h).0, subst (λ (k : ℕ). Chain old (entry_of table l) (pushed l at (take k (drop (at + 1) old)) (entered l (take at old)))) (sym z) (pre.chains l h).1);
  }

  module _ (work : List ℤ) (newest : List ℕ) (i : ℕ) (inv : Entering old table at next work newest i) where
    pub entering_room : i < next → (2 * (nodes newest + 1) ≤ length work) × (length work < 2 ^ 31) × (2 ≤ length newest)
    entering_room h = (
      omega (arith, inv.counted, inv.size, inv.from),
      omega (arith, inv.size, pre.small),
      omega (arith, inv.reach, pre.size),
    )

    -- the element read is the clause's literal
    entering_literal : i < next → get_or work i (pos 0) ≡ get_or old i (pos 0)
    entering_literal h = getD_before work old (length old - 2 * nodes newest) i (pos 0) inv.kept (omega (arith, inv.counted, inv.from))

    module _ (h : i < next) (x : ℤ) (e : x ≡ get_or work i (pos 0)) where
      free : 2 * (nodes newest + 1) ≤ length work
      free = (entering_room h).0

      -- the places of l with this literal
      places_more : (l : ℤ) → pushed l at (literals_to old at (i + 1)) (entered l (take at old)) ≡ cond (same l x) (at ∷ pushed l at (literals_to old at i) (entered l (take at old))) (pushed l at (literals_to old at i) (entered l (take at old)))
      places_more l =
          ap (λ (c : Clause). pushed l at c (entered l (take at old)))
          (literals_more old at i inv.from (omega arith) ∙ ap (λ (y : ℤ). literals_to old at i ++ (y ∷ [])) (sym (e ∙ entering_literal h)))
          ∙ pushed_snoc l at (literals_to old at i) x (entered l (take at old))

      chain_first : (l : ℤ) → index_of l < log_size → same l x ≡ true → Chain (with_node work (nodes newest) at (entry_of newest x)) (nodes newest + 1) (at ∷ pushed l at (literals_to old at i) (entered l (take at old)))
      chain_first l r s =
          let z : l ≡ x = same_eq l x (of_true s) in
          let c = inv.chains l r in
          chain_more work (nodes newest) at (entry_of newest x) free (entering_room h).1 (omega (arith, pre.small, indexed_inside pre))
          (subst (λ (y : ℤ). entry_of newest y ≤ nodes newest) z c.0)
          (subst (λ (y : ℤ). Chain work (entry_of newest y) (pushed l at (literals_to old at i) (entered l (take at old)))) z c.1)

      chains_more : (l : ℤ) → index_of l < log_size
          → (entry_of (with_last newest x) l ≤ nodes newest + 1) × Chain (with_node work (nodes newest) at (entry_of newest x)) (entry_of (with_last newest x) l) (pushed l at (literals_to old at (i + 1)) (entered l (take at old)))
      chains_more l r =
          let c = inv.chains l r in
          rw (entry_with_last newest x l (omega (arith, inv.reach, pre.size)), places_more l)
          (extended (same l x) (with_node_same work (nodes newest) at (entry_of newest x) free) c.0 c.1 (chain_first l r))

      pub entering_step : (new : List ℤ) (last : List ℕ) → new ≡ with_node work (nodes newest) at (entry_of newest x) → last ≡ with_last newest x → Entering old table at next new last (i + 1)
      entering_step new last a b =
          let m : nodes last ≡ nodes newest + 1 = ap nodes b ∙ nodes_with_last newest x (omega (arith, (entering_room h).2)) in
          let k : length old - 2 * nodes last ≤ length old - 2 * nodes newest = omega arith in
          record {
            from = omega (arith, inv.from);
            to = omega arith;
            size = ap length a ∙ length_with_node work (nodes newest) at (entry_of newest x) free ∙ inv.size;
            reach = ap length b ∙ length_with_last newest x ∙ inv.reach;
            counted = omega (arith, inv.counted, inv.from);
            kept =
                ap (take (length old - 2 * nodes last)) a
                ∙ take-set-le (length old - 2 * nodes last) _ _ _ (omega (arith, inv.size))
                ∙ take-set-le (length old - 2 * nodes last) work _ _ (omega (arith, inv.size))
                ∙ sym (take-take (length old - 2 * nodes last) (length old - 2 * nodes newest) work k)
                ∙ ap (take (length old - 2 * nodes last)) inv.kept
                ∙ take-take (length old - 2 * nodes last) (length old - 2 * nodes newest) old k;
            chains = λ l r. (
              subst (λ (k : ℕ). entry_of last l ≤ k) (sym m) (subst (λ (q : List ℕ). entry_of q l ≤ nodes newest + 1) (sym b) (chains_more l r).0),
              subst (λ (q : List ℕ). Chain new (entry_of q l) (pushed l at (literals_to old at (i + 1)) (entered l (take at old)))) (sym b)
                  (subst (λ (w : List ℤ). Chain w (entry_of (with_last newest x) l) (pushed l at (literals_to old at (i + 1)) (entered l (take at old)))) (sym a) (chains_more l r).1),
            );
          }

    -- all of the clause is entered
    module _ (h : next ≤ i) where
      all : i ≡ next
      all = omega (arith, inv.to)

      count : nodes newest ≡ nodes table + (next - (at + 1))
      count = inv.counted ∙ ap (λ (k : ℕ). nodes table + (k - (at + 1))) all

      pub entering_kept : take next work ≡ take next old
      entering_kept =
          let k : next ≤ length old - 2 * nodes newest = omega (arith, count) in
          sym (take-take next (length old - 2 * nodes newest) work k) ∙ ap (take next) inv.kept ∙ take-take next (length old - 2 * nodes newest) old k

      whole : take next work ≡ take at old ++ header_at old at ∷ clause_at old at
      whole = entering_kept ∙ ap (λ (k : ℕ). take k old) p ∙ prefix_next old at (omega arith)

      clause_size : length (clause_at old at) ≡ size_at old at
      clause_size = length-take-le (size_at old at) (drop (at + 1) old) (omega (arith, length-drop (at + 1) old))

      pub entering_end : Indexed work next newest × ((take next work ≡ take next old) × ((nodes newest ≡ nodes table + (next - (at + 1))) × (take (length old - 2 * nodes newest) work ≡ take (length old - 2 * nodes newest) old)))
      entering_end = (
        record {
          small = omega (arith, inv.size, pre.small);
          size = inv.reach ∙ pre.size;
          formed = rw whole (formed-++ (take at old) _ pre.formed (one_formed (header_at old at) (clause_at old at) clause_size));
          room = omega (arith, count, inv.size);
          counted =
              count ∙ omega (arith, pre.counted, clause_size, literals_added (take at old) (header_at old at) (clause_at old at) pre.formed clause_size)
              ∙ sym (ap literals_in whole);
          chains = λ l r. (
            (inv.chains l r).0,
            subst (λ (ps : List ℕ). Chain work (entry_of newest l) ps)
                (ap (λ (k : ℕ). pushed l at (literals_to old at k) (entered l (take at old))) all
                ∙ ap (λ (d : Clause). pushed l at d (entered l (take at old))) (part_there old at next p)
                ∙ sym
                (ap (entered l) whole
                ∙ entered_added l (take at old) (header_at old at) (clause_at old at) pre.formed clause_size
                ∙ ap (λ (k : ℕ). pushed l k (clause_at old at) (entered l (take at old))) (indexed_length pre)))
                (inv.chains l r).1,
          );
        },
        (entering_kept, (count, inv.kept)),
      )
