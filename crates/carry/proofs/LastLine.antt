-- The last of loaded lines: the number behind it says where it starts.
use mathlib.Core.Path.{◌≡◌, sym, ap, ap₂, subst, ◌∙◌}
use mathlib.Core.List.{List, [], ◌∷◌, ◌++◌}
use Prim.Native.Nat.{ℕ, zero, suc, ◌+◌, ◌-◌, ◌≤◌, ◌<◌}
use native.Mathlib.Omega.{arith}
use lib.IntN.{ℤ, pos}
use lib.ListN.{length, take, drop}
use lib.Seq.{get_or-take, take-take, length-take-le}
use Rattle.definition.specs.Standing.{Line}
use Rattle.theory_base.proofs.Loops.{by_order}
use Rattle.literals.specs.Literal.{negative, header_literals}
use Rattle.store.specs.Store.{size_at, deleted_at}
use Rattle.store.proofs.Laws.{prefix_clause}
use Rattle.drat.specs.Lines.{line_of}
use Rattle.drat.specs.Loaded.{LoadedFrom, Loaded, lines_from, line_at}
use Rattle.drat.proofs.Loaded.{lines_skip, loaded_skip, lines_end}
use Rattle.carry.specs.Lines.{LastLine}

-- it starts at q
record LastFrom (k : ℕ) (s : List ℤ) : Type 0 where
  pub q : ℕ
  pub far : k ≤ q
  pub whole : q + (size_at s (length s - 1) + 2) ≡ length s
  pub same : size_at s q ≡ size_at s (length s - 1)
  pub before : LoadedFrom k (take q s)
  pub lines : lines_from k s ≡ lines_from k (take q s) ++ (line_at s q ∷ [])

deeper : (x : ℤ) (s : List ℤ) (q : ℕ) → line_at (x ∷ s) (suc q) ≡ line_at s q
deeper x s q = let e : suc q + 1 ≡ suc (q + 1) = omega arith in ap (λ (k : ℕ). line_of (deleted_at s q) (take (size_at s q) (drop k (x ∷ s)))) e

-- the size at the end, with an element more in front
end_deeper : (x : ℤ) (s : List ℤ) → 0 < length s → size_at (x ∷ s) (length (x ∷ s) - 1) ≡ size_at s (length s - 1)
end_deeper x s h = let e : length (x ∷ s) - 1 ≡ suc (length s - 1) = omega arith in ap (size_at (x ∷ s)) e

last_here : (h : ℤ) (s : List ℤ) → size_at s (header_literals h) ≡ header_literals h → length s ≡ suc (header_literals h) → LastFrom 0 (h ∷ s)
unfolding lines_from
last_here h s e n =
    let z : size_at (h ∷ s) (length (h ∷ s) - 1) ≡ header_literals h = end_deeper h s (omega arith) ∙ ap (size_at s) (let i : length s - 1 ≡ header_literals h = omega arith in i) ∙ e in
    record {
      q = 0;
      far = omega arith;
      whole = omega arith;
      same = sym z;
      before = tt;
      lines = ap (λ (xs : List Line). line_of (negative h) (take (header_literals h) s) ∷ xs) (lines_skip (suc (header_literals h)) s ∙ lines_end s (suc (header_literals h)) (omega arith));
    }

last_later : (h : ℤ) (s : List ℤ) → size_at s (header_literals h) ≡ header_literals h → 0 < length s → LastFrom (suc (header_literals h)) s → LastFrom 0 (h ∷ s)
unfolding lines_from
last_later h s e n r =
    let z = end_deeper h s n in
    let t : take (header_literals h) (take r.q s) ≡ take (header_literals h) s = take-take (header_literals h) r.q s (omega (arith, r.far)) in
    record {
      q = suc r.q;
      far = omega arith;
      whole = omega (arith, r.whole);
      same = r.same ∙ sym z;
      before = (ap header_literals (get_or-take r.q s (header_literals h) (pos 0) (omega (arith, r.far))) ∙ e, r.before);
      lines = rw (t, deeper h s r.q) (ap (λ (xs : List Line). line_of (negative h) (take (header_literals h) s) ∷ xs) r.lines);
    }

last_deeper : (k : ℕ) (x : ℤ) (s : List ℤ) → 0 < length s → LastFrom k s → LastFrom (suc k) (x ∷ s)
unfolding lines_from
last_deeper k x s n r =
    let z = end_deeper x s n in
    record { q = suc r.q; far = omega (arith, r.far); whole = omega (arith, r.whole); same = r.same ∙ sym z; before = r.before; lines = rw (deeper x s r.q) r.lines }

last_from : (k : ℕ) (s : List ℤ) → k < length s → LoadedFrom k s → LastFrom k s
last_from k [] h f = absurd (omega arith)
last_from zero (h ∷ s) l f =
    let m = loaded_skip (suc (header_literals h)) s f.1 in
    by_order (suc (header_literals h)) (length s) m.0 (λ e. last_here h s f.0 (sym e)) (λ i. last_later h s f.0 (omega arith) (last_from (suc (header_literals h)) s i f.1))
last_from (suc k) (x ∷ s) l f = last_deeper k x s (omega arith) (last_from k s (omega arith) f)

-- the last line before a place
module _ (s : List ℤ) (end : ℕ) (h : 0 < end) (l : end ≤ length s) (f : Loaded (take end s)) where
  found : LastFrom 0 (take end s)
  found = last_from 0 (take end s) (omega (arith, length-take-le end s l)) f

  end_size : size_at (take end s) (length (take end s) - 1) ≡ size_at s (end - 1)
  end_size = ap (λ (k : ℕ). size_at (take end s) (k - 1)) (length-take-le end s l) ∙ ap header_literals (get_or-take end s (end - 1) (pos 0) (omega arith))

  -- the size at the end says where it starts
  pub last_fits : size_at s (end - 1) + 2 ≤ end
  last_fits = omega (arith, found.whole, end_size, length-take-le end s l)

  starts : found.q ≡ end - (size_at s (end - 1) + 2)
  starts = omega (arith, found.whole, end_size, length-take-le end s l)

  size_there : size_at (take end s) found.q ≡ size_at s found.q
  size_there = ap header_literals (get_or-take end s found.q (pos 0) (omega (arith, last_fits, starts)))

  same_line : line_at (take end s) found.q ≡ line_at s found.q
  same_line = ap₂ line_of (ap negative (get_or-take end s found.q (pos 0) (omega (arith, last_fits, starts)))) (prefix_clause s end found.q (omega (arith, last_fits, starts)) l (omega (arith, last_fits, starts, size_there, found.same, end_size)))

  last_found : LastLine s end found.q
  last_found = record {
    ends = omega (arith, last_fits, starts, size_there, found.same, end_size);
    before = rw (take-take found.q end s (omega (arith, last_fits, starts))) at found.before;
    lines = rw (take-take found.q end s (omega (arith, last_fits, starts)), same_line) at found.lines;
  }

  pub last_line : (r : ℕ) → r ≡ end - (size_at s (end - 1) + 2) → LastLine s end r
  last_line r e = subst (λ (k : ℕ). LastLine s end k) (starts ∙ sym e) last_found
