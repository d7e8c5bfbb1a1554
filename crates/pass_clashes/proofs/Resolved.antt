-- A clash is cleared: the resolvent holds neither literal of the variable, so its two clauses stay where they are and are the only ones with them. Assumes nothing.
use mathlib.Core.Path.{◌≡◌, refl, sym, ap, ap₂, subst, ◌∙◌}
use mathlib.Core.Bool.{Bool, true, false, not, ◌&&◌}
use mathlib.Core.List.{List, [], ◌∷◌, ◌++◌, map, append-nil, append_assoc, Memᴰ}
use Prim.Native.Nat.{ℕ, ◌+◌, ◌-◌, ◌≤◌, ◌<◌}
use native.Mathlib.Omega.{arith}
use lib.IntN.{ℤ, pos, neg_ℤ, nat_abs}
use lib.ListN.{length, take, drop, length-append, length-drop}
use lib.Seq.{length-take-le, take-take, take_at, take-add, drop_at}
use Rattle.definition.specs.Lists.{bit, only_if}
use Rattle.definition.specs.Literals.{Clause, Formula, opposed}
use Rattle.definition.specs.Text.{Bytes}
use Rattle.definition.specs.Standing.{addition, after}
use Rattle.definition.specs.Calls.{numbers_of}
use Rattle.definition.specs.Events.{Clash, clash_cleared}
use Rattle.definition.specs.Clearing.{times, resolvent, clash_lines}
use Rattle.definition.specs.Reencoding.{lines, lines_of}
use Rattle.theory_base.proofs.Clauses.{numbers_first}
use Rattle.theory_base.proofs.Members.{holds_false}
use Rattle.theory_base.proofs.Replay.{after-++, after_additions}
use Rattle.theory_soundness.proofs.Times.{times-++, times_cons, times_nil}
use Rattle.theory_clearing.specs.Clashing.{mentions}
use Rattle.theory_clearing.proofs.Clash.{v_unresolved, negation_unresolved}
use Rattle.marks.specs.Marks.{marked, WithoutMark}
use Rattle.literals.specs.Literal.{negative, header_of, header_literals}
use Rattle.store.specs.Store.{Formed, stored, clause_at, past}
use Rattle.store.proofs.Laws.{place_within, formed_next, prefix_header, prefix_clause}
use Rattle.progress.specs.declared.Progress.{Progress}
use Rattle.progress.specs.Progress.{LogRoom, standing, Runs}
use Rattle.progress.specs.Growth.{entries, Grown}
use Rattle.progress.proofs.Laws.{lines_one, written_then, room_rest, Holds, runs_lines}
use Rattle.progress.proofs.Growing.{entries_one, grown_holds}
use Rattle.tables.specs.Sizes.{input_size}
use Rattle.index.specs.Index.{Indexed}
use Rattle.index.specs.Reading.{StandsAt}
use Rattle.index.proofs.Laws.{indexed_part}
use Rattle.pass_clashes.specs.Clashes.{clash_there}
use Rattle.pass_clashes.specs.Marking.{Unmarked}
use Rattle.pass_clashes.specs.Resolving.{added_by, parent_lines, Resolvable, Parents, ParentsGone, Ended}
use Rattle.pass_clashes.specs.Weights.{reweighed, Reweighs}
use Rattle.pass_clashes.proofs.Marking.{neither}
use Rattle.pass_clashes.proofs.Adding.{is_clash, parents}
use Rattle.pass_clashes.proofs.Weighing.{dropped_reweighs, added_reweighs}

-- a clause keeps its place in a longer store
longer_standing : (t : List ℤ) (end at : ℕ) → end ≤ length t → Formed t → StandsAt (take end t) at → StandsAt t at × (clause_at t at ≡ clause_at (take end t) at)
longer_standing t end at l f p =
    let n = length-take-le end t l in
    let h : at < end = omega (arith, p.inside, n) in
    let e = prefix_header t end at h l in
    let m : past t at ≤ end = omega (arith, n, ap header_literals e, (formed_next (take end t) at p.inside p.place.rest).0) in (
      record { inside = omega arith; place = place_within f (omega arith) (rw (take-take at end t (omega arith)) at p.place.before); stands = ap negative (sym e) ∙ p.stands },
      sym (prefix_clause t end at h l m),
    )

-- a literal that the resolvent does not hold stands as often as before
times_kept : (l : ℤ) (F : Formula) (c : Clash) → (Memᴰ l (resolvent c) → ⊥) → times l (F ++ added_by c) ≡ times l F
unfolding only_if
times_kept l F c n = go (opposed (resolvent c))
  where
    go : (b : Bool) → times l (F ++ only_if (not b) (resolvent c ∷ [])) ≡ times l F
    go true = ap (times l) (append-nil F)
    go false = omega (arith, times-++ l F (resolvent c ∷ []), times_cons l (resolvent c) [], times_nil l, ap bit (holds_false l (resolvent c) n))

clash_parts : (c : Clash) → lines (clash_cleared c ∷ []) ≡ map addition (added_by c) ++ parent_lines c
unfolding lines_of clash_lines only_if
clash_parts c = lines_one (clash_cleared c) ∙ go (opposed (resolvent c))
  where
    go : (b : Bool) → only_if (not b) (addition (resolvent c) ∷ []) ++ parent_lines c ≡ map addition (only_if (not b) (resolvent c ∷ [])) ++ parent_lines c
    go true = refl
    go false = refl

pub after_clash : (F : Formula) (c : Clash) → after F (lines (clash_cleared c ∷ [])) ≡ after F (clash_lines c)
unfolding lines_of
after_clash F c = ap (after F) (lines_one (clash_cleared c))

added_is : (c : Clash) → opposed (resolvent c) ≡ false → added_by c ≡ resolvent c ∷ []
unfolding only_if
added_is c o = rw o refl

module _ {work : List ℤ} {newest : List ℕ} {p : Progress} {v x y : ℕ} (r : Resolvable work newest p v x y) where
  abbrev s : List ℤ
  s = take p.end work

  abbrev c : Clash
  c = clash_there s v x y

  module _ {new : List ℤ} {later : List ℕ} {log mid_log : Bytes} {q : Progress} (d : Grown (added_by c) work newest log p new later mid_log q) where
    abbrev t : List ℤ
    t = take q.end new

    there : Holds (stored s ++ added_by c) new q.end
    there = grown_holds d r.good.formed

    size : length t ≡ q.end
    size = length-take-le q.end new there.inside

    kept : (at : ℕ) → StandsAt s at → StandsAt t at × (clause_at t at ≡ clause_at s at)
    kept at k =
        let n : length s ≡ p.end = length-take-le p.end work r.good.inside in
        let e : take p.end t ≡ s = ap (take p.end) d.filled ∙ take_at s (entries (added_by c)) p.end n in
        subst (λ (z : List ℤ). StandsAt t at × (clause_at t at ≡ clause_at z at)) e (longer_standing t p.end at (omega (arith, size, d.next)) there.formed (rw e k))

    -- a resolvent that is added stands behind what was filled
    module _ (o : opposed (resolvent c) ≡ false) where
      pub resolvent_inside : (p.end + 1 ≤ q.end) × (q.end ≤ length new)
      resolvent_inside = omega (arith, d.next, ap numbers_of (added_is c o), numbers_first (resolvent c) [], there.inside)

      pub resolvent_there : take (q.end - (p.end + 1)) (drop (p.end + 1) new) ≡ resolvent c
      resolvent_there =
          let first = p.end + 1 in
          let n = q.end - first in
          let header = header_of (length (resolvent c)) ∷ [] in
          let e : first + n ≡ q.end = omega (arith, resolvent_inside) in
          let k : length (s ++ header) ≡ first = length-append s header ∙ ap (λ (i : ℕ). i + 1) (length-take-le p.end work r.good.inside) in
          sym (drop_at (take first new) (take n (drop first new)) first (length-take-le first new (omega (arith, resolvent_inside))))
          ∙ ap (drop first) (sym (take-add first n new) ∙ ap (λ (i : ℕ). take i new) e ∙ d.filled ∙ ap (λ (f : Formula). s ++ entries f) (added_is c o) ∙ ap (λ (l : List ℤ). s ++ l) (entries_one (resolvent c)) ∙ sym (append_assoc s header (resolvent c)))
          ∙ drop_at (s ++ header) (resolvent c) first k

    one_kept : StandsAt t x × (clause_at t x ≡ c.one)
    one_kept = kept x (parents r).one_stands

    other_kept : StandsAt t y × (clause_at t y ≡ c.other)
    other_kept = kept y (parents r).other_stands

    same_clash : clash_there t v x y ≡ c
    same_clash = ap₂ (λ (x y : Clause). record { v = pos v; one = x; other = y }) one_kept.1 other_kept.1

    pub parents_kept : Parents t v x y
    parents_kept = record {
      one_stands = one_kept.0;
      one_holds = rw one_kept.1 (parents r).one_holds;
      one_once = ap (times (pos v)) there.stands ∙ times_kept (pos v) (stored s) c (v_unresolved (stored s) c r.good.proper (is_clash r)) ∙ (parents r).one_once;
      other_stands = other_kept.0;
      other_holds = rw other_kept.1 (parents r).other_holds;
      other_once = ap (times (neg_ℤ (pos v))) there.stands ∙ times_kept (neg_ℤ (pos v)) (stored s) c (negation_unresolved (stored s) c r.good.proper (is_clash r)) ∙ (parents r).other_once;
      apart = λ i. (parents r).apart (rw one_kept.1 at i);
      small = (parents r).small;
      one_proper = rw one_kept.1 (parents r).one_proper;
      other_proper = rw other_kept.1 (parents r).other_proper;
      other_fits = rw other_kept.1 (parents r).other_fits;
    }

    pub room_kept : LogRoom (parent_lines (clash_there t v x y)) q
    room_kept = subst (λ (e : Clash). LogRoom (parent_lines e) q) (sym same_clash) (room_rest (map addition (added_by c)) (parent_lines c) (rw (clash_parts c) at r.good.room) d.written)

    pub resolved : {u : List ℤ} {new_log : Bytes} {w : Progress} → length u ≡ length t → length new ≡ length work →
        ParentsGone (clash_there t v x y) t mid_log q u new_log w → Runs (clash_cleared c ∷ []) work log p (u ++ drop q.end new) new_log w
    resolved {u} {new_log} {w} n m g =
        let o = length-append u (drop q.end new) in
        let k : take w.end (u ++ drop q.end new) ≡ u = take_at u (drop q.end new) w.end (omega (arith, n, size, g.kept)) in
        let h : ParentsGone c t mid_log q u new_log w = subst (λ (e : Clash). ParentsGone e t mid_log q u new_log w) same_clash g in
        let l = clash_parts c in
        runs_lines (omega (arith, o, n, m, size, length-drop q.end new, there.inside))
        (record { inside = omega (arith, o, n, size, g.kept); formed = rw k g.formed; stands = ap stored k })
        (h.stands ∙ ap (λ (f : Formula). after f (parent_lines c)) (there.stands ∙ sym (after_additions (stored s) (added_by c))) ∙ sym (after-++ (stored s) (map addition (added_by c)) (parent_lines c)) ∙ ap (after (stored s)) (sym l))
        (rw l (written_then d.written h.written))

    pub resolved_indexed : {u : List ℤ} {new_log : Bytes} {w : Progress} → ParentsGone (clash_there t v x y) t mid_log q u new_log w → Indexed (u ++ drop q.end new) w.end later
    resolved_indexed {u} g = subst (λ (k : ℕ). Indexed (u ++ drop q.end new) k later) (sym g.kept) (indexed_part d.indexed g.same_entries)

  -- the weights
  module _ {log new_log : Bytes} {out : List ℤ} {z : Progress} (g : Runs (clash_cleared c ∷ []) work log p out new_log z) where
    stands_then : standing out z ≡ after (stored s) (clash_lines c)
    stands_then = g.stands ∙ after_clash (stored s) c

    pub reweighs_dropped : (w : List ℕ) → opposed (resolvent c) ≡ true → Reweighs (clash_cleared c ∷ []) (stored s) w (standing out z) w
    reweighs_dropped w o = rw stands_then (dropped_reweighs (stored s) v c.one c.other r.good.proper r.good.fits (is_clash r) w o)

    pub reweighs_added : (w : List ℕ) {u : List ℕ} {d : Clause} → length w ≡ input_size → d ≡ resolvent c → u ≡ reweighed w d v → Reweighs (clash_cleared c ∷ []) (stored s) w (standing out z) u
    reweighs_added w n e h = rw (stands_then, h, e) (added_reweighs (stored s) v c.one c.other r.good.proper r.good.fits (is_clash r) w n)

-- ---- the marks of the clashes that end
module _ (c : Clash) (m new : List ℕ) where
  pub ended_dropped : (mid : List ℕ) → opposed (resolvent c) ≡ true → Unmarked m c.one mid → Unmarked mid c.other new → Ended c m new
  ended_dropped mid o a b v = rw o (b v ∙ ap (λ (k : Bool). not (mentions c.other v) && k) (a v) ∙ neither (mentions c.one v) (mentions c.other v) (marked m v))

  pub ended_added : opposed (resolvent c) ≡ false → WithoutMark m (nat_abs c.v) new → Ended c m new
  ended_added o a v = rw o (a v)
