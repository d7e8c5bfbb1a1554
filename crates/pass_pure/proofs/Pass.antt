-- The loop over the store: the events so far and those of the rest make up the pass. Assumes nothing.
use mathlib.Core.Path.{◌≡◌, refl, sym, ap, subst, ◌∙◌}
use mathlib.Core.Bool.{true, false}
use mathlib.Core.List.Memᴰ
use mathlib.Core.List.Memᴰ.{head as here}
use mathlib.Core.List.{List, [], ◌∷◌, ◌++◌, append-nil, append_assoc, Memᴰ}
use mathlib.Core.Option.{Option, some, none}
use Prim.Native.Nat.{ℕ, ◌≤◌, ◌<◌, ◌^◌}
use native.Mathlib.Omega.{arith}
use lib.IntN.{ℤ, neg_ℤ}
use lib.ListN.{length, take, drop, length-set, replicate}
use lib.Seq.{take_all, length-take-le}
use Rattle.definition.specs.Lists.{for_each}
use Rattle.definition.specs.Literals.{Clause, Formula, with_first}
use Rattle.definition.specs.Text.{Bytes}
use Rattle.definition.specs.Standing.{Line, deletion, changed, after}
use Rattle.definition.specs.Events.{Event, pure_deleted}
use Rattle.definition.specs.Clearing.{times, pure_literal, pure_lines, pure_next, clear_pure}
use Rattle.definition.specs.Reencoding.{lines, lines_of}
use Rattle.theory_base.specs.Clauses.{Fits}
use Rattle.theory_base.proofs.Tests.{by_test}
use Rattle.theory_base.proofs.Removal.{Removed, removed_take_out, mem_removed}
use Rattle.theory_base.proofs.Replay.{after-++, lines-++}
use Rattle.theory_soundness.proofs.Times.{times_removed, times_at, unique_at, unique_some, at_unique}
use Rattle.theory_clearing.specs.Clashes.{ClashFree}
use Rattle.theory_clearing.proofs.Pure.{IsPure, pure_some, pure_removed}
use Rattle.theory_clearing.proofs.Pass.{pure_at_start}
use Rattle.tables.specs.Sizes.{input_reach, input_size}
use Rattle.tables.specs.Entries.{tallied_all}
use Rattle.tables.specs.Counts.{Counts}
use Rattle.store.specs.Store.{Formed, stored, deleted_at, clause_at, past, marked, Place}
use Rattle.store.proofs.Laws.{place_start, place_formed, place_next, stored_end, stored_around, rest_deleted, rest_stands, marked_place, marked_past, marked_behind, marked_stored}
use Rattle.index.specs.Index.{Indexed, SameEntries, KeepsIndex}
use Rattle.index.proofs.Walk.{marked_same, same_refl}
use Rattle.index.proofs.Laws.{indexed_part}
use Rattle.progress.specs.declared.Progress.{Progress}
use Rattle.progress.specs.Progress.{Written, LogRoom, standing, Good, Runs}
use Rattle.progress.proofs.Laws.{lines_none, lines_one, written_none, written_then, room_rest, runs_lines, standing_part, good_counts, good_part}
use Rattle.std.proofs.Common.{Some, None}
use Rattle.std.proofs.Common.{Option as Answer}
use Rattle.pass_pure.specs.Pass.{pure_by, pure_at, Step, Passable}
use Rattle.pass_pure.proofs.Tests.{shown, pure_literal_is}

-- the events of a clause, tested where F stands
abbrev pub pure_of : Formula → Clause → List Event
pure_of F c = pure_next c [] [] (pure_literal F c)

-- the clauses before `at` are gone through
pub record Passing (F : Formula) (old_log : Bytes) (old : Progress) (s : List ℤ) (at : ℕ) (log : Bytes) (q : Progress) : Type 0 where
  pub events : List Event
  pub place : Place s at
  pub inside : (c : Clause) → Memᴰ c (stored s) → Memᴰ c F
  pub fewer : (x : ℤ) → times x (stored s) ≤ times x F
  pub rest : events ++ for_each (stored (drop at s)) (pure_of F) ≡ clear_pure F
  pub written : Written (lines events) old_log old log q
  pub stands : stored s ≡ after F (lines events)
  pub kept : q.end ≡ old.end

pub passing_start : {F : Formula} (s : List ℤ) (log : Bytes) (p : Progress) → F ≡ stored s → Formed s → ClashFree F → Passing F log p s 0 log p
unfolding after
passing_start {F} s log p e f n = record {
  events = [];
  place = place_start f;
  inside = λ c i. rw e i;
  fewer = λ x. rw e (omega arith);
  rest = ap (λ (g : Formula). for_each g (pure_of F)) (sym e) ∙ sym (pure_at_start F n);
  written = rw lines_none (written_none log p p refl refl);
  stands = sym e ∙ ap (after F) (sym lines_none);
  kept = refl;
}

module _ {F : Formula} {x y : Bytes} {p q : Progress} {s : List ℤ} {at : ℕ} (i : Passing F x p s at y q) (h : at < length s) where
  -- the clause there stays
  passing_kept : for_each (stored (drop (past s at) s)) (pure_of F) ≡ for_each (stored (drop at s)) (pure_of F) → Passing F x p s (past s at) y q
  passing_kept e = record {
    events = i.events;
    place = place_next s at h i.place;
    inside = i.inside;
    fewer = i.fewer;
    rest = ap (λ (r : List Event). i.events ++ r) e ∙ i.rest;
    written = i.written;
    stands = i.stands;
    kept = i.kept;
  }

  -- the clause there is deleted
  module _ (d : deleted_at s at ≡ false) (l : ℤ) (e : pure_literal F (clause_at s at) ≡ some l) where
    abbrev X : Formula
    X = stored (take at s)

    abbrev R : Formula
    R = stored (drop (past s at) s)

    abbrev c : Clause
    c = clause_at s at

    around : stored s ≡ X ++ (c ∷ R)
    around = stored_around s at h i.place d

    stands_there : Memᴰ c (X ++ (c ∷ R))
    stands_there = Memᴰ.append_right X (here refl)

    fewer_there : (z : ℤ) → times z (X ++ (c ∷ R)) ≤ times z F
    fewer_there z = rw (ap (times z) around) at (i.fewer z)

    at_start : IsPure F c l
    at_start = pure_some F c l (i.inside c (rw around stands_there)) e

    there : IsPure (X ++ (c ∷ R)) c l
    there = record {
      stands = stands_there;
      literal = at_start.literal;
      alone = at_unique (X ++ (c ∷ R)) c (unique_some F c at_start.alone) (λ z j. omega (arith, fewer_there z, unique_at F c at_start.alone z j, times_at z stands_there j));
      no_choice = at_start.no_choice;
      nowhere = omega (arith, fewer_there (neg_ℤ l), at_start.nowhere);
    }

    removed : Removed (with_first l c) (X ++ (c ∷ R)) (X ++ R)
    removed = pure_removed X R c l there

    left : stored (marked s at) ≡ X ++ R
    left = marked_stored s at h i.place d

    new_place : Place (marked s at) (past s at)
    new_place = subst (λ (k : ℕ). Place (marked s at) k) (marked_past s at h) (place_next (marked s at) at (rw length-set h) (marked_place s at h i.place))

    more : (i.events ++ (pure_deleted l c ∷ [])) ++ for_each (stored (drop (past s at) (marked s at))) (pure_of F) ≡ clear_pure F
    unfolding for_each pure_next
    more =
        append_assoc i.events (pure_deleted l c ∷ []) (for_each (stored (drop (past s at) (marked s at))) (pure_of F))
        ∙ ap (λ (r : List ℤ). i.events ++ (pure_deleted l c ∷ for_each (stored r) (pure_of F))) (marked_behind s at h (past s at) (omega arith))
        ∙ ap (λ (r : List Event). i.events ++ r) (sym (ap (λ (f : Formula). for_each f (pure_of F)) (rest_stands s at h d) ∙ rw e refl))
        ∙ i.rest

    line : lines (i.events ++ (pure_deleted l c ∷ [])) ≡ lines i.events ++ (deletion (with_first l c) ∷ [])
    unfolding lines_of pure_lines
    line = lines-++ i.events (pure_deleted l c ∷ []) ∙ ap (λ (r : List Line). lines i.events ++ r) (lines_one (pure_deleted l c))

    after_line : stored (marked s at) ≡ after F (lines (i.events ++ (pure_deleted l c ∷ [])))
    unfolding after changed
    after_line =
        left ∙ sym (removed_take_out removed)
        ∙ sym (ap (after F) line ∙ after-++ F (lines i.events) (deletion (with_first l c) ∷ []) ∙ ap (λ (f : Formula). after f (deletion (with_first l c) ∷ [])) (sym i.stands ∙ around))

    passing_deleted : {z : Bytes} {r : Progress} → Written (deletion (with_first l c) ∷ []) y q z r → r.end ≡ q.end → Passing F x p (marked s at) (past s at) z r
    passing_deleted w k = record {
      events = i.events ++ (pure_deleted l c ∷ []);
      place = new_place;
      inside = λ b j. i.inside b (rw around (mem_removed removed (rw left at j)));
      fewer = λ b. rw left (omega (arith, times_removed b removed, fewer_there b));
      rest = more;
      written = rw line (written_then i.written w);
      stands = after_line;
      kept = k ∙ i.kept;
    }

  -- only the clause's mark changes
  module _ (t : List ℕ) (u : List ℤ) (z : Bytes) (r : Progress) where
    marked_or_same : (o : Answer ℤ) → Step o s at y q u z r → SameEntries s u
    marked_or_same None w = rw w.0 (same_refl s)
    marked_or_same (Some l) w = rw w.0 (marked_same i.place h)

    pub step_same : Step (pure_at t s at) s at y q u z r → SameEntries s u
    step_same w = marked_or_same (pure_at t s at) w

  module _ (t : List ℕ) (f : Fits input_reach F) (k : Counts input_reach t F) (u : List ℤ) (z : Bytes) (r : Progress) where
    by_literal : deleted_at s at ≡ false → (o : Option ℤ) → pure_literal F (clause_at s at) ≡ o → Step (shown o) s at y q u z r → Passing F x p u (past s at) z r
    unfolding for_each pure_next
    by_literal d none e w =
        rw (w.0, w.1, w.2) (passing_kept (sym (ap (λ (g : Formula). for_each g (pure_of F)) (rest_stands s at h d) ∙ rw e refl)))
    by_literal d (some l) e w = rw w.0 (passing_deleted d l e w.1 w.2)

    same_literal : deleted_at s at ≡ false → pure_by t (clause_at s at) ≡ shown (pure_literal F (clause_at s at))
    same_literal d =
        pure_literal_is input_reach (omega arith) t F k (clause_at s at)
        (λ b j. (f (clause_at s at) (i.inside (clause_at s at) (rw (stored_around s at h i.place d) (Memᴰ.append_right (stored (take at s)) (here refl)))) b j).1)

    passing_stays : deleted_at s at ≡ true → Step None s at y q u z r → Passing F x p u (past s at) z r
    passing_stays d w = rw (w.0, w.1, w.2) (passing_kept (ap (λ (g : Formula). for_each g (pure_of F)) (sym (rest_deleted s at h d))))

    pub passing_step : Step (pure_at t s at) s at y q u z r → Passing F x p u (past s at) z r
    passing_step w =
        by_test (deleted_at s at) (λ d. passing_stays d (rw d at w))
        (λ d. by_literal d (pure_literal F (clause_at s at)) refl (rw (same_literal d) at (rw d at w)))

-- all clauses are gone through
pub passing_end : (work : List ℤ) {x y : Bytes} {p q : Progress} {s : List ℤ} {at : ℕ} → Passing (standing work p) x p s at y q →
    length work ≡ p.end → length s ≡ length work → length s ≤ at → Runs (clear_pure (standing work p)) work x p s y q
unfolding for_each
passing_end work {p = p} {q = q} {s = s} {at = at} i w n h =
    let F = standing work p in
    let e : i.events ≡ clear_pure F = sym (append-nil i.events) ∙ ap (λ (f : Formula). i.events ++ for_each f (pure_of F)) (sym (stored_end s at h)) ∙ i.rest in
    let t : take q.end s ≡ s = take_all q.end s (omega (arith, i.kept)) in
    runs_lines n (record { inside = omega (arith, i.kept); formed = rw t (place_formed i.place); stands = ap stored t })
    (i.stands ∙ ap (λ (es : List Event). after F (lines es)) e) (rw e at i.written)

-- the log has room for the next line
pub passing_room : {F : Formula} {x y : Bytes} {p q : Progress} {s : List ℤ} {at : ℕ} → LogRoom (lines (clear_pure F)) p → Passing F x p s at y q → (q.at < 2 ^ 62) × (q.lines < 2 ^ 62)
passing_room {F} {s = s} {at = at} b i =
    let others = for_each (stored (drop at s)) (pure_of F) in
    let e : lines (clear_pure F) ≡ lines i.events ++ lines others = ap lines (sym i.rest) ∙ lines-++ i.events others in
    let r = room_rest (lines i.events) (lines others) (rw e at b) i.written in
    (omega (arith, r.text), omega (arith, r.count))

-- ---- the workspace's store

-- all of a workspace
pub standing_all : (work : List ℤ) (p : Progress) → length work ≡ p.end → standing work p ≡ stored work
standing_all work p e = ap stored (take_all p.end work (omega arith))

pub passable : {work : List ℤ} {t : List ℕ} {p : Progress} → Good input_reach (clear_pure (standing work p)) work p → ClashFree (standing work p) →
    t ≡ tallied_all (replicate input_size 0) (standing work p) → Passable (take p.end work) t p
passable {work} {t} {p} g f e =
    let s = take p.end work in
    let k = sym (standing_part work p) in record {
      good = subst (λ (F : Formula). Good input_reach (clear_pure F) s p) k (good_part g);
      free = subst (λ (F : Formula). ClashFree F) k f;
      table = subst (λ (F : Formula). Counts input_reach t F) k (good_counts g e);
      whole = length-take-le p.end work g.inside;
    }

-- its first elements changed only in marks
pub part_keeps_index : (work part : List ℤ) (end : ℕ) {n : ℕ} → n ≡ end → SameEntries (take end work) part → KeepsIndex work end (part ++ drop end work) n
part_keeps_index work part end e s newest i = subst (λ (k : ℕ). Indexed (part ++ drop end work) k newest) (sym e) (indexed_part i s)
