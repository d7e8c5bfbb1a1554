-- Lines replayed over a store in the same slice: one line, the loop over the lines, and the same over a copy of the formula with an index.
use mathlib.Core.Path.{◌≡◌, refl, sym, ap, ◌∙◌}
use mathlib.Core.Bool.{true, false}
use mathlib.Core.List.{List, [], ◌∷◌, ◌++◌}
use Prim.Native.Nat.{ℕ, ◌+◌, ◌-◌, ◌/◌, ◌≤◌, ◌<◌}
use native.Mathlib.Omega.{arith}
use lib.IntN.{ℤ, pos}
use lib.ListN.{length, take, drop, length-take, length-drop, replicate}
use lib.Seq.{sets, length-sets, length-take-le, get_or-take, take-take}
use Rattle.definition.specs.Checked.{Checked, fault, refuse_if, through}
use Rattle.definition.specs.Literals.{Clause, Formula}
use Rattle.definition.specs.LogReading.{numbers_in}
use Rattle.definition.specs.Standing.{addition, deletion, literals, take_out, changed, replay_line, replay}
use Rattle.literals.specs.Literal.{largest, negative, header_literals}
use Rattle.store.specs.Store.{Formed, stored, header_at, size_at, deleted_at, clause_at, marked, place_of}
use Rattle.std.specs.Prelude.{Option, Some, None}
use Rattle.store.proofs.Laws.{added_formed, added_stored, prefix_clause}
use Rattle.store.proofs.Finding.{hit, deleted_hit, deleted_miss}
use Rattle.drat.specs.Lines.{line_of}
use Rattle.drat.specs.Loaded.{Loaded, lines_in, line_at, past_line}
use Rattle.theory_base.specs.Slices.{between}
use Rattle.replay.specs.Replayed.{Replayable, LaidOut, ClauseAdded, Replays}
use Rattle.replay.specs.declared.Layout.{Layout}
use Rattle.replay.specs.Index.{keys, Linkable, Linked, store_in}
use Rattle.theory_base.proofs.Slices.{sets_before}
use Rattle.theory_base.proofs.Parts.{drop_take, length_between, between_none, sets_between, between_same}
use Rattle.theory_base.proofs.Lines.{numbers_in_cons, replay_cons, replay_refused}
use Rattle.replay.proofs.Linking.{marked_between}
use Rattle.drat.proofs.Loaded.{lines_end, lines_next, loaded_next, line_deletion, line_addition, line_literals}

-- ---- one line

pub addition_replays : (old new : List ℤ) (l : Layout) (r : ℕ) (c : Clause) → l.store ≤ l.end → length c ≤ largest → Formed (store_in l old) → ClauseAdded old l c r new
    → Replays (replay_line (stored (store_in l old)) (addition c)) l.store (l.end + (length c + 1)) (Some r) new
unfolding replay_line changed
addition_replays old new l r c o small f a = (
  stored (store_in l old) ++ (c ∷ []),
  refl,
  record {
    order = omega (arith, a.next);
    small = omega (arith, a.next);
    formed = rw a.filled (added_formed (store_in l old) c f small);
    same = ap stored a.filled ∙ added_stored (store_in l old) c f small;
  },
)

-- by the place of the clause that was found, or not
module _ (old : List ℤ) (l : Layout) (c : Clause) (o : l.store ≤ l.end) (i : l.end ≤ length old) (f : Formed (store_in l old)) where
  pub found_inside : (p : ℕ) → Some p ≡ place_of c (store_in l old) → p < l.end - l.store
  found_inside p z = omega (arith, (hit c (store_in l old) p (sym z)).inside, length_between l.store l.end old i)

  pub deletion_found : (new : List ℤ) (p : ℕ) → Some p ≡ place_of c (store_in l old) → new ≡ marked old (l.store + p)
      → Replays (replay_line (stored (store_in l old)) (deletion c)) l.store l.end (Some l.end) new
  unfolding replay_line changed refuse_if
  deletion_found new p z w =
      let b : store_in l new ≡ marked (store_in l old) p = ap (store_in l) w ∙ marked_between l.store l.end old p (found_inside p z) in
      let d = deleted_hit c (store_in l old) (store_in l new) p f (sym z) b in
      (take_out c (stored (store_in l old)), rw (sym d.found), record { order = o; small = omega arith; formed = d.formed; same = d.left })

  pub deletion_missing : None ≡ place_of c (store_in l old) → replay_line (stored (store_in l old)) (deletion c) ≡ fault 32
  unfolding replay_line refuse_if
  deletion_missing z = let d = deleted_miss c (store_in l old) f (sym z) in rw (sym d.found)

-- ---- the line at a place

-- a greater bound
replays_within : (o : Checked Formula) (store a b : ℕ) (r : Option ℕ) (work : List ℤ) → a ≤ b → Replays o store a r work → Replays o store b r work
replays_within o store a b (Some end) work h p = (p.0, p.1, record { order = p.2.order; small = omega (arith, p.2.small); formed = p.2.formed; same = p.2.same })
replays_within o store a b None work h p = p

-- by its header an addition or a deletion of its clause
module _ (f : Formula) (s : List ℤ) (at store a b : ℕ) (r : Option ℕ) (work : List ℤ) (h : a ≤ b) where
  pub replays_addition : deleted_at s at ≡ false → Replays (replay_line f (addition (clause_at s at))) store a r work → Replays (replay_line f (line_at s at)) store b r work
  replays_addition e p = rw (line_addition s at e) (replays_within (replay_line f (addition (clause_at s at))) store a b r work h p)

  pub replays_deletion : deleted_at s at ≡ true → Replays (replay_line f (deletion (clause_at s at))) store a r work → Replays (replay_line f (line_at s at)) store b r work
  replays_deletion e p = rw (line_deletion s at e) (replays_within (replay_line f (deletion (clause_at s at))) store a b r work h p)

-- ---- the loop of `replay_lines`: the lines before `at` are replayed, what stands after them lies before `end`, and the numbers of the lines from `at` on fit before the links

pub record Replaying (old work : List ℤ) (heads : List ℕ) (lines : ℕ) (l : Layout) (end at : ℕ) : Type 0 where
  pub inside : at ≤ l.store
  pub room : end + numbers_in (lines_in (drop at (take l.store old))) ≤ l.links
  pub len : length work ≡ length old
  pub kept : take l.store work ≡ take l.store old
  pub loaded : Loaded (drop at (take l.store old))
  pub linked : Linked work heads (record l { end = end })
  pub same : replay (stored (between l.store end work)) (lines_in (drop at (take l.store old))) ≡ replay (stored (store_in l old)) (lines_in (between lines l.store old))

pub replaying_start : {work : List ℤ} {heads : List ℕ} {lines : ℕ} {l : Layout} → LaidOut work lines l → l.end + numbers_in (lines_in (between lines l.store work)) ≤ l.links → Linked work heads l
    → Replaying work work heads lines l l.end lines
replaying_start {work} {heads} {lines} {l} p n i = record {
  inside = p.before;
  room = rw (drop_take lines l.store work) n;
  len = refl;
  kept = refl;
  loaded = rw (drop_take lines l.store work) p.loaded;
  linked = i;
  same = ap (λ (s : List ℤ). replay (stored (store_in l work)) (lines_in s)) (drop_take lines l.store work);
}

module _ {old work : List ℤ} {heads : List ℕ} {lines : ℕ} {l : Layout} {end at : ℕ} (i : Replaying old work heads lines l end at) (h : at < l.store) (p : LaidOut old lines l) where
  abbrev front : List ℤ
  front = take l.store old

  front_length : length front ≡ l.store
  front_length = length-take-le l.store old (omega (arith, p.room, p.before, p.behind))

  next : (past_line front at ≤ length front) × Loaded (drop (past_line front at) front)
  next = loaded_next front at (omega (arith, front_length)) i.loaded

  same_header : header_at front at ≡ header_at work at
  same_header = ap (λ (s : List ℤ). header_at s at) (sym i.kept) ∙ get_or-take l.store work at (pos 0) h

  pub line_fits : past_line work at ≤ l.store
  line_fits = omega (arith, next.0, front_length, ap (λ (x : ℤ). header_literals x) same_header)

  same_line : line_at front at ≡ line_at work at
  same_line =
      let o : l.store ≤ length work = omega (arith, i.len, p.room, p.before, p.behind) in
      ap (λ (s : List ℤ). line_at s at) (sym i.kept)
      ∙ ap (λ (d : Clause). line_of (deleted_at (take l.store work) at) d) (prefix_clause work l.store at h o (omega (arith, line_fits)))
      ∙ ap (λ (x : ℤ). line_of (negative x) (clause_at work at)) (get_or-take l.store work at (pos 0) h)

  -- the first of the lines that are left
  next_line : lines_in (drop at front) ≡ line_at work at ∷ lines_in (drop (past_line work at) front)
  next_line = lines_next front at (omega (arith, front_length)) ∙ rw (same_line, same_header) refl

  -- its numbers and those of what is left
  next_numbers : numbers_in (lines_in (drop at front)) ≡ (size_at work at + 1) + numbers_in (lines_in (drop (past_line work at) front))
  next_numbers =
      let n : length (literals (line_at work at)) ≡ size_at work at = ap length (line_literals (deleted_at work at) (clause_at work at)) ∙ length-take-le (size_at work at) (drop (at + 1) work) (omega (arith, line_fits, i.len, p.room, p.behind, length-drop (at + 1) work)) in
      ap numbers_in next_line ∙ numbers_in_cons (line_at work at) (lines_in (drop (past_line work at) front)) ∙ ap (λ (k : ℕ). (k + 1) + numbers_in (lines_in (drop (past_line work at) front))) n

  pub line_room : end + (size_at work at + 1) ≤ l.links
  line_room = omega (arith, i.room, next_numbers)

  line_first : replay (stored (between l.store end work)) (line_at work at ∷ lines_in (drop (past_line work at) front)) ≡ replay (stored (store_in l old)) (lines_in (between lines l.store old))
  line_first = ap (replay (stored (between l.store end work))) (sym next_line) ∙ i.same

  pub replaying_step : (new : List ℤ) (table : List ℕ) (k past : ℕ) → length new ≡ length work → take l.store new ≡ take l.store work → past ≡ past_line work at
      → Replays (replay_line (stored (between l.store end work)) (line_at work at)) l.store (end + (size_at work at + 1)) (Some k) new → Linked new table (record l { end = k }) → Replaying old new table lines l k past
  replaying_step new table k past n t d q y =
      rw d (record {
        inside = line_fits;
        room = omega (arith, q.2.small, i.room, next_numbers);
        len = n ∙ i.len;
        kept = t ∙ i.kept;
        loaded = rw same_header at next.1;
        linked = y;
        same =
            ap (λ (f : Formula). replay f (lines_in (drop (past_line work at) front))) q.2.same
            ∙ sym (replay_cons (stored (between l.store end work)) q.0 (line_at work at) (lines_in (drop (past_line work at) front)) q.1)
            ∙ line_first;
      })

  pub replaying_none : replay_line (stored (between l.store end work)) (line_at work at) ≡ fault 32 → replay (stored (store_in l old)) (lines_in (between lines l.store old)) ≡ fault 32
  replaying_none q = sym line_first ∙ replay_refused (stored (between l.store end work)) (line_at work at) (lines_in (drop (past_line work at) front)) 32 q

pub replaying_end : {old work : List ℤ} {heads : List ℕ} {lines : ℕ} {l : Layout} {end at : ℕ} → Replaying old work heads lines l end at → LaidOut old lines l → l.store ≤ at
    → Replays (replay (stored (store_in l old)) (lines_in (between lines l.store old))) l.store (length old) (Some end) work
unfolding replay through
replaying_end {old} {work} {heads} {lines} {l} {end} {at} i p h =
    let e : lines_in (drop at (take l.store old)) ≡ [] = lines_end (take l.store old) at (omega (arith, length-take l.store old)) in
    (stored (between l.store end work), sym (rw e at i.same), record { order = i.linked.order; small = omega (arith, i.linked.within, i.linked.room, i.len); formed = i.linked.formed; same = refl })

-- ---- with an index: the links begin in the middle of the room behind the lines, and only what lies there is changed
module _ (old : List ℤ) (lines : ℕ) (l : Layout) (p : LaidOut old lines l) (e : l.links ≡ l.store + (length old - l.store) / 2) where
  -- what stands and what the lines add fit before the links, and as many links behind them
  links_room : (l.end + numbers_in (lines_in (between lines l.store old)) ≤ l.links) × (l.links + (l.links - l.store) ≤ length old)
  links_room = (omega (arith, e, p.room, p.behind), omega (arith, e, p.room, p.behind))

  pub linkable : (heads : List ℕ) → heads ≡ replicate keys 0 → Linkable old heads l
  linkable heads h = record { order = p.behind; within = omega (arith, links_room.0); room = links_room.1; none = h; formed = p.formed }

  module _ (work : List ℤ) (n : length work ≡ length old) (k : take l.links work ≡ take l.links old) where
    same_standing : store_in l work ≡ store_in l old
    same_standing = between_same l.store l.end l.links work old (omega (arith, links_room.0)) k

    same_lines : between lines l.store work ≡ between lines l.store old
    same_lines = between_same lines l.store l.links work old (omega (arith, links_room.0, p.behind)) k

    pub same_front : take l.store work ≡ take l.store old
    same_front =
        sym (take-take l.store l.links work (omega (arith, links_room.0, p.behind)))
        ∙ ap (take l.store) k
        ∙ take-take l.store l.links old (omega (arith, links_room.0, p.behind))

    pub still_laid_out : LaidOut work lines l
    still_laid_out = record {
      before = p.before;
      behind = p.behind;
      room = rw (same_lines, n) p.room;
      loaded = rw same_lines p.loaded;
      formed = rw same_standing p.formed;
    }

    -- the lines still fit before the links
    pub still_room : l.end + numbers_in (lines_in (between lines l.store work)) ≤ l.links
    still_room = rw same_lines links_room.0

    pub indexed_replays : (r : Option ℕ) (new : List ℤ) → Replays (replay (stored (store_in l work)) (lines_in (between lines l.store work))) l.store (length work) r new
        → Replays (replay (stored (store_in l old)) (lines_in (between lines l.store old))) l.store (length old) r new
    indexed_replays r new x = rw (same_standing, same_lines, n) at x

-- ---- over a copy of the formula, made behind the lines
module _ (old work : List ℤ) (n m : ℕ) (p : Replayable old n m) (e : work ≡ sets old m (take n old)) where
  formula_length : length (take n old) ≡ n
  formula_length = length-take-le n old (omega (arith, p.before, p.room))

  copy_length : length work ≡ length old
  copy_length = ap length e ∙ length-sets old m (take n old)

  pub copy_front : take m work ≡ take m old
  copy_front = ap (take m) e ∙ sets_before (take n old) old m m (omega arith)

  copy_lines : between n m work ≡ between n m old
  copy_lines = between_same n m m work old (omega arith) copy_front

  copy_there : between m (m + n) work ≡ take n old
  copy_there =
      ap (λ (k : ℕ). between m (m + k) work) (sym formula_length)
      ∙ ap (between m (m + length (take n old))) e
      ∙ sets_between m m old (take n old) (omega arith) (omega (arith, formula_length, p.room))
      ∙ ap (λ (r : List ℤ). r ++ take n old) (between_none m old)

  pub copy_laid_out : (links : ℕ) → LaidOut work n (record { store = m; end = m + n; links = links })
  copy_laid_out links = record {
    before = p.before;
    behind = omega arith;
    room = rw (copy_lines, copy_length) (omega (arith, p.room));
    loaded = rw copy_lines p.loaded;
    formed = rw copy_there p.formed;
  }

  pub copy_replays : (r : Option ℕ) (new : List ℤ) → Replays (replay (stored (between m (m + n) work)) (lines_in (between n m work))) m (length work) r new
      → Replays (replay (stored (take n old)) (lines_in (between n m old))) m (length old) r new
  copy_replays r new x = rw (copy_there, copy_lines, copy_length) at x
