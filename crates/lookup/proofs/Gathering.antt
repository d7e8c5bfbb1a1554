-- Why the cursors gather all touched clauses: a touched clause holds some negated literal and no other does, so the greatest place shown is the last touched one before the bound. Assumes nothing.
use mathlib.Core.Path.{◌≡◌, sym, ap, subst, ◌∙◌}
use mathlib.Core.List.Memᴰ.{head as here}
use mathlib.Core.List.Memᴰ.{tail as there}
use mathlib.Core.List.{List, ◌∷◌, Memᴰ, []}
use Prim.Native.Nat.{ℕ, suc, ◌+◌, ◌-◌, ◌≤◌, ◌<◌}
use native.Mathlib.Omega.{arith}
use lib.IntN.{ℤ, pos, neg_ℤ}
use lib.ListN.{length, get_or, take, drop, set, length-set, length-drop}
use lib.Seq.{take-take, get_or-set_same, drop-length, drop-set-lt}
use Rattle.definition.specs.Literals.{Clause}
use Rattle.theory_base.proofs.Slices.{drop_step}
use Rattle.theory_base.proofs.Loops.{getD_mem, by_order}
use Rattle.theory_base.proofs.Members.{opposes_mem, mem_opposes}
use Rattle.store.specs.Store.{clause_at, Place}
use Rattle.index.specs.Index.{node_place}
use Rattle.index.specs.Reading.{StandsAt, FoundWith}
use Rattle.index.proofs.Laws.{indexed_length}
use Rattle.lookup.specs.Lookup.{touched_places, Gatherable}
use Rattle.lookup.specs.declared.Cursor.{Cursor}
use Rattle.lookup.specs.Cursors.{shown_place, cursor_at, Cursors, Starts, Steps, Latest}
use Rattle.lookup.proofs.Rising.{Rising, from_on, from_same, from_none, from_all, from_few, from_more}
use Rattle.lookup.proofs.Touched.{Touches, touched_sound, touched_complete, touched_rising}
use Rattle.lookup.proofs.Cursors.{shown_none, shown_node, cursor_last, latest_low, cursors_latest}

mem_place : (l : Clause) (x : ℤ) → Memᴰ x l → (i : ℕ) × (i < length l) × (get_or l i (pos 0) ≡ x)
mem_place (y ∷ l) x (here e) = (0, omega arith, sym e)
mem_place (y ∷ l) x (there i) = let r = mem_place l x i in (suc r.0, omega (arith, r.1), r.2)
mem_place [] x x3 = elim x3 [ ]

-- an entry of the store begins at `start`, or it ends there
pub record Begins (work : List ℤ) (end start : ℕ) : Type 0 where
  pub place : Place (take end work) start
  pub inside : start ≤ end

-- all touched places before it
module _ {work : List ℤ} {end start : ℕ} (e : Begins work end start) (l : Clause) where
  taken : touched_places l (take start (take end work)) ≡ touched_places l (take start work)
  taken = ap (touched_places l) (take-take start end work e.inside)

  places_rising : Rising (touched_places l (take start work))
  places_rising = subst Rising taken (touched_rising l (take end work) start e.place)

  touched_told : (p : ℕ) → Memᴰ p (touched_places l (take start work)) → Touches l (take end work) start p
  touched_told p i = touched_sound l (take end work) start e.place p (subst (λ (ps : List ℕ). Memᴰ p ps) (sym taken) i)

  -- a literal's clause
  found_touched : (i p : ℕ) → i < length l → p < start → FoundWith (neg_ℤ (get_or l i (pos 0))) (take end work) p → Memᴰ p (touched_places l (take start work))
  found_touched i p h b f =
      subst (λ (ps : List ℕ). Memᴰ p ps) taken
      (touched_complete l (take end work) start e.place p
      record { before = b; place = f.standing.place; stands = f.standing.stands; opposing = mem_opposes l (clause_at (take end work) p) (get_or l i (pos 0)) (getD_mem l i (pos 0) h) f.with_literal })

  -- some literal has it
  touched_found : (p : ℕ) → Touches l (take end work) start p → (i : ℕ) × (i < length l) × FoundWith (neg_ℤ (get_or l i (pos 0))) (take end work) p
  touched_found p t =
      let o = opposes_mem l (clause_at (take end work) p) t.opposing in
      let m = mem_place l o.0 o.1 in
      let s : StandsAt (take end work) p = record { inside = omega (arith, t.before, e.place.inside); place = t.place; stands = t.stands } in
      (m.0, m.1, record { standing = s; with_literal = subst (λ (x : ℤ). Memᴰ (neg_ℤ x) (clause_at (take end work) p)) (sym m.2) o.2 })

  -- every touched place before the bound is before the greatest one shown
  touched_shown : {b r : ℕ} {cs : List Cursor} → length cs ≡ length l → Cursors work end l b (length cs) cs → Latest (length cs) cs r → (p : ℕ) → Memᴰ p (touched_places l (take start work)) → p < b → p < r
  touched_shown {cs = cs} o c g p i h =
      let f = touched_found p (touched_told p i) in
      let j : f.0 < length cs = omega (arith, f.1) in
      omega (arith, cursor_last (c.each f.0 j) p h f.2, c.shown f.0 j, g.most f.0 j)

-- those from the greatest place shown on are written
pub record Gathered (work : List ℤ) (end start : ℕ) (l : Clause) (list : List ℕ) (cs : List Cursor) (to next : ℕ) : Type 0 where
  pub begins : Begins work end start
  pub low : next ≤ start
  pub one_each : length cs ≡ length l
  pub cursors_at : Cursors work end l next (length cs) cs
  pub latest_shown : Latest (length cs) cs next
  pub within : to ≤ length list
  pub space : length (touched_places l (take start work)) ≤ length list
  pub written : drop to list ≡ from_on next (touched_places l (take start work))

pub gathered_start : {work : List ℤ} {end start next : ℕ} {newest : List ℕ} {l : Clause} {list : List ℕ} {cs : List Cursor} → Gatherable work end newest start l list → length cs ≡ length l → Starts work newest start l cs → Latest (length cs) cs next
    → Gathered work end start l list cs (length list) next
gathered_start {work} {end} {start} {next} {newest} {l} {list} g o s m =
    let b : Begins work end start = record { place = g.place; inside = omega (arith, g.place.inside, indexed_length g.indexed) } in
    let c = s.starts end g.indexed in
    record {
      begins = b;
      low = latest_low c m;
      one_each = o;
      cursors_at = cursors_latest c m;
      latest_shown = m;
      within = omega arith;
      space = g.space;
      written = drop-length list ∙ sym (from_none next _ (λ p i. touched_shown b l o c m p i (touched_told b l p i).before));
    }

module _ {work : List ℤ} {end start to next : ℕ} {l : Clause} {list : List ℕ} {cs : List Cursor} (g : Gathered work end start l list cs to next) where
  abbrev all_touched : List ℕ
  all_touched = touched_places l (take start work)

  -- the greatest place shown is the next one
  module _ (h : 0 < next) where
    shown_touched : Memᴰ (next - 1) all_touched
    shown_touched =
        let m = g.latest_shown.met h in
        let t = (cursor_at cs m.0).node in
        let s : shown_place work t ≡ next = sym (g.cursors_at.shown m.0 m.1) ∙ m.2 in
        let p : 0 < t = by_order 0 t (omega arith) (λ e. absurd (omega (arith, shown_none work t (sym e)))) (λ z. z) in
        let f = (g.cursors_at.each m.0 m.1).found p in
        let e : node_place work t ≡ next - 1 = omega (arith, shown_node work t p) in
        subst (λ (k : ℕ). Memᴰ k all_touched) e (found_touched g.begins l m.0 (node_place work t) (omega (arith, m.1, g.one_each)) (omega (arith, f.0, g.low)) f.1)

    next_more : from_on (next - 1) all_touched ≡ (next - 1) ∷ from_on next all_touched
    next_more = from_more (next - 1) next all_touched (places_rising g.begins l) shown_touched (omega arith) (λ x i b. omega arith)

    pub gathered_room : 1 ≤ to
    gathered_room = omega (arith, ap length next_more, from_few (next - 1) all_touched, g.space, ap length g.written, length-drop to list, g.within)

    module _ {new_list : List ℕ} {new : List Cursor} {later : ℕ} (e : new_list ≡ set list (to - 1) (next - 1)) (s : Steps work next cs new) (z : length new ≡ length cs) (m : Latest (length new) new later) where
      moved_on : Cursors work end l (next - 1) (length new) new
      moved_on = subst (λ (k : ℕ). Cursors work end l (next - 1) k new) (sym z) (s.steps end l g.cursors_at)

      pub gathered_falls : later < next
      gathered_falls = omega (arith, latest_low moved_on m)

      same_size : length new_list ≡ length list
      same_size = ap length e ∙ length-set list (to - 1) (next - 1)

      wrote : drop (to - 1) new_list ≡ (next - 1) ∷ drop to list
      wrote =
          let z : to - 1 + 1 ≡ to = omega (arith, gathered_room) in
          ap (drop (to - 1)) e
          ∙ drop_step (set list (to - 1) (next - 1)) (to - 1) 0 (omega (arith, gathered_room, g.within, length-set list (to - 1) (next - 1)))
          ∙ ap (λ (x : ℕ). x ∷ drop (to - 1 + 1) (set list (to - 1) (next - 1))) (get_or-set_same list (to - 1) (next - 1) 0 (omega (arith, gathered_room, g.within)))
          ∙ ap (λ (r : List ℕ). (next - 1) ∷ r) (drop-set-lt (to - 1 + 1) list (to - 1) (next - 1) (omega arith) ∙ ap (λ (k : ℕ). drop k list) z)

      pub gathered_more : Gathered work end start l new_list new (to - 1) later
      gathered_more = record {
        begins = g.begins;
        low = omega (arith, latest_low moved_on m, g.low);
        one_each = z ∙ g.one_each;
        cursors_at = cursors_latest moved_on m;
        latest_shown = m;
        within = omega (arith, same_size, g.within);
        space = omega (arith, same_size, g.space);
        written =
            wrote
            ∙ ap (λ (r : List ℕ). (next - 1) ∷ r) g.written
            ∙ sym next_more
            ∙ sym (from_same later (next - 1) all_touched (latest_low moved_on m) (λ p i b. touched_shown g.begins l (z ∙ g.one_each) moved_on m p i b));
      }

  pub gathered_all : next ≡ 0 → drop to list ≡ touched_places l (take start work)
  gathered_all e = g.written ∙ ap (λ (k : ℕ). from_on k all_touched) e ∙ from_all all_touched
