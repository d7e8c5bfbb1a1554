-- Cursors over the index: each is at the last clause before a bound that stands and holds its literal; deleted and later clauses are passed over, and the bound can be lowered to the greatest place shown. Assumes nothing.
use mathlib.Core.Path.{◌≡◌, refl, sym, ap, subst, ◌∙◌}
use mathlib.Core.Bool.{Bool, true, false, not, ◌&&◌}
use mathlib.Core.List.Memᴰ
use mathlib.Core.List.Memᴰ.{head as here}
use mathlib.Core.List.Memᴰ.{tail as there}
use mathlib.Core.List.{List, ◌∷◌, ◌++◌, Memᴰ}
use Prim.Native.Nat.{ℕ, ◌+◌, ◌-◌, ◌*◌, ◌≤◌, ◌<◌, ◌^◌}
use native.Mathlib.Omega.{arith}
use lib.Dec.{ltb}
use lib.IntN.{ℤ, pos, neg_ℤ, nat_abs}
use lib.ListN.{length, get_or, take, set}
use lib.Seq.{get_or-set_same, get_or-set_other}
use Rattle.std.proofs.lemmas.List.{set-get_or}
use borrow.Author.Tests.{ltb-true, lt-ltb, eq-eqb, ne_eqb}
use Rattle.definition.specs.Literals.{Clause}
use Rattle.theory_base.specs.Clauses.{FitAll}
use Rattle.theory_base.proofs.Tests.{differ}
use Rattle.theory_base.proofs.Loops.{getD_mem, by_order}
use Rattle.theory_base.proofs.Members.{natAbs_neg}
use Rattle.tables.specs.Sizes.{log_reach, log_size}
use Rattle.tables.specs.Entries.{entry_of}
use Rattle.literals.specs.Literal.{negative, negation, index_of}
use Rattle.literals.proofs.Laws.{negation_small}
use Rattle.store.specs.Store.{deleted_at}
use Rattle.store.proofs.Laws.{prefix_header}
use Rattle.index.specs.Index.{node_place, older_node, entered, Indexed}
use Rattle.index.specs.Reading.{StandsAt, FoundWith}
use Rattle.index.proofs.Walk.{entered_complete, entered_behind}
use Rattle.index.proofs.Laws.{index_reached, indexed_inside, indexed_length, reading_start, reading_done, Reads, reading_more}
use Rattle.lookup.specs.declared.Cursor.{Cursor}
use Rattle.lookup.specs.Cursors.{node_stands, shown_place, Led, LastBefore, Readable, Moved, cursor_at, Placed, Cursors, Latest}

-- ---- one cursor

-- the test of a clause that stands before a place
stands_told : (d : Bool) (a b : ℕ) → (not d && ltb a b) ≡ true → (d ≡ false) × (a < b)
stands_told true a b e = differ {b = true} tt (sym e)
stands_told false a b e = (refl, ltb-true a b e)

stands_when : (d : Bool) (a b : ℕ) → d ≡ false → a < b → (not d && ltb a b) ≡ true
stands_when d a b e h = rw (e, lt-ltb a b h) refl

module _ {work : List ℤ} {end : ℕ} {m : ℤ} {b t : ℕ} (c : Led work end m b t) where
  led_more : 0 < t → Reads work end c.newest m t c.rest
  led_more h = reading_more c.indexed c.reading h

  pub led_within : 2 * t ≤ length work
  led_within = omega (arith, c.reading.bound, c.indexed.room)

  pub led_place : 0 < t → node_place work t < length work
  led_place h = omega (arith, (led_more h).inside, indexed_inside c.indexed)

  led_small : length work < 2 ^ 31
  led_small = c.indexed.small

  pub led_falls : 0 < t → older_node work t < t
  led_falls h = (led_more h).falls

  -- the lower the bound, the less is asked
  led_lower : {a : ℕ} → a ≤ b → Led work end m a t
  led_lower h = record { newest = c.newest; indexed = c.indexed; rest = c.rest; reading = c.reading; each = λ p l f. c.each p (omega arith) f }

  -- the same header in the store and in the workspace
  deleted_same : (p : ℕ) → p < end → deleted_at (take end work) p ≡ deleted_at work p
  deleted_same p h = ap negative (prefix_header work end p h (indexed_inside c.indexed))

  -- a clause that does not stand before a place is passed over
  led_older : {before : ℕ} → b ≤ before → 0 < t → node_stands work t before ≡ false → Led work end m b (older_node work t)
  led_older {before} k h n =
      let r = led_more h in
      record { newest = c.newest; indexed = c.indexed; rest = r.rest; reading = r.reading; each = λ p l f. other p l f (subst (λ (ps : List ℕ). Memᴰ p ps) r.begins (c.each p l f)) }
    where
      no : (p : ℕ) → p < b → FoundWith m (take end work) p → p ≡ node_place work t → ⊥
      no p l f e =
          let i : p < end = omega (arith, f.standing.inside, indexed_length c.indexed) in
          let d : deleted_at work (node_place work t) ≡ false = ap (deleted_at work) (sym e) ∙ sym (deleted_same p i) ∙ f.standing.stands in
          differ {b = true} tt (sym (stands_when (deleted_at work (node_place work t)) (node_place work t) before d (omega arith)) ∙ n)

      other : {ps : List ℕ} (p : ℕ) → p < b → FoundWith m (take end work) p → Memᴰ p (node_place work t ∷ ps) → Memᴰ p ps
      other p l f (here e) = absurd (no p l f e)
      other p l f (there i) = i

  last_at : 0 < t → node_stands work t b ≡ true → LastBefore work end m b t
  last_at h n =
      let q = stands_told (deleted_at work (node_place work t)) (node_place work t) b n in
      let r = led_more h in
      let s : StandsAt (take end work) (node_place work t) = record { inside = r.entry.inside; place = r.entry.place; stands = deleted_same (node_place work t) r.inside ∙ q.0 } in
      record { led = c; found = λ _. (q.1, record { standing = s; with_literal = r.entry.with_literal }) }

pub led_start : {work : List ℤ} {end : ℕ} {newest : List ℕ} (m : ℤ) (b : ℕ) → Indexed work end newest → index_of m < log_size → Led work end m b (entry_of newest m)
led_start {work} {end} {newest} m b i h = record {
  newest = newest;
  indexed = i;
  rest = entered m (take end work);
  reading = reading_start i m h;
  each = λ p l f. entered_complete record { inside = f.standing.inside; place = f.standing.place; with_literal = f.with_literal };
}

-- ---- a cursor moved from node to node

-- nothing before the place is passed over
pub record Moving (work : List ℤ) (node before t : ℕ) : Type 0 where
  pub moving : (end : ℕ) (m : ℤ) (b : ℕ) → b ≤ before → Led work end m b node → Led work end m b t

module _ {work : List ℤ} {node before t : ℕ} (r : Readable work node) (v : Moving work node before t) where
  pub moving_led : Led work r.end r.literal 0 t
  moving_led = v.moving r.end r.literal 0 (omega arith) r.led

  pub moving_older : {u : ℕ} → 0 < t → node_stands work t before ≡ false → u ≡ older_node work t → Moving work node before u
  moving_older h n e = subst (λ (k : ℕ). Moving work node before k) (sym e) record { moving = λ end m b l c. led_older (v.moving end m b l c) l h n }

  pub moved_at : 0 < t → node_stands work t before ≡ true → Moved work node before t
  moved_at h n = record { readable = record { end = r.end; literal = r.literal; led = moving_led }; moves = λ end m c. last_at (v.moving end m before (omega arith) c) h n }

-- ---- what a cursor shows

pub shown_none : (work : List ℤ) (t : ℕ) → t ≡ 0 → shown_place work t ≡ 0
shown_none work t e = rw (eq-eqb t 0 e) refl

pub shown_node : (work : List ℤ) (t : ℕ) → 0 < t → shown_place work t ≡ node_place work t + 1
shown_node work t h = rw (ne_eqb t 0 (λ e. omega arith)) refl

-- a node that was moved to
pub moved_place : {work : List ℤ} {t before r : ℕ} → Moved work t before r → 0 < r → (1 ≤ r) × (2 * r ≤ length work) × (node_place work r < 2 ^ 31)
moved_place m h = (h, led_within m.readable.led, omega (arith, led_place m.readable.led h, led_small m.readable.led))

pub placed_none : {work : List ℤ} {t before r : ℕ} → Moved work t before r → r ≡ 0 → Placed work t before (record { node = 0; place = 0 })
placed_none {work} {t} {before} m e = record { moved = subst (Moved work t before) e m; place = sym (shown_none work 0 refl) }

pub placed_node : {work : List ℤ} {t before r a : ℕ} → Moved work t before r → 0 < r → a ≡ node_place work r → Placed work t before (record { node = r; place = a + 1 })
placed_node {work} {r = r} m h e = record { moved = m; place = ap (λ (k : ℕ). k + 1) e ∙ sym (shown_node work r h) }

module _ {work : List ℤ} {end : ℕ} {m : ℤ} {b t : ℕ} (c : LastBefore work end m b t) where
  cursor_shown : shown_place work t ≤ b
  cursor_shown =
      by_order 0 t (omega arith) (λ e. omega (arith, shown_none work t (sym e)))
      (λ h. omega (arith, shown_node work t h, (c.found h).0))

  cursor_lower : {a : ℕ} → a ≤ b → shown_place work t ≤ a → LastBefore work end m a t
  cursor_lower l s = record { led = led_lower c.led l; found = λ h. (omega (arith, shown_node work t h), (c.found h).1) }

  -- it is at the last of its clauses
  pub cursor_last : (p : ℕ) → p < b → FoundWith m (take end work) p → p < shown_place work t
  cursor_last p h f = by_order 0 t (omega arith) none at_node
    where
      i : Memᴰ p c.led.rest
      i = c.led.each p h f

      none : 0 ≡ t → p < shown_place work t
      none e = absurd (Memᴰ.not-nil (subst (λ (ps : List ℕ). Memᴰ p ps) (reading_done c.led.reading (sym e)) i))

      at_node : 0 < t → p < shown_place work t
      at_node g =
          let r = led_more c.led g in
          let z : entered m (take end work) ≡ c.led.reading.read ++ (node_place work t ∷ r.rest) = c.led.reading.split ∙ ap (λ (qs : List ℕ). c.led.reading.read ++ qs) r.begins in
          omega (arith, shown_node work t g, most c.led.reading.read r.rest z (subst (λ (ps : List ℕ). Memᴰ p ps) r.begins i))
        where
          most : (ps qs : List ℕ) → entered m (take end work) ≡ ps ++ (node_place work t ∷ qs) → Memᴰ p (node_place work t ∷ qs) → p ≤ node_place work t
          most ps qs z (here e) = omega arith
          most ps qs z (there j) = entered_behind m (take end work) c.led.indexed.formed ps qs (node_place work t) z p j

-- ---- all cursors

module _ {work : List ℤ} {end : ℕ} {l : Clause} {b : ℕ} {cs : List Cursor} where
  -- one more, put to where it is led
  cursors_placed : {i t : ℕ} {c : Cursor} → i < length cs → Cursors work end l b i cs → Placed work t b c → Led work end (neg_ℤ (get_or l i (pos 0))) b t → Cursors work end l b (i + 1) (set cs i c)
  cursors_placed {i} {t} {c} x r p d = record {
    each = λ j h. by_order j i (omega arith) (λ e. here_each j e) (λ g. subst (λ (k : Cursor). LastBefore work end (neg_ℤ (get_or l j (pos 0))) b k.node) (sym (other j g)) (r.each j g));
    shown = λ j h. by_order j i (omega arith) (λ e. subst Shown (sym (same j e)) p.place) (λ g. subst Shown (sym (other j g)) (r.shown j g));
  }
    where
      Shown : Cursor → Type 0
      Shown k = k.place ≡ shown_place work k.node

      same : (j : ℕ) → j ≡ i → cursor_at (set cs i c) j ≡ c
      same j e = ap (cursor_at (set cs i c)) e ∙ get_or-set_same cs i c _ x

      other : (j : ℕ) → j < i → cursor_at (set cs i c) j ≡ cursor_at cs j
      other j g = get_or-set_other cs i j c _ (λ e. omega arith)

      here_each : (j : ℕ) → j ≡ i → LastBefore work end (neg_ℤ (get_or l j (pos 0))) b (cursor_at (set cs i c) j).node
      here_each j e =
          subst (λ (k : Cursor). LastBefore work end (neg_ℤ (get_or l j (pos 0))) b k.node) (sym (same j e))
          (subst (λ (k : ℕ). LastBefore work end (neg_ℤ (get_or l k (pos 0))) b c.node) (sym e) (p.moved.moves end (neg_ℤ (get_or l i (pos 0))) d))

  -- one more, where it is
  cursors_kept : {i : ℕ} → Cursors work end l b i cs → LastBefore work end (neg_ℤ (get_or l i (pos 0))) b (cursor_at cs i).node → (cursor_at cs i).place ≡ shown_place work (cursor_at cs i).node → Cursors work end l b (i + 1) cs
  cursors_kept {i} c d s = record {
    each = λ j h. by_order j i (omega arith) (λ e. subst (λ (k : ℕ). LastBefore work end (neg_ℤ (get_or l k (pos 0))) b (cursor_at cs k).node) (sym e) d) (λ g. c.each j g);
    shown = λ j h. by_order j i (omega arith) (λ e. subst (λ (k : ℕ). (cursor_at cs k).place ≡ shown_place work (cursor_at cs k).node) (sym e) s) (λ g. c.shown j g);
  }

-- the bound can be lowered to the greatest place shown
module _ {work : List ℤ} {end : ℕ} {l : Clause} {b n r : ℕ} {cs : List Cursor} (c : Cursors work end l b n cs) (g : Latest n cs r) where
  pub latest_low : r ≤ b
  latest_low =
      by_order 0 r (omega arith) (λ e. omega arith)
      (λ h. let m = g.met h in omega (arith, m.2, c.shown m.0 m.1, cursor_shown (c.each m.0 m.1)))

  pub cursors_latest : Cursors work end l r n cs
  cursors_latest = record { each = λ i h. cursor_lower (c.each i h) latest_low (omega (arith, c.shown i h, g.most i h)); shown = c.shown }

-- ---- the cursors of a choice at the start

pub record Starting (work : List ℤ) (newest : List ℕ) (start : ℕ) (l : Clause) (i : ℕ) (cs : List Cursor) : Type 0 where
  pub starting : (end : ℕ) → Indexed work end newest → Cursors work end l start i cs

module _ {l : Clause} (f : FitAll log_reach l) (i : ℕ) (h : i < length l) where
  fits : nat_abs (get_or l i (pos 0)) ≤ log_reach
  fits = (f (get_or l i (pos 0)) (getD_mem l i (pos 0) h)).1

  negated_fits : negation (get_or l i (pos 0)) ≡ neg_ℤ (get_or l i (pos 0))
  negated_fits = negation_small (get_or l i (pos 0)) (omega (arith, fits))

  negated_index : index_of (neg_ℤ (get_or l i (pos 0))) < log_size
  negated_index = index_reached (neg_ℤ (get_or l i (pos 0))) (omega (arith, fits, natAbs_neg (get_or l i (pos 0))))

  -- the last node of its negation
  module _ {work : List ℤ} {newest : List ℕ} {t : ℕ} (e : t ≡ entry_of newest (negation (get_or l i (pos 0)))) where
    last_led : {end : ℕ} (b : ℕ) → Indexed work end newest → Led work end (neg_ℤ (get_or l i (pos 0))) b t
    last_led {end} b x =
        subst (λ (k : ℕ). Led work end (neg_ℤ (get_or l i (pos 0))) b k) (sym (e ∙ ap (entry_of newest) negated_fits))
        (led_start (neg_ℤ (get_or l i (pos 0))) b x negated_index)

    pub last_readable : {end : ℕ} → Indexed work end newest → Readable work t
    last_readable {end} x = record { end = end; literal = neg_ℤ (get_or l i (pos 0)); led = last_led 0 x }

    pub starting_more : {start : ℕ} {cs : List Cursor} {c : Cursor} → i < length cs → Starting work newest start l i cs → Placed work t start c → Starting work newest start l (i + 1) (set cs i c)
    starting_more {start} x s p = record { starting = λ end z. cursors_placed x (s.starting end z) p (last_led start z) }

-- ---- a step

-- the first i are moved, all others are as they were
pub record Stepping (work : List ℤ) (next : ℕ) (old : List Cursor) (i : ℕ) (cs : List Cursor) : Type 0 where
  pub stepping : (end : ℕ) (l : Clause) → Cursors work end l next (length old) old → Cursors work end l (next - 1) i cs
  pub left : (j : ℕ) → i ≤ j → cursor_at cs j ≡ cursor_at old j

module _ {work : List ℤ} {next i : ℕ} {old cs : List Cursor} (h : i < length old) (s : Stepping work next old i cs) where
  abbrev now : Cursor
  now = cursor_at cs i

  -- the cursor i as it was
  was : (end : ℕ) (l : Clause) → Cursors work end l next (length old) old → LastBefore work end (neg_ℤ (get_or l i (pos 0))) next now.node
  was end l c = subst (λ (k : Cursor). LastBefore work end (neg_ℤ (get_or l i (pos 0))) next k.node) (sym (s.left i (omega arith))) (c.each i h)

  showed : (end : ℕ) (l : Clause) → Cursors work end l next (length old) old → now.place ≡ shown_place work now.node
  showed end l c = subst (λ (k : Cursor). k.place ≡ shown_place work k.node) (sym (s.left i (omega arith))) (c.shown i h)

  pub stepping_moved : {c : Cursor} → i < length cs → Placed work now.node (next - 1) c → Stepping work next old (i + 1) (set cs i c)
  stepping_moved {c} x p = record {
    stepping = λ end l k. cursors_placed x (s.stepping end l k) p (led_lower (was end l k).led (omega arith));
    left = λ j g. get_or-set_other cs i j c _ (λ e. omega arith) ∙ s.left j (omega arith);
  }

  pub stepping_kept : (now.place ≡ next → ⊥) → Stepping work next old (i + 1) (set cs i now)
  stepping_kept e = rw (set-get_or cs i (record { node = 0; place = 0 })) record {
    stepping = λ end l c. cursors_kept (s.stepping end l c) (cursor_lower (was end l c) (omega arith) (lower end l c)) (showed end l c);
    left = λ j g. s.left j (omega arith);
  }
    where
      lower : (end : ℕ) (l : Clause) → Cursors work end l next (length old) old → shown_place work now.node ≤ next - 1
      lower end l c = by_order (shown_place work now.node) next (cursor_shown (was end l c)) (λ z. absurd (e (showed end l c ∙ z))) (λ z. omega arith)
