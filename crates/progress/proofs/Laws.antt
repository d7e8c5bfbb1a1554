-- Laws for the callers: lines one after another, events one after another. Assumes nothing.
use mathlib.Core.Path.{◌≡◌, refl, sym, ap, ◌∙◌}
use mathlib.Core.List.{List, [], ◌∷◌, ◌++◌, append-nil}
use Prim.Native.Nat.{ℕ, ◌+◌, ◌≤◌}
use native.Mathlib.Omega.{arith}
use lib.IntN.{ℤ}
use lib.ListN.{length, take, drop, length-append, length-drop, replicate}
use lib.Seq.{length-take-le, take-append-le, take-take}
use Rattle.definition.specs.Lists.{for_each}
use Rattle.definition.specs.Literals.{Formula}
use Rattle.definition.specs.Text.{Bytes}
use Rattle.definition.specs.Standing.{Line, after}
use Rattle.definition.specs.Log.{log_text, log_line_text}
use Rattle.definition.specs.Events.{Event}
use Rattle.definition.specs.Reencoding.{lines, lines_of}
use Rattle.theory_base.specs.Clauses.{ProperAll, Fits}
use Rattle.theory_base.proofs.Fitting.{fits_up}
use Rattle.theory_base.proofs.Loops.{for_each-++}
use Rattle.theory_base.proofs.Replay.{after-++, lines-++}
use Rattle.text.specs.Output.{Put}
use Rattle.text.proofs.Output.{put_none, put_then, put_same, put_length}
use Rattle.tables.specs.Entries.{most, tallied_all}
use Rattle.tables.specs.Counts.{Counts}
use Rattle.tables.proofs.Counting.{counted_table}
use Rattle.store.specs.Store.{Formed, stored, Counted}
use Rattle.store.proofs.Laws.{few_stored}
use Rattle.index.specs.Index.{MadeRoom}
use Rattle.progress.specs.declared.Progress.{Progress}
use Rattle.progress.specs.Progress.{Written, LogRoom, standing, Good, Runs}

-- ---- the lines of events, and their text

pub lines_none : lines [] ≡ []
unfolding lines for_each
lines_none = refl

pub lines_one : (e : Event) → lines (e ∷ []) ≡ lines_of e
unfolding lines for_each
lines_one e = append-nil (lines_of e)

text_none : log_text [] ≡ []
unfolding log_text for_each
text_none = refl

text_one : (l : Line) → log_text (l ∷ []) ≡ log_line_text l
unfolding log_text for_each
text_one l = append-nil (log_line_text l)

text-++ : (ks ls : List Line) → log_text (ks ++ ls) ≡ log_text ks ++ log_text ls
unfolding log_text
text-++ ks ls = for_each-++ ks ls log_line_text

-- ---- lines written

pub written_none : (log : Bytes) (p q : Progress) → q.at ≡ p.at → q.lines ≡ p.lines → Written [] log p log q
written_none log p q e f =
    record { written = rw (text_none, e) (put_none log p.at); counted = omega arith }

pub written_one : {x y : Bytes} {p q : Progress} (l : Line) → Put x p.at (log_line_text l) q.at y → q.lines ≡ p.lines + 1 → Written (l ∷ []) x p y q
written_one l w e = record { written = put_same w (sym (text_one l)); counted = omega arith }

pub written_then : {ks ls : List Line} {x y z : Bytes} {p q r : Progress} → Written ks x p y q → Written ls y q z r → Written (ks ++ ls) x p z r
written_then {ks} {ls} a b =
    record { written = put_same (put_then a.written b.written) (sym (text-++ ks ls)); counted = omega (arith, a.counted, b.counted, length-append ks ls) }

pub written_length : {ls : List Line} {x y : Bytes} {p q : Progress} → Written ls x p y q → length y ≡ length x
written_length a = put_length a.written

-- ---- room for lines

text_length : (ks ls : List Line) → length (log_text (ks ++ ls)) ≡ length (log_text ks) + length (log_text ls)
text_length ks ls = ap length (text-++ ks ls) ∙ length-append (log_text ks) (log_text ls)

pub room_first : (ks ls : List Line) {p : Progress} → LogRoom (ks ++ ls) p → LogRoom ks p
room_first ks ls r =
    record { text = omega (arith, r.text, text_length ks ls); count = omega (arith, r.count, length-append ks ls) }

pub room_rest : (ks ls : List Line) {x y : Bytes} {p q : Progress} → LogRoom (ks ++ ls) p → Written ks x p y q → LogRoom ls q
room_rest ks ls r w =
    record { text = omega (arith, r.text, text_length ks ls, w.written.next); count = omega (arith, r.count, length-append ks ls, w.counted) }

-- ---- events

-- what a phase needs of the store
pub record Holds (F : Formula) (work : List ℤ) (end : ℕ) : Type 0 where
  pub inside : end ≤ length work
  pub formed : Formed (take end work)
  pub stands : stored (take end work) ≡ F

-- ---- a pass over a workspace

-- nothing happened, but the store may have moved
pub runs_nothing : {work new : List ℤ} (log : Bytes) (p q : Progress) → length new ≡ length work → Holds (standing work p) new q.end → q.at ≡ p.at → q.lines ≡ p.lines → Runs [] work log p new log q
unfolding after
runs_nothing {work} log p q s h e f =
    record { size = s; inside = omega (arith, h.inside); formed = h.formed; stands = h.stands ∙ ap (after (standing work p)) (sym lines_none); written = rw (lines_none, text_none, e) (put_none log p.at); counted = rw lines_none (omega arith) }

-- what is written, and what stands then
pub runs_lines : {G : Formula} {es : List Event} {work new : List ℤ} {x y : Bytes} {p q : Progress} → length new ≡ length work →
    Holds G new q.end → G ≡ after (standing work p) (lines es) → Written (lines es) x p y q → Runs es work x p new y q
runs_lines s h e w =
    record { size = s; inside = omega (arith, h.inside); formed = h.formed; stands = h.stands ∙ e; written = w.written; counted = w.counted }

-- one event
pub runs_event : {G : Formula} {work new : List ℤ} {x y : Bytes} {p q : Progress} (e : Event) → length new ≡ length work → Holds G new q.end →
    G ≡ after (standing work p) (lines_of e) → Written (lines_of e) x p y q → Runs (e ∷ []) work x p new y q
runs_event e s h a w = runs_lines s h (rw (lines_one e) a) (rw (lines_one e) w)

pub runs_holds : {es : List Event} {work new : List ℤ} {x y : Bytes} {p q : Progress} → Runs es work x p new y q → Holds (after (standing work p) (lines es)) new q.end
runs_holds r = record { inside = omega (arith, r.size, r.inside); formed = r.formed; stands = r.stands }

pub runs_written : {es : List Event} {work new : List ℤ} {x y : Bytes} {p q : Progress} → Runs es work x p new y q → Written (lines es) x p y q
runs_written r = record { written = r.written; counted = r.counted }

pub runs_join : {es fs : List Event} {work mid new : List ℤ} {x y z : Bytes} {p q r : Progress} → Runs es work x p mid y q → Runs fs mid y q new z r → Runs (es ++ fs) work x p new z r
runs_join {es} {fs} {work} {p = p} a b =
    runs_lines (b.size ∙ a.size) (runs_holds b)
    (ap (λ (F : Formula). after F (lines fs)) a.stands ∙ sym (after-++ (standing work p) (lines es) (lines fs)) ∙ ap (after (standing work p)) (sym (lines-++ es fs)))
    (rw (lines-++ es fs) (written_then (runs_written a) (runs_written b)))

-- from a workspace with the same store
pub runs_from : {es : List Event} {work old new : List ℤ} {x y : Bytes} {p q : Progress} → length work ≡ length old → take p.end work ≡ take p.end old → Runs es work x p new y q → Runs es old x p new y q
runs_from {es} l e r = runs_lines (r.size ∙ l) (runs_holds r) (ap (λ (s : List ℤ). after (stored s) (lines es)) e) (runs_written r)

-- only the lines of the events count
pub runs_as : {es fs : List Event} {work new : List ℤ} {x y : Bytes} {p q : Progress} → lines es ≡ lines fs → Runs es work x p new y q → Runs fs work x p new y q
runs_as {work = work} {p = p} e r = runs_lines r.size (runs_holds r) (ap (after (standing work p)) e) (rw e at (runs_written r))

-- ---- the first elements of a workspace changed, as `&mut work[..end]` leaves it
module _ (work part : List ℤ) (end : ℕ) (b : end ≤ length work) (s : length part ≡ length (take end work)) where
  pub part_length : length part ≡ end
  part_length = s ∙ length-take-le end work b

  pub part_size : length (part ++ drop end work) ≡ length work
  part_size = omega (arith, length-append part (drop end work), length-drop end work, part_length)

  part_holds : {G : Formula} (n : ℕ) → n ≤ end → Formed (take n part) → stored (take n part) ≡ G → Holds G (part ++ drop end work) n
  part_holds n h f e =
      let t : take n (part ++ drop end work) ≡ take n part = take-append-le n part (drop end work) (omega (arith, part_length)) in
      record { inside = omega (arith, part_size); formed = rw t f; stands = ap stored t ∙ e }

-- a pass over those elements alone
pub standing_part : (work : List ℤ) (p : Progress) → standing (take p.end work) p ≡ standing work p
standing_part work p = ap stored (take-take p.end p.end work (omega arith))

pub runs_part : {es : List Event} (work part : List ℤ) {x y : Bytes} {p q : Progress} → p.end ≤ length work → Runs es (take p.end work) x p part y q → Runs es work x p (part ++ drop p.end work) y q
runs_part {es} work part {p = p} {q = q} b r =
    runs_lines (part_size work part p.end b r.size)
    (part_holds work part p.end b r.size q.end (omega (arith, r.inside, length-take-le p.end work b)) r.formed r.stands)
    (ap (λ (F : Formula). after F (lines es)) (standing_part work p)) (runs_written r)

-- ---- a good store

-- its clauses are fewer than 2^32
good_few : {h : ℕ} {es : List Event} {work : List ℤ} {p : Progress} → Good h es work p → length (standing work p) ≤ most
good_few {work = work} {p = p} g = omega (arith, g.small, g.inside, few_stored (take p.end work), length-take-le p.end work g.inside)

-- what `count_all` gives from zeros
pub good_counts : {h : ℕ} {es : List Event} {work : List ℤ} {p : Progress} {t : List ℕ} → Good h es work p → t ≡ tallied_all (replicate (h + h + 2) 0) (standing work p) → Counts h t (standing work p)
good_counts {h} {work = work} {p = p} g e = rw e (counted_table h (standing work p) g.proper (good_few g))

pub good_counted : {h : ℕ} {es : List Event} {work : List ℤ} {p : Progress} {t : List ℕ} → Good h es work p → t ≡ tallied_all (replicate (h + h + 2) 0) (standing work p) → Counted h (take p.end work) t
good_counted g e = record { formed = g.formed; fits = g.fits; table = good_counts g e }

-- variables up to more
pub good_up : {h k : ℕ} {es : List Event} {work : List ℤ} {p : Progress} → h ≤ k → Good h es work p → Good k es work p
good_up {h} {k} {work = work} {p = p} b g = record { small = g.small; inside = g.inside; formed = g.formed; proper = g.proper; fits = fits_up k h (standing work p) b g.fits; room = g.room }

-- only the lines of the events count
pub good_as : {h : ℕ} {es fs : List Event} {work : List ℤ} {p : Progress} → lines es ≡ lines fs → Good h es work p → Good h fs work p
good_as e g = record { small = g.small; inside = g.inside; formed = g.formed; proper = g.proper; fits = g.fits; room = rw e at g.room }

-- in the store's own elements
pub good_part : {h : ℕ} {es : List Event} {work : List ℤ} {p : Progress} → Good h es work p → Good h es (take p.end work) p
good_part {work = work} {p = p} g =
    let n = length-take-le p.end work g.inside in
    record { small = omega (arith, g.small, g.inside, n); inside = omega (arith, n); formed = rw (take-take p.end p.end work (omega arith)) g.formed; proper = rw (standing_part work p) g.proper; fits = rw (standing_part work p) g.fits; room = g.room }

-- for the first events
pub good_first : {h : ℕ} (es fs : List Event) {work : List ℤ} {p : Progress} → Good h (es ++ fs) work p → Good h es work p
good_first es fs g =
    record { small = g.small; inside = g.inside; formed = g.formed; proper = g.proper; fits = g.fits; room = room_first (lines es) (lines fs) (rw (lines-++ es fs) at g.room) }

-- for the events that follow those that happened
pub good_rest : {h : ℕ} (es fs : List Event) {work new : List ℤ} {x y : Bytes} {p q : Progress} → Good h (es ++ fs) work p → Runs es work x p new y q
    → ProperAll (after (standing work p) (lines es)) → Fits h (after (standing work p) (lines es)) → Good h fs new q
good_rest es fs g r a b = record {
  small = omega (arith, g.small, r.size);
  inside = (runs_holds r).inside;
  formed = r.formed;
  proper = rw r.stands a;
  fits = rw r.stands b;
  room = room_rest (lines es) (lines fs) (rw (lines-++ es fs) at g.room) (runs_written r);
}

-- where nothing happened
pub good_still : {h : ℕ} {es : List Event} {work new : List ℤ} {x y : Bytes} {p q : Progress} → Good h es work p → Runs [] work x p new y q → Good h es new q
unfolding after
good_still {es = es} {work = work} {p = p} g r =
    let e : after (standing work p) (lines []) ≡ standing work p = ap (after (standing work p)) lines_none in
    good_rest [] es g r (rw e g.proper) (rw e g.fits)

-- room made: the store may have moved
pub made_runs : {cells end : ℕ} {work new : List ℤ} {newest : List ℕ} {p q : Progress} → p.end ≡ end → MadeRoom cells work end new q.end newest → q.at ≡ p.at → q.lines ≡ p.lines → (log : Bytes) → Runs [] work log p new log q
made_runs {work = work} {p = p} {q = q} a m e f log =
    runs_nothing log p q m.size (record { inside = omega (arith, m.indexed.room); formed = m.indexed.formed; stands = m.stands ∙ ap (λ (n : ℕ). stored (take n work)) (sym a) }) e f
