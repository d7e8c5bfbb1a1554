-- The pass over the store: what is left of the clauses gone through, and their results behind the store. Between two touched clauses nothing happens, so the walk goes on to the next one by recursion along the entries. Assumes nothing.
use mathlib.Core.Path.{◌≡◌, refl, sym, ap, ap₂, subst, ◌∙◌}
use mathlib.Core.Bool.{true, false, not, cond}
use mathlib.Core.List.Memᴰ
use mathlib.Core.List.Memᴰ.{head as here}
use mathlib.Core.List.{List, [], ◌∷◌, ◌++◌, append-nil, append_assoc, Memᴰ}
use Prim.Native.Nat.{ℕ, zero, suc, ◌+◌, ◌≤◌, ◌<◌}
use native.Mathlib.Omega.{arith}
use lib.Dec.{ltb}
use lib.IntN.{ℤ, pos}
use lib.ListN.{length, set, take, drop, length-append, length-set, take-append-drop, get_or-append}
use lib.Seq.{length-take-le, take_all, take_at, take-take, take-append-le, set-append_left}
use borrow.Author.Tests.{ltb-true, ltb-false}
use Rattle.definition.specs.Lists.{those, only_if, for_each}
use Rattle.definition.specs.Literals.{Clause, Formula, opposes}
use Rattle.definition.specs.Text.{Bytes}
use Rattle.definition.specs.Standing.{Line}
use Rattle.definition.specs.Events.{Choice, Event, clause_replaced}
use Rattle.definition.specs.Order.{replacement_lines, replaced, replace}
use Rattle.definition.specs.Reencoding.{lines, lines_of}
use Rattle.theory_base.proofs.Tests.{by_test}
use Rattle.theory_base.proofs.Members.{those-++}
use Rattle.theory_base.specs.Clauses.{ProperAll}
use Rattle.theory_base.specs.Cells.{cells_of}
use Rattle.theory_base.proofs.Clauses.{numbers-++, literals-++}
use Rattle.theory_base.proofs.Loops.{for_each-++}
use Rattle.theory_base.proofs.Replay.{lines-++}
use Rattle.theory_base.proofs.Slices.{drop_step, drop_end}
use Rattle.theory_order.specs.Pass.{kept, added, results as results_of, Before}
use Rattle.literals.specs.Literal.{header_literals, flip}
use Rattle.store.specs.Store.{Formed, stored, header_at, deleted_at, clause_at, size_at, past, marked, Place}
use Rattle.store.proofs.Laws.{formed-++, stored-++, stored_none, place_start, place_next, place_formed, place_within, formed_next, prefix_header, prefix_deleted, prefix_stands, prefix_clause, rest_deleted, rest_stands, past_is, drop_past, marked_place, marked_past, marked_behind, marked_prefix, stored_end}
use Rattle.index.specs.Index.{Indexed, Roomy}
use Rattle.lookup.specs.Lookup.{touched_from, touched_places}
use Rattle.progress.specs.declared.Progress.{Progress}
use Rattle.progress.specs.Progress.{Written, LogRoom}
use Rattle.progress.proofs.Laws.{lines_none, lines_one, written_none, written_then, room_first, room_rest}
use Rattle.progress.specs.Growth.{entries}
use Rattle.pass_order.specs.Pass.{result_of, Replaceable, ReplacedAt}
use Rattle.pass_order.specs.Order.{Passed}

-- ---- one more clause gone through
module _ (k : Choice) (X : Formula) (d : Clause) where
  added_more : added k (X ++ (d ∷ [])) ≡ added k X ++ results_of k d
  unfolding for_each
  added_more = for_each-++ X (d ∷ []) (results_of k) ∙ ap (λ (r : Formula). added k X ++ r) (append-nil (results_of k d))

  added_first : added k (d ∷ X) ≡ results_of k d ++ added k X
  unfolding for_each
  added_first = refl

  lines_more : lines (for_each (X ++ (d ∷ [])) (replace k)) ≡ lines (for_each X (replace k)) ++ lines (replace k d)
  unfolding for_each
  lines_more =
      ap lines (for_each-++ X (d ∷ []) (replace k) ∙ ap (λ (r : List Event). for_each X (replace k) ++ r) (append-nil (replace k d)))
      ∙ lines-++ (for_each X (replace k)) (replace k d)

  module _ (e : opposes k.literals d ≡ false) where
    kept_stays : kept k (X ++ (d ∷ [])) ≡ kept k X ++ (d ∷ [])
    unfolding those
    kept_stays = those-++ (λ c. not (opposes k.literals c)) X (d ∷ []) ∙ rw e refl

    added_none : added k (X ++ (d ∷ [])) ≡ added k X
    unfolding only_if
    added_none = added_more ∙ rw e (append-nil (added k X))

    added_later : added k (d ∷ X) ≡ added k X
    unfolding only_if
    added_later = added_first ∙ rw e refl

    lines_same : lines (for_each (X ++ (d ∷ [])) (replace k)) ≡ lines (for_each X (replace k))
    unfolding replace only_if
    lines_same = lines_more ∙ rw e (rw lines_none (append-nil (lines (for_each X (replace k)))))

  module _ (e : opposes k.literals d ≡ true) where
    results_are : results_of k d ≡ result_of k d
    unfolding only_if
    results_are = rw e refl

    kept_gone : kept k (X ++ (d ∷ [])) ≡ kept k X
    unfolding those
    kept_gone = those-++ (λ c. not (opposes k.literals c)) X (d ∷ []) ∙ rw e (append-nil (kept k X))

    cells_first : cells_of (added k (d ∷ X)) ≡ cells_of (result_of k d) + cells_of (added k X)
    cells_first =
        omega (arith, ap cells_of (added_first ∙ ap (λ (r : Formula). r ++ added k X) results_are), numbers-++ (result_of k d) (added k X), literals-++ (result_of k d) (added k X))

    lines_replaced : lines (for_each (X ++ (d ∷ [])) (replace k)) ≡ lines (for_each X (replace k)) ++ replacement_lines d (replaced k d)
    unfolding replace only_if lines_of
    lines_replaced = lines_more ∙ rw e (ap (λ (r : List Line). lines (for_each X (replace k)) ++ r) (lines_one (clause_replaced d (replaced k d))))

-- ---- the touched places from an entry on

touched_later : (l : Clause) (k at : ℕ) (s : List ℤ) → touched_from l k at s ≡ touched_from l 0 (at + k) (drop k s)
unfolding touched_from
touched_later l zero at s = let e : at + 0 ≡ at = omega arith in rw e refl
touched_later l (suc k) at [] = refl
touched_later l (suc k) at (x ∷ s) = let e : at + suc k ≡ at + 1 + k = omega arith in rw e (touched_later l k (at + 1) s)

touched_end : (l : Clause) (at : ℕ) (s : List ℤ) → length s ≤ at → touched_from l 0 at (drop at s) ≡ []
unfolding touched_from
touched_end l at s h = rw (drop_end s at h) refl

module _ (l : Clause) (s : List ℤ) (at : ℕ) (h : at < length s) where
  abbrev later : List ℕ
  later = touched_from l 0 (past s at) (drop (past s at) s)

  later_is : touched_from l (size_at s at) (at + 1) (drop (at + 1) s) ≡ later
  later_is =
      touched_later l (size_at s at) (at + 1) (drop (at + 1) s)
      ∙ ap₂ (λ (n : ℕ) (r : List ℤ). touched_from l 0 n r) (past_is s at h) (drop_past s at h)

  touched_next : touched_from l 0 at (drop at s) ≡ cond (deleted_at s at) later (cond (opposes l (clause_at s at)) (at ∷ later) later)
  unfolding touched_from
  touched_next = rw (drop_step s at (pos 0) h) (rw later_is refl)

  touched_deleted : deleted_at s at ≡ true → touched_from l 0 at (drop at s) ≡ later
  touched_deleted d = touched_next ∙ rw d refl

  module _ (d : deleted_at s at ≡ false) where
    touched_other : opposes l (clause_at s at) ≡ false → touched_from l 0 at (drop at s) ≡ later
    touched_other o = touched_next ∙ rw (d, o) refl

    touched_here : opposes l (clause_at s at) ≡ true → touched_from l 0 at (drop at s) ≡ at ∷ later
    touched_here o = touched_next ∙ rw (d, o) refl

-- ---- the loop

-- the clauses before `at` are gone through; `left` is now the store up to `start`
pub record Passing (k : Choice) (E : Formula) (middle : List ℤ) (start : ℕ) (old : List ℤ) (x : Bytes) (p : Progress) (left : List ℤ) (at : ℕ) (work : List ℤ) (newest : List ℕ) (log : Bytes) (q : Progress) : Type 0 where
  pub results : List ℤ
  pub done : Formula
  pub all : done ++ stored (drop at left) ≡ E
  pub size : length work ≡ length old
  pub parts : take q.end work ≡ left ++ (middle ++ results)
  pub left_size : length left ≡ start
  pub place : Place left at
  pub left_stands : stored (take at left) ≡ kept k done
  pub results_formed : Formed results
  pub results_stand : stored results ≡ added k done
  pub written : Written (lines (for_each done (replace k))) x p log q
  pub indexed : Indexed work q.end newest
  pub space : Roomy (cells_of (added k (stored (drop at left)))) work q.end newest

passing_start : (k : Choice) (work : List ℤ) (newest : List ℕ) (start : ℕ) (x : Bytes) (p : Progress) → start ≤ p.end → Indexed work p.end newest →
    Formed (take start work) → Roomy (cells_of (added k (stored (take start work)))) work p.end newest →
    Passing k (stored (take start work)) (drop start (take p.end work)) start work x p (take start work) 0 work newest x p
unfolding for_each those
passing_start k work newest start x p s i f r = record {
  results = [];
  done = [];
  all = refl;
  size = refl;
  parts =
      sym (ap₂ (λ (a b : List ℤ). a ++ b) (sym (take-take start p.end work s)) (append-nil (drop start (take p.end work)))
      ∙ take-append-drop start (take p.end work));
  left_size = length-take-le start work (omega (arith, i.room));
  place = place_start f;
  left_stands = stored_none;
  results_formed = tt;
  results_stand = stored_none;
  written = rw lines_none (written_none x p p refl refl);
  indexed = i;
  space = r;
}

module _ {k : Choice} {E : Formula} {middle : List ℤ} {start : ℕ} {old : List ℤ} {x : Bytes} {p : Progress} {L : List ℤ} {at : ℕ} {work : List ℤ} {newest : List ℕ} {log : Bytes} {q : Progress} (i : Passing k E middle start old x p L at work newest log q) (h : at < start) where
  abbrev behind : List ℤ
  behind = middle ++ i.results

  inside : at < length L
  inside = omega (arith, i.left_size)

  store_size : length (take q.end work) ≡ q.end
  store_size = length-take-le q.end work (omega (arith, i.indexed.room))

  start_inside : start ≤ q.end
  start_inside = omega (arith, store_size, ap length i.parts, length-append L behind, i.left_size)

  within : start ≤ length work
  within = omega (arith, start_inside, i.indexed.room)

  front_is : take start work ≡ L
  front_is = sym (take-take start q.end work start_inside) ∙ ap (take start) i.parts ∙ take_at L behind start i.left_size

  header : header_at work at ≡ header_at L at
  header = sym (prefix_header work start at h within) ∙ ap (λ (s : List ℤ). header_at s at) front_is

  past_inside : past L at ≤ start
  past_inside = omega (arith, (formed_next L at inside i.place.rest).0, i.left_size)

  clause_same : clause_at work at ≡ clause_at L at
  clause_same = sym (prefix_clause work start at h within (omega (arith, ap header_literals header, past_inside))) ∙ ap (λ (s : List ℤ). clause_at s at) front_is

  place_there : Place (take q.end work) at
  place_there =
      place_within i.indexed.formed (omega (arith, store_size, start_inside))
      (subst (λ (s : List ℤ). Formed s) (sym (ap (take at) i.parts ∙ take-append-le at L behind (omega (arith, inside)))) i.place.before)

  -- ---- a deleted clause is passed over
  passing_deleted : deleted_at L at ≡ true → Passing k E middle start old x p L (past L at) work newest log q
  passing_deleted d =
      let e : stored (drop (past L at) L) ≡ stored (drop at L) = sym (rest_deleted L at inside d) in
      record {
        results = i.results;
        done = i.done;
        all = ap (λ (r : Formula). i.done ++ r) e ∙ i.all;
        size = i.size;
        parts = i.parts;
        left_size = i.left_size;
        place = place_next L at inside i.place;
        left_stands = prefix_deleted L at inside i.place d ∙ i.left_stands;
        results_formed = i.results_formed;
        results_stand = i.results_stand;
        written = i.written;
        indexed = i.indexed;
        space = subst (λ (F : Formula). Roomy (cells_of (added k F)) work q.end newest) (sym e) i.space;
      }

  module _ (d : deleted_at L at ≡ false) where
    abbrev c : Clause
    c = clause_at L at

    abbrev others : Formula
    others = stored (drop (past L at) L)

    rest_is : stored (drop at L) ≡ c ∷ others
    rest_is = rest_stands L at inside d

    among : i.done ++ (c ∷ others) ≡ E
    among = ap (λ (r : Formula). i.done ++ r) (sym rest_is) ∙ i.all

    one_more : (i.done ++ (c ∷ [])) ++ others ≡ E
    one_more = append_assoc i.done (c ∷ []) others ∙ among

    member : Memᴰ c E
    member = subst (λ (r : Formula). Memᴰ c r) among (Memᴰ.append_right i.done (here refl))

    space_is : Roomy (cells_of (added k (c ∷ others))) work q.end newest
    space_is = subst (λ (F : Formula). Roomy (cells_of (added k F)) work q.end newest) rest_is i.space

    -- ---- a clause without negated choice literals stays
    passing_kept : opposes k.literals c ≡ false → Passing k E middle start old x p L (past L at) work newest log q
    passing_kept o = record {
      results = i.results;
      done = i.done ++ (c ∷ []);
      all = one_more;
      size = i.size;
      parts = i.parts;
      left_size = i.left_size;
      place = place_next L at inside i.place;
      left_stands = prefix_stands L at inside i.place d ∙ ap (λ (r : Formula). r ++ (c ∷ [])) i.left_stands ∙ sym (kept_stays k i.done c o);
      results_formed = i.results_formed;
      results_stand = i.results_stand ∙ sym (added_none k i.done c o);
      written = rw (lines_same k i.done c o) i.written;
      indexed = i.indexed;
      space = subst (λ (F : Formula). Roomy (cells_of F) work q.end newest) (added_later k others c o) space_is;
    }

    module _ (o : opposes k.literals c ≡ true) where
      cells : cells_of (added k (c ∷ others)) ≡ cells_of (result_of k c) + cells_of (added k others)
      cells = cells_first k others c o

      lines_split : lines (for_each E (replace k)) ≡ lines (for_each i.done (replace k)) ++ (replacement_lines c (replaced k c) ++ lines (for_each others (replace k)))
      lines_split =
          ap (λ (r : Formula). lines (for_each r (replace k))) (sym one_more)
          ∙ ap lines (for_each-++ (i.done ++ (c ∷ [])) others (replace k)) ∙ lines-++ (for_each (i.done ++ (c ∷ [])) (replace k)) (for_each others (replace k))
          ∙ ap (λ (r : List Line). r ++ lines (for_each others (replace k))) (lines_replaced k i.done c o)
          ∙ append_assoc (lines (for_each i.done (replace k))) (replacement_lines c (replaced k c)) (lines (for_each others (replace k)))

      replaceable : Before E k → ProperAll E → LogRoom (lines (for_each E (replace k))) p → Replaceable k c work newest q
      replaceable b a r = record {
        proper = a c member;
        fit = b.fits c member;
        space = omega (arith, space_is, cells);
        room = room_first (replacement_lines c (replaced k c)) (lines (for_each others (replace k)))
            (room_rest (lines (for_each i.done (replace k))) (replacement_lines c (replaced k c) ++ lines (for_each others (replace k))) (subst (λ (ls : List Line). LogRoom ls p) lines_split r) i.written);
      }

      -- ---- a clause is replaced
      module _ {z : Bytes} {new : List ℤ} {table : List ℕ} {r : Progress} (v : ReplacedAt k c work newest at log q new table z r) where
        abbrev W : List ℤ
        W = entries (result_of k c)

        new_place : Place (marked L at) (past L at)
        new_place = subst (λ (r : ℕ). Place (marked L at) r) (marked_past L at inside) (place_next (marked L at) at (rw length-set inside) (marked_place L at inside i.place))

        new_parts : take r.end new ≡ marked L at ++ (middle ++ (i.results ++ W))
        new_parts =
            v.filled
            ∙ ap (λ (s : List ℤ). s ++ W) (ap (λ (s : List ℤ). marked s at) i.parts
            ∙ ap (λ (y : ℤ). set (L ++ behind) at (flip y)) (get_or-append L behind (pos 0) at inside)
            ∙ set-append_left L behind at (flip (header_at L at)) inside)
            ∙ append_assoc (marked L at) behind W ∙ ap (λ (s : List ℤ). marked L at ++ s) (append_assoc middle i.results W)

        rest_same : drop (past L at) (marked L at) ≡ drop (past L at) L
        rest_same = marked_behind L at inside (past L at) (omega arith)

        passing_replaced : Passing k E middle start old x p (marked L at) (past L at) new table z r
        passing_replaced = record {
          results = i.results ++ W;
          done = i.done ++ (c ∷ []);
          all = ap (λ (r : List ℤ). (i.done ++ (c ∷ [])) ++ stored r) rest_same ∙ one_more;
          size = v.size ∙ i.size;
          parts = new_parts;
          left_size = length-set L at (flip (header_at L at)) ∙ i.left_size;
          place = new_place;
          left_stands = marked_prefix L at inside i.place d ∙ i.left_stands ∙ sym (kept_gone k i.done c o);
          results_formed = formed-++ i.results W i.results_formed v.formed;
          results_stand =
              stored-++ i.results W i.results_formed ∙ ap₂ (λ (a b : Formula). a ++ b) i.results_stand (v.stands ∙ sym (results_are k others c o)) ∙ sym (added_more k i.done c);
          written = rw (lines_replaced k i.done c o) (written_then i.written v.written);
          indexed = v.indexed;
          space =
              subst (λ (s : List ℤ). Roomy (cells_of (added k (stored s))) new r.end table) (sym rest_same)
              (omega (arith, space_is, cells, v.next, v.nodes_are, v.size));
        }

-- ---- on to the next touched clause

-- the clauses before `at` are gone through, and a touched one stands there, unless that is `start`; ps are the places still to come
pub record Turning (k : Choice) (E : Formula) (middle : List ℤ) (start : ℕ) (old : List ℤ) (x : Bytes) (p : Progress) (ps : List ℕ) (work : List ℤ) (newest : List ℕ) (log : Bytes) (q : Progress) : Type 0 where
  pub left : List ℤ
  pub at : ℕ
  pub passing : Passing k E middle start old x p left at work newest log q
  pub listed : ps ≡ touched_from k.literals 0 at (drop at left)
  pub touched : at < start → (deleted_at left at ≡ false) × (opposes k.literals (clause_at left at) ≡ true)

module _ {k : Choice} {E : Formula} {middle : List ℤ} {start : ℕ} {old : List ℤ} {x : Bytes} {p : Progress} {L : List ℤ} {work : List ℤ} {newest : List ℕ} {log : Bytes} {q : Progress} where
  -- n bounds how far it is to `start`
  turning : {ps : List ℕ} (n at : ℕ) → start ≤ at + n → Passing k E middle start old x p L at work newest log q → ps ≡ touched_from k.literals 0 at (drop at L) → Turning k E middle start old x p ps work newest log q
  turning zero at b i e = record { left = L; at = at; passing = i; listed = e; touched = λ h. absurd (omega arith) }
  turning {ps} (suc n) at b i e = by_test (ltb at start) (λ t. on (ltb-true at start t) (λ j f. turning n (past L at) (omega arith) j (e ∙ f))) over
    where
      over : ltb at start ≡ false → Turning k E middle start old x p ps work newest log q
      over t = let g = ltb-false at start t in record { left = L; at = at; passing = i; listed = e; touched = λ h. absurd (omega arith) }

      on : at < start → (Passing k E middle start old x p L (past L at) work newest log q → touched_from k.literals 0 at (drop at L) ≡ touched_from k.literals 0 (past L at) (drop (past L at) L) → Turning k E middle start old x p ps work newest log q) → Turning k E middle start old x p ps work newest log q
      on h further =
          let u = inside i h in
          by_test (deleted_at L at)
          (λ d. further (passing_deleted i h d) (touched_deleted k.literals L at u d))
          (λ d. by_test (opposes k.literals (clause_at L at))
          (λ o. record { left = L; at = at; passing = i; listed = e; touched = λ g. (d, o) })
          (λ o. further (passing_kept i h d o) (touched_other k.literals L at u d o)))

pub turning_start : (k : Choice) (work : List ℤ) (newest : List ℕ) (start : ℕ) (x : Bytes) (p : Progress) → start ≤ p.end → Indexed work p.end newest →
    Formed (take start work) → Roomy (cells_of (added k (stored (take start work)))) work p.end newest →
    {ps : List ℕ} → ps ≡ touched_places k.literals (take start work) → Turning k (stored (take start work)) (drop start (take p.end work)) start work x p ps work newest x p
turning_start k work newest start x p s i f r e = turning start 0 (omega arith) (passing_start k work newest start x p s i f r) e

module _ {k : Choice} {E : Formula} {middle : List ℤ} {start : ℕ} {old : List ℤ} {x : Bytes} {p : Progress} {ps : List ℕ} {work : List ℤ} {newest : List ℕ} {log : Bytes} {q : Progress} (t : Turning k E middle start old x p ps work newest log q) where
  none_touched_behind : start ≤ t.at → ps ≡ []
  none_touched_behind h = t.listed ∙ touched_end k.literals t.at t.left (omega (arith, t.passing.left_size))

  -- a place is left, so the walk has not ended
  module _ {a : ℕ} {qs : List ℕ} (e : ps ≡ a ∷ qs) where
    before_start : t.at < start
    before_start =
        by_test (ltb t.at start) (ltb-true t.at start)
        (λ f. let z = ap length (sym e ∙ none_touched_behind (ltb-false t.at start f)) in absurd (omega arith))

    stands : deleted_at t.left t.at ≡ false
    stands = (t.touched before_start).0

    opposing : opposes k.literals (clause_at t.left t.at) ≡ true
    opposing = (t.touched before_start).1

    first_is : a ∷ qs ≡ t.at ∷ touched_from k.literals 0 (past t.left t.at) (drop (past t.left t.at) t.left)
    first_is = sym e ∙ t.listed ∙ touched_here k.literals t.left t.at (inside t.passing before_start) stands opposing

    at_is : t.at ≡ a
    at_is = cc first_is

    clause_is : clause_at work a ≡ clause_at t.left t.at
    clause_is = ap (clause_at work) (sym at_is) ∙ clause_same t.passing before_start

    pub turning_place : Place (take q.end work) a
    turning_place = subst (λ (m : ℕ). Place (take q.end work) m) at_is (place_there t.passing before_start)

    pub turning_inside : a < q.end
    turning_inside = omega (arith, before_start, start_inside t.passing before_start, at_is)

    pub turning_replaceable : Before E k → ProperAll E → LogRoom (lines (for_each E (replace k))) p → Replaceable k (clause_at work a) work newest q
    turning_replaceable b u r = subst (λ (c : Clause). Replaceable k c work newest q) (sym clause_is) (replaceable t.passing before_start stands opposing b u r)

    pub turning_replaced : {new : List ℤ} {n : List ℕ} {y : Bytes} {r : Progress} → ReplacedAt k (clause_at work a) work newest a log q new n y r → Turning k E middle start old x p qs new n y r
    turning_replaced {new} {n} {y} {r} v =
        let w : ReplacedAt k (clause_at t.left t.at) work newest t.at log q new n y r =
        subst (λ (m : ℕ). ReplacedAt k (clause_at t.left t.at) work newest m log q new n y r) (sym at_is)
        (subst (λ (c : Clause). ReplacedAt k c work newest a log q new n y r) clause_is v) in
        let f : qs ≡ touched_from k.literals 0 (past t.left t.at) (drop (past t.left t.at) t.left) = cc first_is in
        turning start (past t.left t.at) (omega arith) (passing_replaced t.passing before_start stands opposing w)
        (f ∙ ap (touched_from k.literals 0 (past t.left t.at)) (sym (rest_same t.passing before_start stands opposing w)))

  -- no place is left, so the walk has ended
  module _ (e : ps ≡ []) where
    start_reached : start ≤ t.at
    start_reached = by_test (ltb t.at start) on (ltb-false t.at start)
      where
        on : ltb t.at start ≡ true → start ≤ t.at
        on f =
            let h = ltb-true t.at start f in
            let u = t.touched h in
            let z = ap length (sym e ∙ t.listed ∙ touched_here k.literals t.left t.at (inside t.passing h) u.0 u.1) in
            absurd (omega arith)

    pub turning_end : Passed k E middle start old x p work newest log q
    turning_end =
        let i = t.passing in
        let L = t.left in
        let a : i.done ≡ E = sym (append-nil i.done) ∙ ap (λ (r : Formula). i.done ++ r) (sym (stored_end L t.at (omega (arith, i.left_size, start_reached)))) ∙ i.all in
        record {
          left = L;
          results = i.results;
          size = i.size;
          parts = i.parts;
          left_size = i.left_size;
          left_formed = place_formed i.place;
          left_stands = ap stored (sym (take_all t.at L (omega (arith, i.left_size, start_reached)))) ∙ i.left_stands ∙ ap (kept k) a;
          results_formed = i.results_formed;
          results_stand = i.results_stand ∙ ap (added k) a;
          written = rw a at i.written;
          indexed = i.indexed;
        }
