-- What stands after the order form, and its lines: after the pass the store holds what is left, the counter clauses and the results, and the deletions are carried out on all of it. Assumes nothing.
use mathlib.Core.Path.{◌≡◌, sym, ap, ap₂, subst, ◌∙◌}
use mathlib.Core.List.Memᴰ
use mathlib.Core.List.{List, ◌++◌, map}
use Prim.Native.Nat.{ℕ, ◌≤◌}
use native.Mathlib.Omega.{arith}
use lib.IntN.{ℤ}
use lib.ListN.{length, take, drop}
use lib.Seq.{take-take, length-take-le}
use Rattle.definition.specs.Lists.{for_each}
use Rattle.definition.specs.Literals.{Clause, Formula}
use Rattle.definition.specs.Text.{Bytes}
use Rattle.definition.specs.Standing.{Line, deletion, after}
use Rattle.definition.specs.Events.{Choice, choice_of}
use Rattle.definition.specs.Counter.{counter}
use Rattle.definition.specs.Order.{replace, order_events}
use Rattle.definition.specs.Reencoding.{lines}
use Rattle.theory_base.specs.Clauses.{ProperAll}
use Rattle.theory_soundness.specs.Removals.{take_all}
use Rattle.theory_order.proofs.Recursive.{deletions}
use Rattle.theory_order.specs.Pass.{kept, added}
use Rattle.theory_order.proofs.Order.{ordered, after_order, order_lines}
use Rattle.store.specs.Store.{Formed, stored}
use Rattle.store.proofs.Laws.{stored-++, stored_split}
use Rattle.progress.specs.declared.Progress.{Progress}
use Rattle.progress.specs.Progress.{Written, LogRoom, standing, Runs}
use Rattle.progress.proofs.Laws.{written_then, room_first, room_rest, runs_lines}
use Rattle.tables.specs.Places.{Places}
use Rattle.lookup.specs.Lookup.{touched_places, Gatherable}
use Rattle.pass_order.specs.Pass.{Tabled}
use Rattle.pass_order.specs.Order.{front, OrderReady, Passed, Deletable, Deletes}

module _ {work : List ℤ} {newest : List ℕ} {p : Progress} {start : ℕ} {l : Clause} {below : ℕ} (r : OrderReady work newest p start l below) where
  abbrev K : Choice
  K = choice_of l below

  abbrev E : Formula
  E = front work start

  abbrev middle : List ℤ
  middle = drop start (take p.end work)

  store_size : length (take p.end work) ≡ p.end
  store_size = length-take-le p.end work r.good.inside

  pub starts : start ≤ p.end
  starts = omega (arith, r.place.inside, store_size)

  front_part : take start (take p.end work) ≡ take start work
  front_part = take-take start p.end work starts

  pub front_formed : Formed (take start work)
  front_formed = rw front_part at r.place.before

  standing_is : standing work p ≡ E ++ counter K
  standing_is = stored_split r.place ∙ ap₂ (λ (a b : Formula). a ++ b) (ap stored front_part) r.counter_stands

  pub front_proper : ProperAll (front work start)
  front_proper d m = r.good.proper d (rw standing_is (Memᴰ.append_left (counter K) m))

  pub table : {t : List ℕ} → Places t l → Tabled t l below
  table v = record { places = v; small = r.small; well_formed = r.before.well_formed }

  lines_are : lines (order_events K (standing work p)) ≡ lines (for_each E (replace K)) ++ map deletion (deletions K)
  lines_are = ap (λ (F : Formula). lines (order_events K F)) standing_is ∙ order_lines K E r.before

  both_room : LogRoom (lines (for_each E (replace K)) ++ map deletion (deletions K)) p
  both_room = subst (λ (ls : List Line). LogRoom ls p) lines_are r.good.room

  pub pass_room : LogRoom (lines (for_each (front work start) (replace (choice_of l below)))) p
  pass_room = room_first (lines (for_each E (replace K))) (map deletion (deletions K)) both_room

  pub gatherable : {list : List ℕ} → length (touched_places l (take start work)) ≤ length list → Gatherable work p.end newest start l list
  gatherable h = record {
    indexed = r.indexed;
    place = r.place;
    few = r.small.few;
    fit = λ x m. let f = r.small.old x m in (f.0, omega (arith, f.1));
    space = h;
  }

  module _ {x y : Bytes} {w : List ℤ} {n : List ℕ} {q : Progress} (i : Passed (choice_of l below) (front work start) (drop start (take p.end work)) start work x p w n y q) where
    store_stands : stored (take q.end w) ≡ kept K E ++ (counter K ++ added K E)
    store_stands =
        ap stored i.parts ∙ stored-++ i.left (middle ++ i.results) i.left_formed
        ∙ ap₂ (λ (F G : Formula). F ++ G) i.left_stands
        (stored-++ middle i.results r.place.rest ∙ ap₂ (λ (F G : Formula). F ++ G) r.counter_stands i.results_stand)

    pub order_deletable : Deletable (deletions K) w n q
    order_deletable = record { indexed = i.indexed; room = room_rest (lines (for_each E (replace K))) (map deletion (deletions K)) both_room i.written }

    pub order_runs : {new : List ℤ} {z : Bytes} {s : Progress} → Deletes (deletions K) w n y q new z s → Runs (order_events (choice_of l below) (standing work p)) work x p new z s
    unfolding ordered
    order_runs {new} {z} {s} d =
        runs_lines {G = ordered E K} (d.size ∙ i.size)
        (record {
          inside = omega (arith, d.indexed.room);
          formed = d.indexed.formed;
          stands = d.stands ∙ ap (λ (F : Formula). take_all F (deletions K)) store_stands;
        })
        (sym (ap (λ (F : Formula). after F (lines (order_events K F))) standing_is ∙ after_order K E r.before))
        (subst (λ (ls : List Line). Written ls x p z s) (sym lines_are) (written_then i.written d.written))
