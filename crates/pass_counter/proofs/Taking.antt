-- A choice taken: its steps write the definition's lines, and leave what the definition says. Assumes nothing.
use mathlib.Core.Path.{◌≡◌, sym, ap, ap₂, ◌∙◌}
use mathlib.Core.List.{List, [], ◌∷◌, ◌++◌, map}
use Prim.Native.Nat.{ℕ, ◌+◌, ◌*◌, ◌≤◌, ◌<◌, ◌^◌}
use native.Mathlib.Omega.{arith}
use lib.IntN.{ℤ, pos, nat_abs}
use lib.ListN.{length, get_or, take, drop, length-append}
use lib.Seq.{take_at, take-take, drop_at}
use Rattle.definition.specs.Literals.{Clause, Formula}
use Rattle.definition.specs.Text.{Bytes}
use Rattle.definition.specs.Standing.{Line, addition, deletion, take_out, after}
use Rattle.definition.specs.Events.{Choice, choice_of}
use Rattle.definition.specs.Counter.{counter, take_choice}
use Rattle.definition.specs.Reencoding.{lines_of}
use Rattle.theory_base.specs.Clauses.{FitAll}
use Rattle.theory_base.proofs.Loops.{getD_mem}
use Rattle.theory_counter.proofs.Front.{taken_lines_are}
use Rattle.theory_counter.specs.Front.{front}
use Rattle.theory_counter.proofs.Counter.{after_choice}
use Rattle.tables.specs.Sizes.{input_reach, log_reach}
use Rattle.tables.specs.Places.{Places}
use Rattle.store.specs.Store.{Formed, stored}
use Rattle.store.proofs.Laws.{formed-++, stored-++, place_within}
use Rattle.index.specs.Index.{Indexed}
use Rattle.index.proofs.Laws.{indexed_inside, indexed_length}
use Rattle.progress.specs.declared.Progress.{Progress}
use Rattle.progress.specs.Progress.{Written, LogRoom}
use Rattle.progress.proofs.Laws.{lines_one, written_then, room_first, room_rest, runs_event}
use Rattle.pairs.specs.Pairs.{PairsTaken, pair_lines}
use Rattle.pairs.proofs.Laws.{front_stands, copies_lines}
use Rattle.pass_counter.specs.Choice.{ChoiceReady, Taken}
use Rattle.progress.specs.Growth.{entries, GrowRoom, Grown}
use Rattle.progress.proofs.Growing.{entries_length}

-- the choice's first literal is in the index's reach
pub first_reached : {l : Clause} → FitAll input_reach l → 1 ≤ length l → nat_abs (get_or l 0 (pos 0)) ≤ log_reach
first_reached {l} f h = omega (arith, (f (get_or l 0 (pos 0)) (getD_mem l 0 (pos 0) (omega arith))).1)

-- ---- the store without the choice and its pairs
module _ {work : List ℤ} {newest : List ℕ} {p : Progress} {l : Clause} {below : ℕ} (g : ChoiceReady work newest p l below)
    {t : List ℕ} (q : Places t l) {cleared : List ℤ} (i : Indexed cleared p.end newest) (z : length cleared ≡ length work)
    {counts : List ℕ} (w : PairsTaken t (take_out l (stored (take p.end work))) (take p.end cleared) counts) where
  abbrev F : Formula
  F = stored (take p.end work)

  abbrev K : Choice
  K = choice_of l below

  abbrev s : List ℤ
  s = take p.end cleared

  front_there : stored s ≡ front F K
  front_there = front_stands g.ready g.good.proper g.small.few q w

  -- the lines in the order in which they are written: counter clauses, the choice, the copies of pairs
  abbrev steps : List Line
  steps = map addition (counter K) ++ ((deletion l ∷ []) ++ pair_lines counts l)

  all_lines : lines_of (take_choice F l K) ≡ steps
  all_lines = taken_lines_are F l K ∙ ap (λ (xs : List Line). map addition (counter K) ++ (deletion l ∷ xs)) (sym (copies_lines g.ready g.good.proper g.small.few q w g.small.old))

  room : LogRoom steps p
  room = rw (lines_one (take_choice F l K) ∙ all_lines) at g.good.room

  pub counter_room : GrowRoom (counter (choice_of l below)) cleared newest p
  counter_room = record { indexed = i; space = omega (arith, g.space, z); log = room_first (map addition (counter K)) _ room }

  module _ {new : List ℤ} {new_newest : List ℕ} {x y : Bytes} {a : Progress} (k : Grown (counter (choice_of l below)) cleared newest x p new new_newest y a) where
    room_choice : LogRoom ((deletion l ∷ []) ++ pair_lines counts l) a
    room_choice = room_rest (map addition (counter K)) _ room k.written

    pub line_room : (a.at + 12 * length l + 4 < 2 ^ 64) × (a.lines + 1 < 2 ^ 64)
    line_room = (omega (arith, room_choice.text, g.small.few), omega (arith, room_choice.count))

    module _ {o : Bytes} {b : Progress} (m : Written (deletion l ∷ []) y a o b) where
      pub last_room : LogRoom (pair_lines counts l) b
      last_room = room_rest (deletion l ∷ []) (pair_lines counts l) room_choice m

      module _ {n : Bytes} {r : Progress} (j : Written (pair_lines counts l) o b n r) (e : b.end ≡ a.end) (f : r.end ≡ b.end) where
        store_size : length s ≡ p.end
        store_size = indexed_length i

        end_same : r.end ≡ a.end
        end_same = f ∙ e

        end_is : r.end ≡ p.end + length (entries (counter K))
        end_is = omega (arith, end_same, k.next, entries_length (counter K))

        whole : take r.end new ≡ s ++ entries (counter K)
        whole = ap (λ (u : ℕ). take u new) end_same ∙ k.filled

        before : take p.end new ≡ s
        before = sym (take-take p.end r.end new (omega (arith, end_is))) ∙ ap (take p.end) whole ∙ take_at s (entries (counter K)) p.end store_size

        behind : drop p.end (take r.end new) ≡ entries (counter K)
        behind = ap (drop p.end) whole ∙ drop_at s (entries (counter K)) p.end store_size

        written : Written (lines_of (take_choice F l K)) x p n r
        written = rw all_lines (written_then k.written (written_then m j))

        formed_then : Formed (s ++ entries (counter K))
        formed_then = formed-++ s (entries (counter K)) w.formed k.formed

        stands_then : stored (take r.end new) ≡ front F K ++ counter K
        stands_then = ap stored whole ∙ stored-++ s (entries (counter K)) w.formed ∙ ap₂ (λ (c d : Formula). c ++ d) front_there k.stands

        after_is : front F K ++ counter K ≡ after F (lines_of (take_choice F l K))
        after_is = sym (ap (after F) (taken_lines_are F l K ∙ sym (taken_lines_are F g.clause K)) ∙ after_choice F g.clause K g.good.fits g.ready)

        indexed_then : Indexed new r.end new_newest
        indexed_then = rw end_same k.indexed

        pub choice_taken : Taken work newest l below x p new new_newest n r
        choice_taken = record {
          ran = runs_event (take_choice F l K) (k.size ∙ z) (record { inside = indexed_inside indexed_then; formed = rw whole formed_then; stands = stands_then }) after_is written;
          place = rw whole (place_within formed_then (omega (arith, store_size, length-append s (entries (counter K)))) (rw (take_at s (entries (counter K)) p.end store_size) w.formed));
          front_stands = ap stored before ∙ front_there;
          counter_stands = ap stored behind ∙ k.stands;
          filled = omega (arith, end_is, entries_length (counter K));
          indexed = indexed_then;
          nodes_are = k.nodes_are;
        }
