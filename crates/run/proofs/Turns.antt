-- The choices at their turns: the events so far and those of the choices to come are those of all choices.
use mathlib.Core.Path.{◌≡◌, refl, sym, ap, ◌∙◌, subst}
use mathlib.Core.Bool.{Bool, true, false}
use mathlib.Core.List.{List, [], ◌∷◌, ◌++◌, append_assoc, append-nil}
use Prim.Native.Nat.{ℕ, ◌+◌, ◌-◌, ◌≤◌, ◌<◌, ◌^◌}
use native.Mathlib.Omega.{arith}
use lib.IntN.{ℤ}
use lib.ListN.{length, take, drop}
use Rattle.definition.specs.Literals.{Clause, Formula}
use Rattle.definition.specs.Text.{Bytes}
use Rattle.definition.specs.Standing.{after}
use Rattle.definition.specs.Events.{Event, choice_of}
use Rattle.definition.specs.Counter.{below_new, last_new}
use Rattle.definition.specs.Reencoding.{lines, Form, choice_events, choices_events}
use Rattle.theory_base.proofs.Replay.{lines-++}
use Rattle.theory_room.specs.Choices.{used_after}
use Rattle.theory_room.proofs.Lines.{used_least}
use Rattle.theory_run.specs.Choices.{Takeable, AllTakeable, at_choice, taken_events}
use Rattle.store.specs.Store.{stored, deleted_at, clause_at, past, Place}
use Rattle.store.proofs.Laws.{place_start, place_next, rest_stands, rest_deleted, stored_end, part_there, clause_length, few_stored}
use Rattle.progress.specs.declared.Progress.{Progress}
use Rattle.progress.specs.Progress.{standing, LogRoom, Runs}
use Rattle.progress.proofs.Laws.{lines_none, room_first, room_rest, runs_nothing, runs_holds, runs_written, runs_join, runs_as}
use Rattle.run.specs.declared.Reached.{Reached}
use Rattle.run.specs.Choices.{OneReady, events_at, AtReady, TakenAt, AllReady, TakenAll}

-- the choices before `at` are taken: their events, and what is known of those to come
pub record Turns (form : Form) (g step : ℕ) (work₀ : List ℤ) (log₀ : Bytes) (p₀ : Progress) (n₀ : ℕ) (ls : List Clause) (work : List ℤ) (log : Bytes) (r : Reached) (chosen : List ℤ) (at : ℕ) : Type 0 where
  pub small : length work₀ < 2 ^ 31
  pub few : length ls < 2 ^ 31
  pub events : List Event
  pub place : Place chosen at
  pub runs : Runs events work₀ log₀ p₀ work log r.progress
  pub takeable : AllTakeable form g (length work₀) step r.highest (standing work r.progress) (stored (drop at chosen))
  pub rest : events ++ taken_events form g r.highest (standing work r.progress) (stored (drop at chosen)) ≡ taken_events form g n₀ (standing work₀ p₀) ls
  pub room : LogRoom (lines (taken_events form g r.highest (standing work r.progress) (stored (drop at chosen)))) r.progress
  pub step_least : 1 ≤ g
  pub step_most : g ≤ 100
  pub low : used_after g (λ l. l) n₀ ls ≤ 70_000
  pub counted : r.choices + length (stored (drop at chosen)) ≡ length ls
  pub used : used_after g (λ l. l) r.highest (stored (drop at chosen)) ≡ used_after g (λ l. l) n₀ ls

-- before the first
abbrev pub none_yet : Progress → ℕ → Reached
none_yet p n = record { progress = p; choices = 0; highest = n }

pub turns_start : {form : Form} {g step : ℕ} {work : List ℤ} {p : Progress} {chosen : List ℤ} {n : ℕ} (log : Bytes) → AllReady form g step work p chosen n → Turns form g step work log p n (stored chosen) work log (none_yet p n) chosen 0
turns_start {work = work} {p} {chosen} log a = record {
  small = a.good.small;
  few = omega (arith, a.few, few_stored chosen);
  events = [];
  place = place_start a.chosen_formed;
  runs = runs_nothing log p p refl (record { inside = a.good.inside; formed = a.good.formed; stands = refl }) refl refl;
  takeable = a.takeable;
  rest = refl;
  room = a.good.room;
  step_least = a.step_least;
  step_most = a.step_most;
  low = a.low;
  counted = omega arith;
  used = refl;
}

-- ---- the events of choices

taken_cons : (form : Form) (g n : ℕ) (F : Formula) (l : Clause) (ls : List Clause) → let k = choice_of l (below_new g n) in
    taken_events form g n F (l ∷ ls) ≡ choice_events form F l k ++ taken_events form g (last_new k) (after F (lines (choice_events form F l k))) ls
unfolding choices_events
taken_cons form g n F l ls = refl

taken_nil : (form : Form) (g n : ℕ) (F : Formula) → taken_events form g n F [] ≡ []
unfolding choices_events
taken_nil form g n F = refl

-- the first choice to come, and those behind it
first_takeable : {form : Form} {g size step n : ℕ} {F : Formula} {l : Clause} {ls : List Clause} → AllTakeable form g size step n F (l ∷ ls) → (c : Clause) × Takeable size step F c (choice_of l (below_new g n))
first_takeable (at_choice c t r) = (c, t)

rest_takeable : {form : Form} {g size step n : ℕ} {F : Formula} {l : Clause} {ls : List Clause} → AllTakeable form g size step n F (l ∷ ls) → let k = choice_of l (below_new g n) in
    AllTakeable form g size step (last_new k) (after F (lines (choice_events form F l k))) ls
rest_takeable (at_choice c t r) = r

-- ---- at a turn

module _ {form : Form} {g step : ℕ} {work₀ : List ℤ} {log₀ : Bytes} {p₀ : Progress} {n₀ : ℕ} {ls : List Clause} {work : List ℤ} {log : Bytes} {r : Reached} {chosen : List ℤ} {at : ℕ}
    (t : Turns form g step work₀ log₀ p₀ n₀ ls work log r chosen at) where
  abbrev F : Formula
  F = standing work r.progress

  abbrev l : Clause
  l = clause_at chosen at

  abbrev behind : List Clause
  behind = stored (drop (past chosen at) chosen)

  module _ (h : at < length chosen) where
    module _ (e : deleted_at chosen at ≡ false) where
      stands : stored (drop at chosen) ≡ l ∷ behind
      stands = rest_stands chosen at h e

      events_here : let k = choice_of l (below_new g r.highest) in
          taken_events form g r.highest F (stored (drop at chosen)) ≡ choice_events form F l k ++ taken_events form g (last_new k) (after F (lines (choice_events form F l k))) behind
      events_here = ap (taken_events form g r.highest F) stands ∙ taken_cons form g r.highest F l behind

      -- no variable passes 70,000
      below_few : below_new g r.highest + length l ≤ 70_001
      unfolding used_after last_new
      below_few =
          let k = choice_of l (below_new g r.highest) in
          omega (arith, ap (used_after g (λ l. l) r.highest) stands, t.used, t.low, used_least g (λ l. l) (last_new k) behind)

      one_ready : OneReady form step work r.progress l (below_new g r.highest)
      one_ready =
          let k = choice_of l (below_new g r.highest) in
          let f = first_takeable (rw stands at t.takeable) in
          let es = choice_events form F l k in
          let more = taken_events form g (last_new k) (after F (lines es)) behind in
          record {
            good = record {
              small = omega (arith, t.small, t.runs.size);
              inside = (runs_holds t.runs).inside;
              formed = t.runs.formed;
              proper = f.1.proper;
              fits = f.1.fits;
              room = room_first (lines es) (lines more) (rw (ap lines events_here ∙ lines-++ es more) at t.room);
            };
            clause = f.0;
            takeable = rw t.runs.size f.1;
            new_few = below_few;
          }

    pub at_ready : AtReady form g step work r chosen at
    at_ready = record {
      inside = (runs_holds t.runs).inside;
      formed = t.runs.formed;
      at_inside = h;
      rest = t.place.rest;
      few = omega (arith, t.counted, t.few);
      step_least = t.step_least;
      step_most = t.step_most;
      low = omega (arith, t.used, t.low, used_least g (λ l. l) r.highest (stored (drop at chosen)));
      one = one_ready;
    }

    -- ---- to the next

    module _ {new : List ℤ} {new_log : Bytes} {q : Reached} (a : TakenAt form g work log r chosen at new new_log q) where
      -- where G stands and n is the highest variable used
      turn : (G : Formula) (n m : ℕ) → standing new q.progress ≡ G → q.highest ≡ n → q.choices ≡ r.choices + m → m + length behind ≡ length (stored (drop at chosen)) →
          used_after g (λ l. l) n behind ≡ used_after g (λ l. l) r.highest (stored (drop at chosen)) → AllTakeable form g (length work₀) step n G behind →
          taken_events form g r.highest F (stored (drop at chosen)) ≡ events_at form g F chosen at r.highest ++ taken_events form g n G behind →
          Turns form g step work₀ log₀ p₀ n₀ ls new new_log q chosen (past chosen at)
      turn G n m f u c d v k e =
          let es = events_at form g F chosen at r.highest in
          let more = taken_events form g n G behind in
          record {
            small = t.small;
            few = t.few;
            events = t.events ++ es;
            place = place_next chosen at h t.place;
            runs = runs_join t.runs a.runs;
            takeable = rw (f, u) k;
            rest = rw (f, u) (append_assoc t.events es more ∙ ap (λ (zs : List Event). t.events ++ zs) (sym e) ∙ t.rest);
            room = rw (f, u) (room_rest (lines es) (lines more) (rw (ap lines e ∙ lines-++ es more) at t.room) (runs_written a.runs));
            step_least = t.step_least;
            step_most = t.step_most;
            low = t.low;
            counted = omega (arith, t.counted, c, d);
            used = rw u (v ∙ t.used);
          }

      turned : (b : Bool) → deleted_at chosen at ≡ b → Turns form g step work₀ log₀ p₀ n₀ ls new new_log q chosen (past chosen at)
      unfolding after used_after
      turned true e =
          turn F r.highest 0 (a.runs.stands ∙ rw (e, lines_none) refl) (a.highest ∙ rw e refl) (a.choices ∙ rw e refl) (omega (arith, ap length (rest_deleted chosen at h e)))
          (ap (used_after g (λ l. l) r.highest) (sym (rest_deleted chosen at h e)))
          (rw (rest_deleted chosen at h e) at t.takeable)
          (rw (e, rest_deleted chosen at h e) refl)
      turned false e =
          let k = choice_of l (below_new g r.highest) in
          turn (after F (lines (choice_events form F l k))) (last_new k) 1 (a.runs.stands ∙ rw e refl) (a.highest ∙ rw e refl) (a.choices ∙ rw e refl) (omega (arith, ap length (stands e)))
          (ap (used_after g (λ l. l) r.highest) (sym (stands e)))
          (rest_takeable (rw (stands e) at t.takeable))
          (rw e (events_here e))

      pub turns_next : Turns form g step work₀ log₀ p₀ n₀ ls new new_log q chosen (past chosen at)
      turns_next = turned (deleted_at chosen at) refl

  pub turns_end : length chosen ≤ at → TakenAll form g work₀ log₀ p₀ ls n₀ work log r
  unfolding used_after
  turns_end h =
      let e : stored (drop at chosen) ≡ [] = stored_end chosen at h in
      record {
        runs = runs_as (ap lines (sym (append-nil t.events) ∙ ap (λ (es : List Event). t.events ++ es) (sym (ap (taken_events form g r.highest F) e ∙ taken_nil form g r.highest F)) ∙ t.rest)) t.runs;
        choices = omega (arith, t.counted, ap length e);
        highest = ap (used_after g (λ l. l) r.highest) (sym e) ∙ t.used;
      }

-- ---- the choice at a place

module _ {form : Form} {g step : ℕ} {work : List ℤ} {r : Reached} {chosen : List ℤ} {at : ℕ} (a : AtReady form g step work r chosen at) where
  pub none_taken : (log : Bytes) → deleted_at chosen at ≡ true → TakenAt form g work log r chosen at work log r
  none_taken log e = record {
    runs = rw e (runs_nothing log r.progress r.progress refl (record { inside = a.inside; formed = a.formed; stands = refl }) refl refl);
    choices = rw e (omega arith);
    highest = rw e refl;
  }

  pub one_takeable : (next below : ℕ) → deleted_at chosen at ≡ false → next ≡ past chosen at → below ≡ below_new g r.highest → OneReady form step work r.progress (take (next - (at + 1)) (drop (at + 1) chosen)) below
  one_takeable next below e n b = rw b (subst (λ (l : Clause). OneReady form step work r.progress l (below_new g r.highest)) (sym (part_there chosen at next n)) (a.one e))

  -- its literals, and the place past it
  module _ (next : ℕ) (e : deleted_at chosen at ≡ false) (n : next ≡ past chosen at) where
    size_here : next ≡ at + (1 + length (clause_at chosen at))
    size_here = omega (arith, n, clause_length chosen at a.at_inside a.rest)

    pub one_small : (5 ≤ next - (at + 1)) × (next - (at + 1) ≤ 64) × (below_new g r.highest ≤ 70_001)
    one_small = let t = (a.one e).takeable in (omega (arith, size_here, t.least), omega (arith, size_here, t.most), omega (arith, (a.one e).new_few))

    pub one_taken : {log z : Bytes} {w : List ℤ} {q : Progress} (below m : ℕ) → below ≡ below_new g r.highest → m ≡ next - (at + 1) - 1 →
        let part = take (next - (at + 1)) (drop (at + 1) chosen) in
        Runs (choice_events form (standing work r.progress) part (choice_of part below)) work log r.progress w z q →
        TakenAt form g work log r chosen at w z (record { progress = q; choices = r.choices + 1; highest = below + m })
    unfolding last_new
    one_taken below m b d f = record {
      runs = rw e (rw (part_there chosen at next n, b) at f);
      choices = rw e refl;
      highest = rw e (omega (arith, b, d, size_here));
    }
