-- The phases of a run, one after another: what each asks for follows from what theory says of an accepted input.
use mathlib.Core.Path.{◌≡◌, sym, ap, ◌∙◌}
use mathlib.Core.List.Memᴰ
use mathlib.Core.List.{List, [], ◌++◌, map, Memᴰ}
use Prim.Native.Nat.{ℕ, ◌+◌, ◌*◌, ◌≤◌}
use native.Mathlib.Omega.{arith}
use lib.IntN.{ℤ}
use lib.ListN.{length, take, length-map}
use lib.Seq.{sets, length-take-le}
use Rattle.definition.specs.Literals.{Clause, Formula, literals_of}
use Rattle.definition.specs.Text.{Bytes}
use Rattle.definition.specs.Reading.{Input, as_read, input_limits}
use Rattle.definition.specs.Standing.{after}
use Rattle.definition.specs.Events.{TableRecord}
use Rattle.definition.specs.Clearing.{clear_clashes}
use Rattle.definition.specs.Reencoding.{lines, Settings, resolved_into, cleared, chosen, events, log, table, highest_used}
use Rattle.definition.specs.Calls.{workspace_need, numbers_of}
use Rattle.theory_base.specs.Clauses.{ProperAll, Fits}
use Rattle.theory_clearing.proofs.Cleared.{cleared_facts}
use Rattle.theory_room.specs.Step.{step_of}
use Rattle.theory_room.specs.Choices.{clearing, order_of, used_after}
use Rattle.theory_room.proofs.Cleared.{cleared_after}
use Rattle.theory_room.proofs.Runs.{choosing, events_are, chosen_mem}
use Rattle.theory_alignment.proofs.Aligned.{arranged_permutes}
use Rattle.theory_alignment.proofs.Sorting.{permuted_length, permuted_sum}
use Rattle.theory_run.specs.Choices.{taken_events}
use Rattle.theory_run.specs.Sizes.{Sizes}
use Rattle.theory_run.specs.Table.{taken_records}
use Rattle.theory_run.proofs.Table.{table_is, records_of_ordered}
use Rattle.theory_run.proofs.LogSound.{chosen_parted}
use Rattle.theory_run.proofs.Sizes.{sizes}
use Rattle.theory_run.proofs.Taken.{taken_lines, taken_used, all_takeable}
use Rattle.tables.specs.Sizes.{input_reach}
use Rattle.store.specs.Store.{stored}
use Rattle.index.specs.Index.{nodes, literals_in, Indexed}
use Rattle.index.proofs.Walk.{literals_most, literals_fit}
use Rattle.progress.specs.declared.Progress.{Progress}
use Rattle.progress.specs.Progress.{standing, Good, Runs}
use Rattle.progress.proofs.Laws.{good_first, good_rest, good_up, good_as, runs_from, runs_join, runs_as}
use Rattle.tables.specs.Entries.{entry_of}
use Rattle.records.specs.declared.ChoiceRecord.{ChoiceRecord}
use Rattle.records.specs.Rows.{rows_of}
use Rattle.pass_clashes.specs.Weights.{Weighed}
use Rattle.pass_number.specs.Numbering.{weighed, Numberable}
use Rattle.run.specs.declared.Reached.{Reached}
use Rattle.std.specs.Prelude.{Result}
use Rattle.refusals.specs.declared.Refusal.{Refusal}
use Rattle.run.specs.Choices.{Choosable, Chosen, TakenAll, TakeReady, TookAll}
use Rattle.run.specs.Run.{ClearReady, input_in, start_at, RunReady, Reaches, RanAll}

-- ---- the clauses entered

module _ {work : List ℤ} {end h g : ℕ} {rows : List ChoiceRecord} (r : RunReady work end h g rows) where
  literals_are : literals_in (take end work) ≡ literals_of (stored (take end work))
  literals_are =
      let s = take end work in
      omega (arith, literals_most s r.formed, literals_fit s, length-take-le end work r.inside, r.whole)

  pub enter_room : end + 2 * literals_in (take end work) ≤ length work
  unfolding workspace_need numbers_of
  enter_room = omega (arith, literals_are, r.whole, r.enough)

  -- what a step is given
  pub step_is : {newest : List ℕ} {step : ℕ} → Indexed work end newest → step ≡ 5 * nodes newest + end + 2_520 → step ≡ step_of (input_in work end h)
  unfolding numbers_of
  step_is i e = omega (arith, i.counted, literals_are, r.whole)

  -- a workspace with the same store
  module _ (w : List ℤ) (l : length w ≡ length work) (e : take end w ≡ take end work) where
    same_input : input_in w end h ≡ input_in work end h
    same_input = ap (λ (t : List ℤ). as_read h (length (stored t)) (stored t)) e

    pub same_ready : RunReady w end h g rows
    same_ready = record {
      small = omega (arith, r.small);
      inside = omega (arith, r.inside);
      formed = rw e r.formed;
      accepted = rw same_input r.accepted;
      enough = rw (same_input, l) r.enough;
      whole = rw e r.whole;
      step_least = r.step_least;
      step_most = r.step_most;
      row_room = r.row_room;
    }

    reaches_same : {s : Settings} {x y : Bytes} {new : List ℤ} {q : Reached} → Reaches s (input_in w end h) w x end new y q → Reaches s (input_in work end h) work x end new y q
    reaches_same a = record {
      runs = runs_from l e (rw same_input at a.runs);
      choices = rw same_input at a.choices;
      highest = rw same_input at a.highest;
    }

    pub ran_same : {s : Settings} {x y : Bytes} {old fresh : List ChoiceRecord} {new : List ℤ} {q : Result Reached Refusal} →
        RanAll s (input_in w end h) w x end old new y fresh q → RanAll s (input_in work end h) work x end old new y fresh q
    ran_same {s} a = record {
      high = rw same_input at a.high;
      done = λ p. let t = a.done (rw same_input p) in (t.0, t.1, reaches_same t.2);
      written = rw same_input at a.written;
      row_room = rw same_input at a.row_room;
    }

module _ {work : List ℤ} {end h : ℕ} {rows : List ChoiceRecord} (s : Settings) (r : RunReady work end h s.step rows) where
  abbrev i : Input
  i = input_in work end h

  abbrev F : Formula
  F = stored (take end work)

  bounds : Sizes s i
  bounds = sizes i r.accepted s r.step_most

  within : h ≤ input_reach
  unfolding input_limits
  within = r.accepted.highest_few

  whole_good : Good h (clearing F ++ choosing s i) work (start_at end)
  unfolding log
  whole_good =
      let g : Good h (events s i) work (start_at end) = record {
        small = r.small;
        inside = r.inside;
        formed = r.formed;
        proper = r.accepted.proper;
        fits = r.accepted.fits;
        room = record { text = omega (arith, bounds.log_text_short); count = omega (arith, bounds.log_short) };
      } in
      rw (events_are s i) at g

  pub clear_ready : {step : ℕ} → step ≡ step_of i → ClearReady step work (start_at end)
  clear_ready z = record {
    good = good_up within (good_first (clearing F) (choosing s i) whole_good);
    space = λ xs ys e. omega (arith, bounds.clash_space xs ys e, r.enough);
    cells = λ xs ys c e. omega (arith, bounds.clash_cells xs ys c e);
  }

  module _ {log₀ log₁ : Bytes} {w : List ℤ} {p : Progress} (a : Runs (clearing F) work log₀ (start_at end) w log₁ p) where
    cleared_here : standing w p ≡ cleared F
    cleared_here = a.stands ∙ sym (cleared_after F)

    facts : ProperAll (after F (lines (clearing F))) × Fits h (after F (lines (clearing F)))
    facts =
        let f = cleared_facts r.accepted.proper r.accepted.fits in
        let g : ProperAll (cleared F) × Fits h (cleared F) = (f.0, f.1) in
        rw (cleared_after F) at g

    rest_good : Good h (choosing s i) w p
    rest_good = good_rest (clearing F) (choosing s i) whole_good a facts.0 facts.1

    pub choosable : (full : List ℤ) → length full ≡ 9_600 → Choosable w p full
    unfolding chosen
    choosable full e = record {
      good = good_first [] (choosing s i) (good_up within rest_good);
      parted = rw cleared_here (chosen_parted s i r.accepted.proper r.accepted.fits);
      space = rw cleared_here (omega (arith, bounds.chosen_numbers, e));
      few = omega (arith, e);
    }

    module _ {n size : ℕ} {full : List ℤ} (o : Chosen s.arrangement (standing w p) size n full) (e : size ≡ 9_600) where
      chosen_here : stored (take n full) ≡ map (order_of s i) (chosen s i)
      unfolding chosen
      chosen_here = rw cleared_here at o.stands

      taken_here : lines (taken_events s.form s.step h (standing w p) (stored (take n full))) ≡ lines (choosing s i)
      unfolding choosing
      taken_here = rw (cleared_here, chosen_here) (taken_lines s.form s.step (order_of s i) h (cleared F) (chosen s i))

      used_here : used_after s.step (λ l. l) h (stored (take n full)) ≡ highest_used s i
      used_here = ap (used_after s.step (λ l. l) h) chosen_here ∙ taken_used s.step (order_of s i) h (chosen s i) ∙ sym bounds.highest_is

      count_here : length (stored (take n full)) ≡ length (chosen s i)
      count_here = ap length chosen_here ∙ length-map (chosen s i) (order_of s i)

      -- a choice of the store is one of the run's, its literals in order
      stored_choice : (l : Clause) → Memᴰ l (stored (take n full)) → (c : Clause) × Memᴰ c (chosen s i) × (order_of s i c ≡ l)
      stored_choice l m = Memᴰ.of_map (order_of s i) (chosen s i) (rw chosen_here at m)

      module _ {weights : List ℕ} (u : Weighed (resolved_into (λ d. 1) (clear_clashes F)) (length F) (standing w p) weights) where
        -- the weights of a choice's literals, in either order
        weighed_choice : (c : Clause) → Memᴰ c (chosen s i) → weighed weights (order_of s i c) ≡ resolved_into (λ d. 1) (clear_clashes F) c
        weighed_choice c m =
            let t = chosen_mem s i c m in
            omega (arith, permuted_sum (entry_of weights) (arranged_permutes s.arrangement (cleared F) (chosen s i) c), u.counts c (rw cleared_here t.0) (omega (arith, t.1)))

        size_of : (l : Clause) → Memᴰ l (stored (take n full)) → (5 ≤ length l) × (length l ≤ 64)
        size_of l m =
            let t = stored_choice l m in
            let k = chosen_mem s i t.0 t.1 in
            let e = permuted_length (arranged_permutes s.arrangement (cleared F) (chosen s i) t.0) in
            (omega (arith, e, ap length t.2, k.1), omega (arith, e, ap length t.2, k.2))

        numberable : Numberable s.step (stored (take n full)) weights rows h 0
        unfolding input_limits
        numberable = record {
          step_least = r.step_least;
          step_most = r.step_most;
          low = omega (arith, used_here, bounds.highest_few);
          few = λ x. omega (arith, u.few x, r.accepted.formula_few, r.accepted.clauses_few);
          least = λ l m. omega (arith, (size_of l m).0);
          most = λ l m. (size_of l m).1;
          room = omega (arith, count_here, bounds.chosen_count, r.row_room);
        }

        pub take_ready : {step : ℕ} → step ≡ step_of i → TakeReady s.form s.step step w p (take n full) h weights rows
        take_ready z = record {
          good = good_as (sym taken_here) rest_good;
          few = omega (arith, o.inside, o.same_size, length-take-le n full (omega (arith, o.inside, o.same_size)));
          takeable = rw (cleared_here, chosen_here, a.size, z) (all_takeable s i r.accepted (length work) r.enough);
          number_ready = record { formed = o.formed; ready = numberable };
        }

        table_here : taken_records s.step (λ l. l) (weighed weights) h (stored (take n full)) ≡ table s i
        table_here =
            ap (taken_records s.step (λ l. l) (weighed weights) h) chosen_here
            ∙ records_of_ordered s.step (order_of s i) (resolved_into (λ d. 1) (clear_clashes F)) (weighed weights) h (chosen s i) weighed_choice
            ∙ sym (table_is s i)

        reaches : {w' : List ℤ} {log' : Bytes} {q : Reached} → TakenAll s.form s.step w log₁ p (stored (take n full)) h w' log' q → Reaches s i work log₀ end w' log' q
        reaches t = record {
          runs = rw (events_are s i) (runs_join a (runs_as taken_here t.runs));
          choices = t.choices ∙ count_here;
          highest = t.highest ∙ used_here;
        }

        pub ran_all : {w' : List ℤ} {log' : Bytes} {fresh : List ChoiceRecord} {q : Result Reached Refusal} →
            TookAll s.form s.step w log₁ p (stored (take n full)) h weights rows w' log' fresh q → RanAll s i work log₀ end rows w' log' fresh q
        ran_all t = record {
          high = λ k. t.high (omega (arith, used_here));
          done = λ k. let d = t.taken (omega (arith, used_here)) in (d.0, d.1, reaches d.2);
          written = t.written ∙ ap (λ (rs : List TableRecord). sets rows 0 (rows_of rs)) table_here;
          row_room = omega (arith, bounds.chosen_count, r.row_room);
        }
