-- What is known where a choice is taken. Assumes that the formula was accepted.
use mathlib.Core.Path.{◌≡◌, refl, sym, ◌∙◌, ap}
use mathlib.Core.Bool.{Bool, true, false, not}
use mathlib.Core.List.Memᴰ
use mathlib.Core.List.Memᴰ.{head as here}
use mathlib.Core.List.{List, [], ◌∷◌, ◌++◌, append_assoc, append-nil, Memᴰ}
use Prim.Native.Nat.{ℕ, ◌+◌, ◌≤◌}
use native.Mathlib.Omega.{arith}
use lib.ListN.{length}
use Rattle.definition.specs.Lists.{sum_of, only_if, for_each}
use Rattle.definition.specs.Literals.{Clause, Formula, opposes, opposed}
use Rattle.definition.specs.Standing.{addition, deletion, after}
use Rattle.definition.specs.Reading.{Input, input_limits}
use Rattle.definition.specs.Events.{Choice, Event, clause_replaced, literals_deleted}
use Rattle.definition.specs.Counter.{last_new, counter, take_choice}
use Rattle.definition.specs.Order.{replacement_lines, replaced, replace, order_events}
use Rattle.definition.specs.Reencoding.{lines_of, lines, order_form, Settings, choice_events, choices_events, cleared, chosen, events, log, result}
use Rattle.definition.specs.Calls.{workspace_need}
use Rattle.theory_base.specs.Cells.{cells_of}
use Rattle.theory_base.specs.Clauses.{Parted, ProperAll, Fits, FitAll}
use Rattle.theory_base.proofs.Sums.{sum-++, sum-≤, sum_for_each}
use Rattle.theory_base.proofs.Fitting.{ProperTo, proper_fit, fit_up}
use Rattle.theory_base.proofs.Replay.{AllClauses, after-++, lines-++}
use Rattle.theory_soundness.proofs.Removals.{mem_removes}
use Rattle.theory_clearing.proofs.Cleared.{cleared_facts}
use Rattle.theory_counter.specs.Ready.{Ready}
use Rattle.theory_counter.proofs.Front.{front_removes}
use Rattle.theory_counter.specs.Front.{front}
use Rattle.theory_counter.proofs.Counter.{after_choice}
use Rattle.theory_order.proofs.Order.{order_events_are}
use Rattle.theory_order.specs.Pass.{results, added as results_of}
use Rattle.theory_text.specs.Accepted.{Accepted}
use Rattle.theory_room.proofs.Weights.{gained, added}
use Rattle.theory_room.proofs.Lines.{ordered_length, ordered_proper, used-++}
use Rattle.theory_room.specs.Choices.{clearing, order_of, events_of_first, standing_after_first, next_choice, used_after}
use Rattle.theory_room.proofs.Cleared.{cleared_after}
use Rattle.theory_room.proofs.Rises.{taken_changes}
use Rattle.theory_room.proofs.Additions.{cells, cells_sum}
use Rattle.theory_room.specs.Step.{step_of}
use Rattle.theory_room.proofs.Runs.{Run, choosing, events_are, chosen_mem, arranges}
use Rattle.theory_room.proofs.Compaction.{choices_split, first_to, choice_room, choice_step, choice_touched}
use Rattle.theory_run.proofs.LogSound.{chosen_parted, chosen_ready, accepted_run}
use Rattle.theory_run.proofs.ChoicesSound.{before_order, fits_below}
use Rattle.theory_run.specs.Choices.{events_up_to, Takeable, AtChoice, ChoicesTaken}
use Rattle.theory_run.proofs.Splits.{choice_alone, ready_after}

-- ---- what the events of a choice add, counted in cells

result_cells : (k : Choice) (d : Clause) → sum_of cells (results k d) ≤ sum_of (λ e. added cells (lines_of e)) (replace k d)
unfolding replace only_if sum_of lines_of replacement_lines
result_cells k d = go (opposes k.literals d)
  where
    r : Clause
    r = replaced k d

    one : (u : Bool) → sum_of cells (only_if u (r ∷ [])) ≤ added cells (only_if u (addition r ∷ []) ++ (deletion d ∷ []))
    one true = omega arith
    one false = omega arith

    go : (t : Bool) → sum_of cells (only_if t (only_if (not (opposed r)) (r ∷ []))) ≤ sum_of (λ e. added cells (lines_of e)) (only_if t (clause_replaced d r ∷ []))
    go true = omega (arith, one (not (opposed r)))
    go false = omega arith

module _ (F : Formula) (c : Clause) (k : Choice) (f : Fits k.below F) (r : Ready F c k) where
  order_cells_of : cells_of (counter k) + cells_of (results_of k (front F k)) ≤ added cells (lines (choice_events order_form F c k))
  unfolding choice_events lines for_each
  order_cells_of =
      let E = front F k in
      let es = order_events k (after F (lines_of (take_choice F c k))) in
      let n : Event → ℕ = λ e. added cells (lines_of e) in
      omega (
        arith,
        (taken_changes cells c k F).0,
        cells_sum (counter k),
        cells_sum (results_of k E),
        sum-++ (gained cells) (lines_of (take_choice F c k)) (for_each es lines_of),
        sum_for_each (gained cells) es lines_of,
        ap (sum_of n) (ap (order_events k) (after_choice F c k f r) ∙ order_events_are k E),
        sum-++ n (for_each E (replace k)) (literals_deleted k ∷ []),
        sum_for_each n E (replace k),
        sum_for_each cells E (results k),
        sum-≤ (λ d. sum_of cells (results k d)) (λ d. sum_of n (replace k d)) E (λ d _. result_cells k d),
      )

  front_proper_of : ProperAll F → ProperAll (front F k)
  front_proper_of p d m = p d (mem_removes (front_removes F c k f r) m)

-- the variables are within the tables' reach
few_variables : {i : Input} → Accepted input_limits i → i.highest ≤ 8_000
unfolding input_limits
few_variables a = a.highest_few

few_clauses : {i : Input} → Accepted input_limits i → i.clauses ≤ 20_000
unfolding input_limits
few_clauses a = a.clauses_few

-- ---- a run
module _ (i : Input) (a : Accepted input_limits i) (s : Settings) where
  run : Run s i
  run = accepted_run s i a

  parted : Parted (chosen s i)
  parted = chosen_parted s i a.proper a.fits

  -- the events of the choices ds, taken after cs
  unfoldable pub events_of_others : List Clause → List Clause → List Event
  events_of_others cs ds = choices_events s.form s.step (order_of s i) (used_after s.step (order_of s i) i.highest cs) (standing_after_first s i cs) ds

  module _ (cs ds : List Clause) (c : Clause) (e : chosen s i ≡ cs ++ (c ∷ ds)) where
    -- what stands before the choice
    F : Formula
    F = standing_after_first s i cs

    -- the choice
    k : Choice
    k = next_choice s i cs c

    next_in : Memᴰ c (chosen s i)
    next_in = rw e (Memᴰ.append_right cs (here refl))

    F_to : AllClauses (ProperTo (used_after s.step (order_of s i) i.highest cs)) F
    unfolding F
    F_to = first_to s i run parted cs ds c e

    ready_k : Ready F c k
    unfolding F k standing_after_first events_of_first
    ready_k =
        ready_after s.form s.step (order_of s i) i.highest (cleared i.formula) cs (c ∷ ds) (cleared_facts a.proper a.fits).1
        (λ d m. chosen_ready s i a.proper a.fits d (rw e m)) (rw e at parted) c (here refl) (used_after s.step (order_of s i) i.highest cs)

    fits_k : Fits k.below F
    unfolding k
    fits_k = fits_below s.step (used_after s.step (order_of s i) i.highest cs) F (λ d m. proper_fit (F_to d m))

    k_length : length k.literals ≡ length c
    unfolding k
    k_length = ordered_length i.highest (order_of s i) (chosen s i) (arranges s i run) c next_in

    old_k : FitAll i.highest k.literals
    unfolding k
    old_k = proper_fit (ordered_proper i.highest (order_of s i) (chosen s i) (arranges s i run) c next_in)

    -- ---- the events
    -- its events, and those that follow
    es : List Event
    es = choice_events s.form F c k

    rest : List Event
    rest = choices_events s.form s.step (order_of s i) (last_new k) (after F (lines es)) ds

    first_split : choosing s i ≡ events_of_first s i cs ++ (es ++ rest)
    unfolding choosing F k es rest standing_after_first events_of_first choices_events
    first_split =
        ap (choices_events s.form s.step (order_of s i) i.highest (cleared i.formula)) e
        ∙ choices_split s.form s.step (order_of s i) i.highest (cleared i.formula) cs (c ∷ ds)

    events_split : events s i ≡ events_up_to s i cs ++ (es ++ rest)
    unfolding events_up_to
    events_split =
        events_are s i
        ∙ ap (λ (xs : List Event). clearing i.formula ++ xs) first_split
        ∙ sym (append_assoc (clearing i.formula) (events_of_first s i cs) (es ++ rest))

    first_more : events_of_first s i (cs ++ (c ∷ [])) ≡ events_of_first s i cs ++ es
    unfolding F k es standing_after_first events_of_first
    first_more =
        choices_split s.form s.step (order_of s i) i.highest (cleared i.formula) cs (c ∷ [])
        ∙ ap (λ (xs : List Event). events_of_first s i cs ++ xs) (choice_alone s.form s.step (order_of s i) (used_after s.step (order_of s i) i.highest cs) F c)

    stands_F : after i.formula (lines (events_up_to s i cs)) ≡ F
    unfolding F events_up_to standing_after_first
    stands_F =
        let xs = events_of_first s i cs in
        ap (after i.formula) (lines-++ (clearing i.formula) xs)
        ∙ after-++ i.formula (lines (clearing i.formula)) (lines xs)
        ∙ ap (λ (X : Formula). after X (lines xs)) (sym (cleared_after i.formula))

    next_stands_of : standing_after_first s i (cs ++ (c ∷ [])) ≡ after F (lines es)
    unfolding F standing_after_first
    next_stands_of =
        let xs = events_of_first s i cs in
        ap (λ (ys : List Event). after (cleared i.formula) (lines ys)) first_more
        ∙ ap (after (cleared i.formula)) (lines-++ xs es)
        ∙ after-++ (cleared i.formula) (lines xs) (lines es)

    next_events_of : events_up_to s i (cs ++ (c ∷ [])) ≡ events_up_to s i cs ++ es
    unfolding events_up_to
    next_events_of =
        ap (λ (xs : List Event). clearing i.formula ++ xs) first_more
        ∙ sym (append_assoc (clearing i.formula) (events_of_first s i cs) es)

    next_below_of : last_new k ≡ used_after s.step (order_of s i) i.highest (cs ++ (c ∷ []))
    unfolding k used_after
    next_below_of = sym (used-++ s.step (order_of s i) i.highest cs (c ∷ []))

    takeable_choice : Takeable (workspace_need i) (step_of i) (standing_after_first s i cs) c (next_choice s i cs c)
    unfolding F k es
    takeable_choice =
        let t = chosen_mem s i c next_in in
        let least : 5 ≤ length c = t.1 in
        let most : length c ≤ 64 = t.2 in
        record {
          proper = λ d m. (F_to d m).0;
          fits = fits_k;
          ready = ready_k;
          least = omega (arith, k_length);
          most = omega (arith, k_length);
          reach = λ x m. fit_up 8_000 i.highest x (few_variables a) (old_k x m);
          space = choice_room s i run parted cs ds c e;
          step_cells = omega (arith, choice_step s i run parted cs ds c e order_form, order_cells_of F c k fits_k ready_k);
          touched_few = omega (arith, choice_touched s i run parted cs ds c e, a.formula_few, few_clauses a);
          before = before_order F c k fits_k ready_k;
          front_proper = front_proper_of F c k fits_k ready_k (λ d m. (F_to d m).0);
        }

    -- the events of the choices left are its own, then those of the others
    pub others_are : events_of_others cs (c ∷ ds) ≡ choice_events s.form (standing_after_first s i cs) c (next_choice s i cs c) ++ events_of_others (cs ++ (c ∷ [])) ds
    unfolding F k es events_of_others choices_events
    others_are =
        ap (λ (n : ℕ). es ++ choices_events s.form s.step (order_of s i) n (after F (lines es)) ds) next_below_of
        ∙ ap (λ (X : Formula). es ++ choices_events s.form s.step (order_of s i) (used_after s.step (order_of s i) i.highest (cs ++ (c ∷ []))) X ds) (sym next_stands_of)

    pub at_choice : AtChoice s i cs c (standing_after_first s i cs) (next_choice s i cs c)
    unfolding F k es
    at_choice = record {
      takeable = takeable_choice;
      below = refl;
      next_below = next_below_of;
      stands = stands_F;
      next_stands = next_stands_of;
      next_events = next_events_of;
      rest = rest;
      split = events_split;
    }

  -- after the last, and before the first
  pub no_others : (cs : List Clause) → events_of_others cs [] ≡ []
  unfolding events_of_others choices_events
  no_others cs = refl

  pub others_first : events_of_others [] (chosen s i) ≡ choosing s i
  unfolding choosing events_of_others standing_after_first events_of_first choices_events used_after lines for_each after
  others_first = refl

  pub choices_taken : ChoicesTaken s i
  unfolding events_up_to events_of_first standing_after_first choices_events choosing clearing used_after lines for_each after result log
  choices_taken =
      let f = i.formula in
      record {
        at = at_choice;
        start_below = refl;
        start_stands = refl;
        start_events = append-nil (clearing f);
        end_stands =
            ap (λ (X : Formula). after X (lines (choosing s i))) (cleared_after f)
            ∙ sym (ap (after f) (ap lines (events_are s i) ∙ lines-++ (clearing f) (choosing s i)) ∙ after-++ f (lines (clearing f)) (lines (choosing s i)));
        end_events = sym (events_are s i);
      }
