-- The choices as a store of them has them: literals in the order in which they are taken, and no clause. Which clause a choice was does not show in the lines.
use mathlib.Core.Path.{◌≡◌, refl, sym, ap, ◌∙◌}
use mathlib.Core.List.{List, [], ◌∷◌, ◌++◌, map, append_assoc}
use Prim.Native.Nat.{ℕ, ◌≤◌}
use native.Mathlib.Omega.{arith}
use Rattle.definition.specs.Lists.{for_each}
use Rattle.definition.specs.Literals.{Clause, Formula}
use Rattle.definition.specs.Reading.{Input, input_limits}
use Rattle.definition.specs.Standing.{Line, after}
use Rattle.definition.specs.Events.{Choice}
use Rattle.definition.specs.Counter.{last_new, take_choice}
use Rattle.definition.specs.Order.{order_events}
use Rattle.definition.specs.Reencoding.{lines_of, lines, Form, counter_form, order_form, Settings, choice_events, choices_events, cleared, chosen}
use Rattle.definition.specs.Calls.{workspace_need}
use Rattle.theory_base.proofs.Replay.{lines-++}
use Rattle.theory_text.specs.Accepted.{Accepted}
use Rattle.theory_room.specs.Step.{step_of}
use Rattle.theory_room.specs.Choices.{as_choice, used_after, order_of, standing_after_first, next_choice}
use Rattle.theory_run.specs.Choices.{Takeable, AllTakeable, finished, at_choice, taken_events}
use Rattle.theory_run.proofs.Choices.{choices_taken}

-- ---- lines and variables

taken_same : (F : Formula) (c d : Clause) (k : Choice) → lines_of (take_choice F c k) ≡ lines_of (take_choice F d k)
unfolding take_choice lines_of
taken_same F c d k = refl

choice_lines_same : (form : Form) (F : Formula) (c d : Clause) (k : Choice) → lines (choice_events form F c k) ≡ lines (choice_events form F d k)
unfolding choice_events lines for_each
choice_lines_same counter_form F c d k = ap (λ (xs : List Line). xs ++ []) (taken_same F c d k)
choice_lines_same order_form F c d k = ap (λ (xs : List Line). xs ++ lines (order_events k (after F xs))) (taken_same F c d k)

pub taken_lines : (form : Form) (g : ℕ) (order : Clause → Clause) (n : ℕ) (F : Formula) (cs : List Clause) → lines (taken_events form g n F (map order cs)) ≡ lines (choices_events form g order n F cs)
unfolding choices_events
taken_lines form g order n F [] = refl
taken_lines form g order n F (c ∷ cs) =
    let k = as_choice g n order c in
    let es = choice_events form F c k in
    let fs = choice_events form F (order c) k in
    let e : lines fs ≡ lines es = choice_lines_same form F (order c) c k in
    lines-++ fs (taken_events form g (last_new k) (after F (lines fs)) (map order cs))
    ∙ rw e (ap (λ (ls : List Line). lines es ++ ls) (taken_lines form g order (last_new k) (after F (lines es)) cs))
    ∙ sym (lines-++ es (choices_events form g order (last_new k) (after F (lines es)) cs))

pub taken_used : (g : ℕ) (order : Clause → Clause) (n : ℕ) (cs : List Clause) → used_after g (λ l. l) n (map order cs) ≡ used_after g order n cs
unfolding used_after
taken_used g order n [] = refl
taken_used g order n (c ∷ cs) = taken_used g order (last_new (as_choice g n order c)) cs

-- ---- each at its turn

takeable_more : {size step more : ℕ} {F : Formula} {c : Clause} {k : Choice} → size ≤ more → Takeable size step F c k → Takeable more step F c k
takeable_more w t = record {
  proper = t.proper;
  fits = t.fits;
  ready = t.ready;
  least = t.least;
  most = t.most;
  reach = t.reach;
  space = omega (arith, t.space);
  step_cells = t.step_cells;
  touched_few = t.touched_few;
  before = t.before;
  front_proper = t.front_proper;
}

module _ (s : Settings) (i : Input) (a : Accepted input_limits i) (size : ℕ) (w : workspace_need i ≤ size) where
  all_from : (cs ds : List Clause) → chosen s i ≡ cs ++ ds → AllTakeable s.form s.step size (step_of i) (used_after s.step (order_of s i) i.highest cs) (standing_after_first s i cs) (map (order_of s i) ds)
  all_from cs [] e = finished
  all_from cs (c ∷ ds) e =
      let k = next_choice s i cs c in
      let F = standing_after_first s i cs in
      let t = (choices_taken i a s).at cs ds c e in
      at_choice {ls = map (order_of s i) ds} c (takeable_more w t.takeable)
      (rw (t.next_below, choice_lines_same s.form F (order_of s i c) c k, ← t.next_stands)
      (all_from (cs ++ (c ∷ [])) ds (e ∙ sym (append_assoc cs (c ∷ []) ds))))

  pub all_takeable : AllTakeable s.form s.step size (step_of i) i.highest (cleared i.formula) (map (order_of s i) (chosen s i))
  all_takeable = rw ((choices_taken i a s).start_below, (choices_taken i a s).start_stands) at (all_from [] (chosen s i) refl)
