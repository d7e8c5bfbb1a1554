-- How long the log gets, how high its variables, and how much stands; proved as `sizes` in proofs/Sizes, for a formula that was accepted and any settings with a step that is allowed.
use Rattle.std.specs.Prelude.{◌≡◌, List, [], ◌∷◌, ◌++◌, ◌+◌, ◌≤◌, ◌<◌, ◌^◌, length}
use Rattle.definition.specs.Literals.{Clause}
use Rattle.definition.specs.Reading.{Input}
use Rattle.definition.specs.Standing.{Line, after}
use Rattle.definition.specs.Events.{Clash, Event, clash_cleared}
use Rattle.definition.specs.Clearing.{resolvent, clear_clashes, clear_pure}
use Rattle.definition.specs.Alignment.{choice_literals}
use Rattle.definition.specs.Log.{log_text, formula_text}
use Rattle.definition.specs.Reencoding.{lines, Settings, choice_events, unclashed, chosen, events, log, result, highest_used}
use Rattle.definition.specs.Calls.{workspace_need, numbers_of}
use Rattle.theory_base.specs.Clauses.{Proper, FitAll}
use Rattle.theory_base.specs.Cells.{cells_of}
use Rattle.theory_room.specs.Step.{step_of}
use Rattle.theory_room.specs.Choices.{standing_after_first, next_choice, used_after, order_of}
use Rattle.theory_run.specs.Choices.{events_up_to}

-- lines ls written after lines ks: places in the log and line numbers stay small
pub record Short (ks ls : List Line) : Type 0 where
  pub text : length (log_text ks) + length (log_text ls) < 2 ^ 62
  pub count : length ks + length ls < 2 ^ 62

-- the whole run
pub record Sizes (s : Settings) (i : Input) : Type 0 where
  -- the log, and any part of it behind another
  pub log_text_short : length (log_text (log s i)) < 2 ^ 62
  pub log_short : length (log s i) < 2 ^ 62
  pub parts_short : (xs es ys : List Event) → events s i ≡ xs ++ (es ++ ys) → Short (lines xs) (lines es)
  pub clashes_short : Short [] (lines (clear_clashes i.formula))
  pub pure_short : Short (lines (clear_clashes i.formula)) (lines (clear_pure (unclashed i.formula)))
  pub choice_short : (cs ds : List Clause) (c : Clause) → chosen s i ≡ cs ++ (c ∷ ds) →
      Short (lines (events_up_to s i cs)) (lines (choice_events s.form (standing_after_first s i cs) c (next_choice s i cs c)))
  -- H, whether it passes 70,000 or not
  pub highest_is : highest_used s i ≡ used_after s.step (order_of s i) i.highest (chosen s i)
  pub highest_few : highest_used s i ≤ 176_000
  -- the choices: no literal stands in two, so that there are few
  pub chosen_proper : Proper (choice_literals (chosen s i))
  pub chosen_reach : FitAll i.highest (choice_literals (chosen s i))
  pub chosen_numbers : numbers_of (chosen s i) ≤ 9_600
  pub chosen_count : length (chosen s i) ≤ 1_600
  -- before each clash and after the last, what stands leaves room for a step
  pub clash_space : (xs ys : List Event) → clear_clashes i.formula ≡ xs ++ ys → cells_of (after i.formula (lines xs)) + step_of i ≤ workspace_need i
  -- into which a resolvent fits
  pub clash_cells : (xs ys : List Event) (c : Clash) → clear_clashes i.formula ≡ xs ++ (clash_cleared c ∷ ys) → cells_of (resolvent c ∷ []) ≤ step_of i
  -- M, and the new formula's text
  pub result_few : length (result s i) ≤ 300_000
  pub result_numbers : numbers_of (result s i) ≤ 1_300_000
  pub formula_text_short : length (formula_text (highest_used s i) (result s i)) < 2 ^ 62
