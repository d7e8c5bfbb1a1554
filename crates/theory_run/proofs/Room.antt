-- What stands at any line of the log fits into the workspace: before a choice it leaves room for a step, and all that the choice's events add is no more. Assumes that the formula was accepted.
use mathlib.Core.Path.{◌≡◌, refl, sym, ◌∙◌, ap}
use mathlib.Core.List.{List, [], ◌∷◌, ◌++◌, append_assoc}
use Prim.Native.Nat.{ℕ, zero, suc, ◌≤◌}
use native.Mathlib.Omega.{arith}
use lib.ListN.{length, take}
use lib.Seq.{take-length}
use Rattle.definition.specs.Lists.{sum_of, for_each}
use Rattle.definition.specs.Literals.{Clause, Formula}
use Rattle.definition.specs.Standing.{Line, after}
use Rattle.definition.specs.Reading.{Input, input_limits}
use Rattle.definition.specs.Reencoding.{lines, Settings, choice_events, cleared, chosen, log}
use Rattle.definition.specs.Calls.{workspace_need}
use Rattle.theory_base.specs.Cells.{cells_of}
use Rattle.theory_base.specs.Clauses.{Parted}
use Rattle.theory_base.proofs.Replay.{lines-++, at_every_line}
use Rattle.theory_text.specs.Accepted.{Accepted}
use Rattle.theory_room.specs.Choices.{clearing, standing_after_first, next_choice}
use Rattle.theory_room.proofs.Weights.{after_take-≤}
use Rattle.theory_room.proofs.Additions.{cells, cells_sum}
use Rattle.theory_room.proofs.Cleared.{cleared_after}
use Rattle.theory_room.proofs.Room.{clearing_lines_room}
use Rattle.theory_room.proofs.Runs.{Run, choosing, events_are}
use Rattle.theory_room.proofs.Compaction.{choice_room, choice_step}
use Rattle.theory_run.proofs.LogSound.{chosen_parted, accepted_run}
use Rattle.theory_run.proofs.Choices.{at_choice, events_of_others, others_are, no_others, others_first, choices_taken}

module _ (i : Input) (a : Accepted input_limits i) (s : Settings) where
  run : Run s i
  run = accepted_run s i a

  parted : Parted (chosen s i)
  parted = chosen_parted s i a.proper a.fits

  abbrev Fitting : Formula → Type 0
  Fitting F = sum_of cells F ≤ workspace_need i

  -- where a bound on what stands and all that lines add holds, it holds after them
  kept_within : (F : Formula) (ls : List Line) → ((j : ℕ) → Fitting (after F (take j ls))) → Fitting (after F ls)
  kept_within F ls h = rw (take-length ls) at (h (length ls))

  choices_room : (cs ds : List Clause) → chosen s i ≡ cs ++ ds → Fitting (standing_after_first s i cs) → (j : ℕ) → Fitting (after (standing_after_first s i cs) (take j (lines (events_of_others i a s cs ds))))
  unfolding lines for_each after
  choices_room cs [] e h zero = h
  choices_room cs [] e h (suc j) = rw (no_others i a s cs) h
  choices_room cs (c ∷ ds) e h j =
      let F = standing_after_first s i cs in
      let es = choice_events s.form F c (next_choice s i cs c) in
      let t = at_choice i a s cs ds c e in
      let here : (n : ℕ) → Fitting (after F (take n (lines es))) =
      λ n. omega (arith, after_take-≤ cells n F (lines es), cells_sum F, choice_room s i run parted cs ds c e, choice_step s i run parted cs ds c e s.form) in
      rw (others_are i a s cs ds c e, lines-++ es (events_of_others i a s (cs ++ (c ∷ [])) ds))
      (at_every_line Fitting F (lines es) (lines (events_of_others i a s (cs ++ (c ∷ [])) ds)) here
      (rw t.next_stands at (choices_room (cs ++ (c ∷ [])) ds (e ∙ sym (append_assoc cs (c ∷ []) ds)) (rw t.next_stands (kept_within F (lines es) here))))
      j)

  pub room : (j : ℕ) → cells_of (after i.formula (take j (log s i))) ≤ workspace_need i
  unfolding log
  room j =
      let f = i.formula in
      let clearing_fits = clearing_lines_room s i run in
      let first : Fitting (cleared f) = rw (cleared_after f) (kept_within f (lines (clearing f)) clearing_fits) in
      let rest : (k : ℕ) → Fitting (after (cleared f) (take k (lines (choosing s i)))) =
      rw (← others_first i a s) (rw (choices_taken i a s).start_stands at (choices_room [] (chosen s i) refl (rw (choices_taken i a s).start_stands first))) in
      let all : Fitting (after f (take j (lines (clearing f) ++ lines (choosing s i)))) =
      at_every_line Fitting f (lines (clearing f)) (lines (choosing s i)) clearing_fits (rw (← cleared_after f) rest) j in
      omega (arith, cells_sum (after f (take j (log s i))), ap (λ (ls : List Line). sum_of cells (after f (take j ls))) (ap lines (events_are s i) ∙ lines-++ (clearing f) (choosing s i)))
