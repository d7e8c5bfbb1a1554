-- The log is short: how much its lines add and delete, counted in cells, and how long their text is.
use mathlib.Core.Path.{◌≡◌, refl, sym, ◌∙◌, ap}
use mathlib.Core.List.Memᴰ.{head as here}
use mathlib.Core.List.Memᴰ.{tail as there}
use mathlib.Core.List.{List, [], ◌∷◌, ◌++◌, append_assoc, Memᴰ}
use mathlib.Core.Option.{Option, some, none}
use Prim.Native.Nat.{ℕ, zero, suc, ◌+◌, ◌*◌, ◌≤◌}
use native.Mathlib.Omega.{arith}
use native.Mathlib.Nat.{mul-le-mul_left}
use lib.IntN.{ℤ, pos, negsuc, nat_abs}
use lib.ListN.{length, length-append}
use Rattle.definition.specs.Lists.{sum_of, for_each}
use Rattle.definition.specs.Literals.{Clause, Formula}
use Rattle.definition.specs.Text.{Bytes, bytes, digits, literal_text}
use Rattle.definition.specs.Standing.{Line, addition, deletion, literals, after}
use Rattle.definition.specs.Reading.{Input, input_limits}
use Rattle.definition.specs.Events.{Clash, Event}
use Rattle.definition.specs.Clearing.{clash_lines, lowest_clash, pure_literal, clear_next, clear_up_to, clear_clashes, pure_next, clear_pure_from, clear_pure}
use Rattle.definition.specs.Log.{clause_text, log_line_text, log_text}
use Rattle.definition.specs.Reencoding.{lines_of, lines, Settings, choice_events, unclashed, chosen, events, log}
use Rattle.theory_base.specs.Clauses.{Parted}
use Rattle.theory_base.proofs.Digits.{digits_within}
use Rattle.theory_base.proofs.Loops.{for_each-++, mem_for_each}
use Rattle.theory_base.proofs.Sums.{sum-++, sum-≤, sum_most, sum_least, sum_for_each}
use Rattle.theory_base.proofs.Fitting.{UpTo}
use Rattle.theory_base.proofs.Replay.{AllLines, lines-++}
use Rattle.theory_room.proofs.Weights.{weight, weight_of_set, gained, added, deleted, balance}
use Rattle.theory_room.specs.Choices.{clearing, standing_after_first, next_choice}
use Rattle.theory_room.proofs.Cleared.{clearing_event, clearing_lines_to}
use Rattle.theory_room.proofs.Additions.{cells, clearing_adds}
use Rattle.theory_room.proofs.Chosen.{chosen_few}
use Rattle.theory_room.proofs.Compaction.{choice_step}
use Rattle.theory_room.specs.Step.{step_of}
use Rattle.theory_text.specs.Accepted.{Accepted}
use Rattle.theory_room.proofs.Runs.{Run, top, choosing, events_are, weight_most, log_to, log_proper, top_most}
use Rattle.theory_run.proofs.LogSound.{chosen_parted, accepted_run}
use Rattle.theory_run.specs.Sizes.{Short}
use Rattle.theory_run.proofs.Choices.{events_of_others, others_are, no_others, others_first}
use Rattle.theory_run.proofs.Cleared.{unclashed_shorter}

-- ---- the text of lines whose variables have six digits at most

digits_short : (n : ℕ) → n ≤ 176_000 → length (digits n) ≤ 6
digits_short n h = digits_within 5 n (omega arith)

literal_short : (x : ℤ) → nat_abs x ≤ 176_000 → length (literal_text x) ≤ 7
unfolding literal_text
literal_short (pos n) h = omega (arith, digits_short n h)
literal_short (negsuc n) h = omega (arith, digits_short (suc n) h)

literals_short : (c : Clause) → UpTo 176_000 c → length (for_each c (λ l. literal_text l ++ bytes " ")) ≤ 8 * length c
unfolding for_each bytes
literals_short [] h = omega arith
literals_short (x ∷ c) h =
    omega (
      arith,
      length-append (literal_text x ++ bytes " ") (for_each c (λ l. literal_text l ++ bytes " ")),
      length-append (literal_text x) (bytes " "),
      literal_short x (h x (here refl)),
      literals_short c (λ y m. h y (there m)),
    )

pub clause_short : (c : Clause) → UpTo 176_000 c → length (clause_text c) ≤ 8 * length c + 2
unfolding clause_text bytes
clause_short c h = omega (arith, length-append (for_each c (λ l. literal_text l ++ bytes " ")) (bytes "0\n"), literals_short c h)

-- the cells of a line
abbrev line_cells : Line → ℕ
line_cells x = cells (literals x)

cells_least : (c : Clause) → length c + 1 ≤ cells c
unfolding weight
cells_least c = omega (arith, sum_least 3 (λ _. 3) (λ _. omega arith) c)

line_short : (x : Line) → UpTo 176_000 (literals x) → length (log_line_text x) ≤ 8 * line_cells x
unfolding log_line_text literals bytes
line_short (addition c) h = omega (arith, clause_short c h, cells_least c)
line_short (deletion c) h = omega (arith, length-append (bytes "d ") (clause_text c), clause_short c h, cells_least c)

lines_short : (xs : List Line) → AllLines (UpTo 176_000) xs → length (log_text xs) ≤ 8 * sum_of line_cells xs
unfolding log_text for_each sum_of
lines_short [] h = omega arith
lines_short (x ∷ xs) h = omega (arith, length-append (log_line_text x) (log_text xs), line_short x (h x (here refl)), lines_short xs (λ y m. h y (there m)))

lines_counted : (xs : List Line) → length xs ≤ sum_of line_cells xs
unfolding sum_of
lines_counted [] = omega arith
lines_counted (x ∷ xs) = omega (arith, cells_least (literals x), lines_counted xs)

-- a line adds or deletes
lines_change : (xs : List Line) → sum_of line_cells xs ≡ added cells xs + deleted cells xs
unfolding sum_of literals
lines_change [] = refl
lines_change (addition c ∷ xs) = omega (arith, lines_change xs)
lines_change (deletion c ∷ xs) = omega (arith, lines_change xs)

-- ---- what clearing adds

clashes_few : (n : ℕ) (f : Formula) → length (clear_up_to n f) ≤ n
unfolding clear_up_to clear_next
clashes_few zero f = omega arith
clashes_few (suc n) f = go (lowest_clash f) (clashes_few n)
  where
    go : (o : Option Clash) → ((g : Formula) → length (clear_up_to n g) ≤ n) → length (clear_next (clear_up_to n) f o) ≤ suc n
    go none ih = omega arith
    go (some c) ih = omega (arith, ih (after f (clash_lines c)))

pure_few : (left rest : Formula) → length (clear_pure_from left rest) ≤ length rest
unfolding clear_pure_from pure_next
pure_few left [] = omega arith
pure_few left (c ∷ rest) = go (pure_literal (left ++ (c ∷ rest)) c) (pure_few (left ++ (c ∷ [])) rest) (pure_few left rest)
  where
    go : (o : Option ℤ) → length (clear_pure_from (left ++ (c ∷ [])) rest) ≤ length rest → length (clear_pure_from left rest) ≤ length rest →
        length (pure_next c (clear_pure_from (left ++ (c ∷ [])) rest) (clear_pure_from left rest) o) ≤ suc (length rest)
    go none p q = omega arith
    go (some l) p q = omega arith

clearing_few : (f : Formula) → length (clearing f) ≤ length f + length (unclashed f)
unfolding clearing clear_clashes clear_pure
clearing_few f = omega (arith, length-append (clear_clashes f) (clear_pure (unclashed f)), clashes_few (length f) f, pure_few [] (unclashed f))

-- events that each add at most b
events_add_most : (b : ℕ) (es : List Event) → ((e : Event) → Memᴰ e es → added cells (lines_of e) ≤ b) → added cells (lines es) ≤ length es * b
unfolding lines
events_add_most b es h =
    omega (arith, sum_for_each (gained cells) es lines_of, sum-≤ (λ e. added cells (lines_of e)) (λ _. b) es h, sum_most b (λ _. b) (λ _. omega arith) es)

-- ---- a run
module _ (i : Input) (a : Accepted input_limits i) (s : Settings) (allowed : s.step ≤ 100) where
  run : Run s i
  run = accepted_run s i a

  parted : Parted (chosen s i)
  parted = chosen_parted s i a.proper a.fits

  clearing_added : added cells (lines (clearing i.formula)) ≤ 40_000 * 24_001
  unfolding input_limits lines
  clearing_added =
      let f = i.formula in
      let to = clearing_lines_to i.highest f a.proper a.fits in
      let each : (e : Event) → Memᴰ e (clearing f) → added cells (lines_of e) ≤ 24_001 =
      λ e m. omega (arith, clearing_adds i.highest e (clearing_event f e m) (λ x j. to x (mem_for_each (clearing f) lines_of e x m j)), a.highest_few) in
      omega (arith, events_add_most 24_001 (clearing f) each, clearing_few f, unclashed_shorter i a, a.clauses_few)

  step_most : step_of i ≤ 382_520
  unfolding input_limits
  step_most = omega (arith, a.formula_few, a.clauses_few, a.literals_few)

  choices_added : (cs ds : List Clause) → chosen s i ≡ cs ++ ds → added cells (lines (events_of_others i a s cs ds)) ≤ length ds * 382_520
  choices_added cs [] e = omega (arith, ap (λ (es : List Event). added cells (lines es)) (no_others i a s cs), sum-++ (gained cells) (lines []) (lines []), ap (added cells) (lines-++ [] []))
  choices_added cs (c ∷ ds) e =
      let es = choice_events s.form (standing_after_first s i cs) c (next_choice s i cs c) in
      let rest = events_of_others i a s (cs ++ (c ∷ [])) ds in
      omega (
        arith,
        ap (λ (zs : List Event). added cells (lines zs)) (others_are i a s cs ds c e),
        ap (added cells) (lines-++ es rest),
        sum-++ (gained cells) (lines es) (lines rest),
        choice_step s i run parted cs ds c e s.form,
        step_most,
        choices_added (cs ++ (c ∷ [])) ds (e ∙ sym (append_assoc cs (c ∷ []) ds)),
      )

  choosing_added : added cells (lines (choosing s i)) ≤ length (chosen s i) * 382_520
  choosing_added = omega (arith, choices_added [] (chosen s i) refl, ap (λ (es : List Event). added cells (lines es)) (others_first i a s))

  log_cells : sum_of line_cells (log s i) ≤ 3_200_000_000
  unfolding log input_limits
  log_cells =
      let f = i.formula in
      let few = (chosen_few s i run parted).2 in
      omega (
        arith,
        lines_change (log s i),
        balance cells (weight_of_set 1 (λ _. 3)) run.leads a.proper (log_proper s i run),
        weight_most 1 3 (λ _. 3) (λ _. omega arith) f,
        ap (added cells) (ap lines (events_are s i) ∙ lines-++ (clearing f) (choosing s i)),
        sum-++ (gained cells) (lines (clearing f)) (lines (choosing s i)),
        clearing_added,
        choosing_added,
        a.highest_few,
        a.clauses_few,
        a.literals_few,
      )

  -- a step of 100 at most
  pub top_few : top s i ≤ 176_000
  unfolding input_limits
  top_few =
      let few = chosen_few s i run parted in
      let steps : length (chosen s i) * s.step ≤ length (chosen s i) * 100 = mul-le-mul_left (length (chosen s i)) allowed in
      omega (arith, few.1, few.2, a.highest_few, top_most s i run)

  log_lines : AllLines (UpTo 176_000) (log s i)
  unfolding input_limits
  log_lines x m y j = omega (arith, (log_to s i run x m).1 y j, top_few)

  pub log_text_length : length (log_text (log s i)) ≤ 25_600_000_000
  log_text_length = omega (arith, lines_short (log s i) log_lines, log_cells)

  pub log_length : length (log s i) ≤ 3_200_000_000
  log_length = omega (arith, lines_counted (log s i), log_cells)

  -- any part of the log behind another
  pub parts_short : (xs es ys : List Event) → events s i ≡ xs ++ (es ++ ys) → Short (lines xs) (lines es)
  unfolding log log_text
  parts_short xs es ys e =
      let k : log s i ≡ lines xs ++ (lines es ++ lines ys) = ap lines e ∙ lines-++ xs (es ++ ys) ∙ ap (λ (zs : List Line). lines xs ++ zs) (lines-++ es ys) in
      let t = ap log_text k ∙ for_each-++ (lines xs) (lines es ++ lines ys) log_line_text ∙ ap (λ (u : Bytes). log_text (lines xs) ++ u) (for_each-++ (lines es) (lines ys) log_line_text) in
      record {
        text = omega (arith, ap length t, log_text_length, length-append (log_text (lines xs)) (log_text (lines es) ++ log_text (lines ys)), length-append (log_text (lines es)) (log_text (lines ys)));
        count = omega (arith, ap length k, log_length, length-append (lines xs) (lines es ++ lines ys), length-append (lines es) (lines ys));
      }
