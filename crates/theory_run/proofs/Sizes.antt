-- The sizes of a run. Assumes that the formula was accepted.
use mathlib.Core.Path.{◌≡◌, refl, ◌∙◌, ap}
use mathlib.Core.List.Memᴰ.{head as here}
use mathlib.Core.List.Memᴰ.{tail as there}
use mathlib.Core.List.{List, [], ◌∷◌, ◌++◌, append_assoc, Memᴰ}
use Prim.Native.Nat.{ℕ, ◌+◌, ◌*◌, ◌≤◌}
use native.Mathlib.Omega.{arith}
use lib.ListN.{length, length-append}
use Rattle.definition.specs.Lists.{sum_of, for_each}
use Rattle.definition.specs.Literals.{Clause, Formula, literals_of}
use Rattle.definition.specs.Text.{bytes, digits}
use Rattle.definition.specs.Reading.{Input, input_limits}
use Rattle.definition.specs.Events.{Event}
use Rattle.definition.specs.Clearing.{clear_clashes, clear_pure}
use Rattle.definition.specs.Log.{clause_text, formula_text}
use Rattle.definition.specs.Reencoding.{lines, Settings, choice_events, unclashed, events, result, highest_used}
use Rattle.definition.specs.Calls.{numbers_of}
use Rattle.theory_base.proofs.Digits.{digits_within}
use Rattle.theory_base.proofs.Fitting.{UpTo, proper_fit}
use Rattle.theory_text.specs.Accepted.{Accepted}
use Rattle.theory_room.proofs.Room.{clearing_room, resolvent_step}
use Rattle.theory_room.proofs.Chosen.{chosen_proper, chosen_few}
use Rattle.theory_room.proofs.Runs.{choosing}
use Rattle.theory_room.proofs.Limits.{result_fits, clauses_limit, literals_limit}
use Rattle.theory_run.proofs.LogSound.{chosen_parted, accepted_run}
use Rattle.theory_room.specs.Choices.{clearing, standing_after_first, next_choice}
use Rattle.theory_run.specs.Choices.{events_up_to}
use Rattle.theory_run.specs.Sizes.{Sizes}
use Rattle.theory_run.proofs.Choices.{at_choice}
use Rattle.theory_run.proofs.Variables.{highest_is}
use Rattle.theory_run.proofs.LogLength.{top_few, clause_short, log_text_length, log_length, parts_short}

-- the events, from the clashes on
events_from_clashes : (s : Settings) (i : Input) → events s i ≡ clear_clashes i.formula ++ (clear_pure (unclashed i.formula) ++ choosing s i)
unfolding events choosing
events_from_clashes s i = append_assoc (clear_clashes i.formula) (clear_pure (unclashed i.formula)) (choosing s i)

-- the text of clauses
clauses_short : (f : Formula) → ((d : Clause) → Memᴰ d f → UpTo 176_000 d) → length (for_each f clause_text) ≤ 8 * literals_of f + 2 * length f
unfolding for_each literals_of sum_of
clauses_short [] h = omega arith
clauses_short (c ∷ f) h =
    omega (arith, length-append (clause_text c) (for_each f clause_text), clause_short c (h c (here refl)), clauses_short f (λ d m. h d (there m)))

formula_short : (n : ℕ) (f : Formula) → n ≤ 176_000 → length f ≤ 300_000 → ((d : Clause) → Memᴰ d f → UpTo 176_000 d) → length (formula_text n f) ≤ 8 * literals_of f + 2 * length f + 20
unfolding formula_text bytes
formula_short n f p q h =
    let t = bytes "p cnf " ++ digits n ++ bytes " " ++ digits (length f) ++ bytes "\n" in
    omega (
      arith,
      length-append t (for_each f clause_text),
      length-append (bytes "p cnf " ++ digits n ++ bytes " " ++ digits (length f)) (bytes "\n"),
      length-append (bytes "p cnf " ++ digits n ++ bytes " ") (digits (length f)),
      length-append (bytes "p cnf " ++ digits n) (bytes " "),
      length-append (bytes "p cnf ") (digits n),
      digits_within 5 n (omega arith),
      digits_within 5 (length f) (omega arith),
      clauses_short f h,
    )

module _ (i : Input) (a : Accepted input_limits i) (s : Settings) (allowed : s.step ≤ 100) where
  pub sizes : Sizes s i
  unfolding input_limits numbers_of lines for_each clearing
  sizes =
      let f = i.formula in
      let r = accepted_run s i a in
      let parted = chosen_parted s i a.proper a.fits in
      let few = chosen_few s i r parted in
      let v : i.highest ≤ 8_000 = a.highest_few in
      let c : length f ≤ 20_000 = omega (arith, a.formula_few, a.clauses_few) in
      let m = clauses_limit s i r v c a.literals_few in
      let l = literals_limit s i r v c a.literals_few in
      let h : highest_used s i ≤ 176_000 = omega (arith, highest_is s i r, top_few i a s allowed) in
      record {
        log_text_short = omega (arith, log_text_length i a s allowed);
        log_short = omega (arith, log_length i a s allowed);
        parts_short = parts_short i a s allowed;
        clashes_short = parts_short i a s allowed [] (clear_clashes f) (clear_pure (unclashed f) ++ choosing s i) (events_from_clashes s i);
        pure_short = parts_short i a s allowed (clear_clashes f) (clear_pure (unclashed f)) (choosing s i) (events_from_clashes s i);
        choice_short = λ cs ds c e. let t = at_choice i a s cs ds c e in parts_short i a s allowed (events_up_to s i cs) (choice_events s.form (standing_after_first s i cs) c (next_choice s i cs c)) t.rest t.split;
        highest_is = highest_is s i r;
        highest_few = h;
        chosen_proper = (chosen_proper s i r parted).0;
        chosen_reach = proper_fit (chosen_proper s i r parted);
        chosen_numbers = omega (arith, few.0, few.2);
        chosen_count = omega (arith, few.2);
        clash_space = λ xs ys e. clearing_room s i r xs (ys ++ clear_pure (unclashed f)) (ap (λ (es : List Event). es ++ clear_pure (unclashed f)) e ∙ append_assoc xs ys (clear_pure (unclashed f)));
        clash_cells = resolvent_step s i r;
        result_few = m;
        result_numbers = omega arith;
        formula_text_short = omega (arith, formula_short (highest_used s i) (result s i) (omega arith) m (λ d j x k. omega (arith, (result_fits s i r d j x k).1)));
      }
