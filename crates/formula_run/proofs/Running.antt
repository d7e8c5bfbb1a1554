-- The run case by case: what the reader and the run leave is what the definition's outcome has.
use mathlib.Core.Path.{◌≡◌, refl, sym, ap, ◌∙◌, subst}
use Rattle.std.specs.Prelude.{Result, Ok, Err}
use mathlib.Core.Bool.{Bool, true, false, ◌&&◌}
use mathlib.Core.List.{List}
use Prim.Native.Nat.{ℕ, ◌+◌, ◌*◌, ◌≤◌, ◌<◌, ◌^◌}
use native.Mathlib.Omega.{arith}
use lib.Dec.{ltb, leb}
use lib.IntN.{ℤ}
use lib.ListN.{length, take, drop}
use lib.Seq.{sets-eq, length-sets, take_at, take-take, length-take-le}
use borrow.Author.Tests.{lt-ltb, le-ltb, ltb-true, ltb-false, leb-true, le-leb, lt-leb}
use Rattle.definition.specs.Checked.{Checked, fault, value, ◌>>=◌, refuse_if}
use Rattle.definition.specs.Literals.{Formula, literals_of}
use Rattle.definition.specs.Text.{Bytes}
use Rattle.definition.specs.Reading.{Limits, Input, as_read, input_limits, read_formula}
use Rattle.definition.specs.Log.{log_text, formula_text}
use Rattle.definition.specs.Reencoding.{Settings, chosen, events, log, table, result, highest_used}
use Rattle.definition.specs.Calls.{read_input, Reencoded, reencoded, workspace_need, numbers_of, step_allowed, limited, run}
use Rattle.theory_text.specs.Accepted.{Accepted}
use Rattle.theory_text.proofs.Accepted.{input_read, input_accepted, input_highest}
use Rattle.theory_run.proofs.Table.{table_length}
use Rattle.refusals.specs.declared.Refusal.{Refusal}
use Rattle.refusals.specs.declared.Refusal.TheVariants.{ShortWorkspace, StepOutOfRange, TooManyVariables}
use Rattle.refusals.specs.Numbers.{number}
use Rattle.refusals.specs.Outcomes.{outcome, showing}
use Rattle.records.specs.declared.ChoiceRecord.{ChoiceRecord}
use Rattle.text.specs.Output.{Put}
use Rattle.store.specs.Store.{stored}
use Rattle.store.proofs.Laws.{few_stored}
use Rattle.dimacs.specs.Limits.{limits_of}
use Rattle.dimacs.specs.Entries.{entries}
use Rattle.dimacs.specs.Outcome.{summary, Filled}
use Rattle.dimacs.specs.declared.Limits as CodeLimits
use Rattle.dimacs.specs.declared.Formula as Dimacs
use Rattle.dimacs.proofs.Entries.{entries_formed, entries_stored, entries_numbers}
use Rattle.dimacs.proofs.Outcome.{FormulaIs, formula_told, formula_refused}
use Rattle.progress.specs.Progress.{standing}
use Rattle.run.specs.declared.Settings as CodeSettings
use Rattle.run.specs.declared.Reached.{Reached}
use Rattle.run.specs.Settings.{settings_of}
use Rattle.run.specs.Run.{input_in, most_choices, RunReady, Reaches, RanAll}
use Rattle.formula_run.specs.declared.Tally as CodeTally
use Rattle.formula_run.specs.Outcome.{run_outcome, result_of}
use Rattle.formula_run.specs.Result.{Left, tally_by, Finishes, Stepped, Written, AnswersAs, Answers}

-- ---- an outcome

-- a fault: nothing is asked of what is written
pub refused : {Asked : Reencoded → Type 0} {o : Checked Reencoded} (e : Refusal) → o ≡ fault (number e) → AnswersAs Asked o (Err e)
refused e p = record { answer = rw p refl; written = λ r q. absurd (let z : ◌≡◌ {A = ℕ} 0 1 = cc in omega arith) }

pub done : {Asked : Reencoded → Type 0} {o : Checked Reencoded} {a : Result CodeTally.Tally Refusal} (r : Reencoded) → o ≡ value r → outcome a ≡ value (result_of r) → Asked r → AnswersAs Asked o a
done {Asked} r e a w = record { answer = rw e a; written = λ b q. let s : r ≡ b = cc in subst Asked s w }

-- ---- a store that a run has left

module _ {work : List ℤ} {r : Reached} (l : Left work r) where
  pub left_few : (length (stored (take r.progress.end work)) < 2 ^ 32) × (12 * length (take r.progress.end work) + 28 < 2 ^ 64)
  left_few =
      let n = length-take-le r.progress.end work l.inside in
      (omega (arith, l.small, l.inside, n, few_stored (take r.progress.end work)), omega (arith, l.small, l.inside, n))

pub formula_written : {work : List ℤ} {r : Reached} {formula new : Bytes} {count bytes : ℕ} → Put formula 0 (formula_text r.highest (standing work r.progress)) bytes new → count ≡ length (standing work r.progress) →
    Finishes work formula r (tally_by r count bytes) new
formula_written {r = r} {bytes = bytes} w e = record { bytes = bytes; written = w; tally = ap (λ (n : ℕ). tally_by r n bytes) e }

-- ---- after a run

module _ {s : Settings} {i : Input} {work new : List ℤ} {x y : Bytes} {end : ℕ} {rows new_rows : List ChoiceRecord} {b : Result Reached Refusal} (a : RanAll s i work x end rows new y new_rows b) where
  abbrev high : Bool
  high = ltb 70_000 (highest_used s i)

  -- a refusal is 16
  pub run_refused : {formula new_formula : Bytes} (n : Refusal) → b ≡ Err n → Answers (limited (reencoded s i)) x formula rows (Err n) y new_formula new_rows
  unfolding limited reencoded refuse_if
  run_refused {formula} {new_formula} n e = refused n (go high refl)
    where
      go : (t : Bool) → high ≡ t → limited (reencoded s i) ≡ fault (number n)
      go true p = let z : n ≡ TooManyVariables = cc (a.high (ltb-true 70_000 (highest_used s i) p)) in rw (p, z) refl
      go false p =
          let d = a.done (ltb-false 70_000 (highest_used s i) p) in
          absurd (let z : ◌≡◌ {A = ℕ} 0 1 = cc d.1 in omega arith)

  module _ {r : Reached} (e : b ≡ Ok r) where
    not_refused : highest_used s i ≤ 70_000
    not_refused = go high refl
      where
        go : (t : Bool) → high ≡ t → highest_used s i ≤ 70_000
        go true p = absurd (let z : ◌≡◌ {A = ℕ} 0 1 = cc (a.high (ltb-true 70_000 (highest_used s i) p)) in omega arith)
        go false p = ltb-false 70_000 (highest_used s i) p

    reaches : Reaches s i work x end new y r
    reaches =
        let d = a.done not_refused in
        let same : d.0 ≡ r = cc d.1 in
        subst (λ (q : Reached). Reaches s i work x end new y q) same d.2

    pub run_left : length work < 2 ^ 31 → Left new r
    run_left small = record { small = omega (arith, reaches.runs.size); inside = omega (arith, reaches.runs.inside, reaches.runs.size); formed = reaches.runs.formed }

    module _ (start : stored (take end work) ≡ i.formula) {formula new_formula : Bytes} {t : CodeTally.Tally} (f : Finishes new formula r t new_formula) where
      result_here : standing new r.progress ≡ result s i
      unfolding result log
      result_here = rw start at reaches.runs.stands

      log_put : Put x 0 (log_text (log s i)) r.progress.at y
      unfolding log
      log_put = reaches.runs.written

      formula_put : Put formula 0 (formula_text (highest_used s i) (result s i)) f.bytes new_formula
      formula_put = rw (reaches.highest, result_here) at f.written

      lines_counted : r.progress.lines ≡ length (log s i)
      unfolding log
      lines_counted = omega (arith, reaches.runs.counted)

      log_size : r.progress.at ≡ length (log_text (log s i))
      log_size = omega (arith, log_put.next)

      formula_size : f.bytes ≡ length (formula_text (highest_used s i) (result s i))
      formula_size = omega (arith, formula_put.next)

      all_written : Written (reencoded s i) x formula rows y new_formula new_rows
      unfolding reencoded
      all_written = record {
        log_put = rw log_size at log_put;
        formula_put = rw formula_size at formula_put;
        rows_written = a.written;
        records_counted = table_length s i;
        rows_fit = omega (arith, table_length s i, a.row_room);
      }

      pub run_answers : Answers (limited (reencoded s i)) x formula rows (Ok t) y new_formula new_rows
      unfolding limited reencoded refuse_if
      run_answers =
          done (reencoded s i) (rw (le-ltb 70_000 (highest_used s i) not_refused) refl)
          (ap (λ (u : CodeTally.Tally). value u) f.tally ∙ rw (result_here, log_size, formula_size, lines_counted, reaches.choices, reaches.highest) refl)
          all_written

-- ---- the input in a store

-- a run asks for the formula and the highest variable alone
reencoded_same : (s : Settings) (i : Input) (f : Formula) (v : ℕ) → f ≡ i.formula → v ≡ i.highest → reencoded s (as_read v (length f) f) ≡ reencoded s i
unfolding reencoded log table events result highest_used chosen
reencoded_same s i f v e h = rw (e, h) refl

-- ---- the step

stepped_is : (g : ℕ) → Stepped g → (1 ≤ g) × (g ≤ 100)
unfolding step_allowed
stepped_is g e = go (leb 1 g) refl (leb g 100) refl e
  where
    go : (t : Bool) → leb 1 g ≡ t → (u : Bool) → leb g 100 ≡ u → t && u ≡ true → (1 ≤ g) × (g ≤ 100)
    go true p true q z = (leb-true 1 g p, leb-true g 100 q)
    go true p false q z = absurd (let z : ◌≡◌ {A = ℕ} 0 1 = cc in omega arith)
    go false p u q z = absurd (let z : ◌≡◌ {A = ℕ} 0 1 = cc in omega arith)

-- ---- the run, by cases

-- the answer that a run's outcome asks
abbrev AnswersRun : Bytes → CodeSettings.Settings → List ℤ → Bytes → Bytes → List ChoiceRecord → Result CodeTally.Tally Refusal → Bytes → Bytes → List ChoiceRecord → Type 0
AnswersRun t s work log formula rows = Answers (run_outcome s t work) log formula rows

pub call_step : (t : Bytes) (s : CodeSettings.Settings) (work : List ℤ) (log formula : Bytes) (rows : List ChoiceRecord) {x y : Bytes} {z : List ChoiceRecord} → step_allowed s.step ≡ false → AnswersRun t s work log formula rows (Err StepOutOfRange) x y z
unfolding run refuse_if
call_step t s work log formula rows e = refused StepOutOfRange (rw e refl)

module _ (t : Bytes) (s : CodeSettings.Settings) (stepped : Stepped s.step) (work : List ℤ) (log₀ formula₀ : Bytes) (rows₀ : List ChoiceRecord) (rows_are : length rows₀ ≡ most_choices) (m : CodeLimits.Limits) (k : limits_of m ≡ input_limits) (a : Result Dimacs.Formula Refusal) (p : outcome a ≡ showing summary (read_formula (limits_of m) t)) where
  at_limits : read_formula (limits_of m) t ≡ read_input t
  at_limits = ap (λ (l : Limits). read_formula l t) k ∙ sym (input_read t)

  pub call_fault : (n : Refusal) {x y : Bytes} {z : List ChoiceRecord} → a ≡ Err n → AnswersRun t s work log₀ formula₀ rows₀ (Err n) x y z
  unfolding run ◌>>=◌ refuse_if
  call_fault n q =
      let e : read_input t ≡ fault (number n) = sym at_limits ∙ formula_refused (read_formula (limits_of m) t) q p in
      refused n (rw (stepped, e) refl)

  module _ (f : Dimacs.Formula) (need : ℕ) (q : a ≡ Ok f) (w : need ≡ 40 * f.literals + 4 * f.clauses + 12 * f.variables + 8_192) where
    found : FormulaIs (read_input t) f
    found = rw at_limits at (formula_told (read_formula (limits_of m) t) q p)

    abbrev i : Input
    i = found.input

    known : Accepted input_limits i
    known = input_accepted t i found.is

    highest_is : i.highest ≡ f.variables
    highest_is = input_highest t i found.is ∙ sym found.variables

    need_is : workspace_need i ≡ need
    unfolding workspace_need
    need_is = omega (arith, highest_is, found.clauses, found.literals)

    pub call_short : {x y : Bytes} {z : List ChoiceRecord} → length work < need → AnswersRun t s work log₀ formula₀ rows₀ (Err ShortWorkspace) x y z
    unfolding run ◌>>=◌ refuse_if
    call_short h = refused ShortWorkspace (rw (stepped, found.is, need_is, lt-ltb (length work) need h) refl)

    -- ---- the workspace suffices
    module _ (enough : need ≤ length work) {w₁ : List ℤ} (z : Filled (read_formula (limits_of m) t) work w₁) where
      few : literals_of i.formula < 2 ^ 31
      unfolding input_limits
      few = omega (arith, known.literals_few)

      filled_is : length (entries i.formula) ≡ f.filled
      filled_is = entries_numbers i.formula ∙ sym found.filled

      filled_within : f.filled ≤ need
      unfolding numbers_of
      filled_within = omega (arith, found.filled, found.literals, found.clauses, known.formula_few)

      same_size : length w₁ ≡ length work
      same_size = ap length (z i (at_limits ∙ found.is)) ∙ length-sets work 0 (entries i.formula)

      -- what is lent: the first elements, as many as the rule says
      abbrev lent : List ℤ
      lent = take need w₁

      lent_size : length lent ≡ need
      lent_size = length-take-le need w₁ (omega (arith, same_size))

      loaded : take f.filled lent ≡ entries i.formula
      loaded =
          take-take f.filled need w₁ filled_within
          ∙ ap (take f.filled) (z i (at_limits ∙ found.is) ∙ sets-eq (entries i.formula) work 0 (omega (arith, filled_is, filled_within)))
          ∙ take_at (entries i.formula) (drop (0 + length (entries i.formula)) work) f.filled filled_is

      stored_is : stored (take f.filled lent) ≡ i.formula
      stored_is = ap stored loaded ∙ entries_stored i.formula few

      pub lent_ready : RunReady lent f.filled f.variables s.step rows₀
      unfolding workspace_need input_limits
      lent_ready = record {
        small = omega (arith, lent_size, w, found.literals, found.clauses, highest_is, known.literals_few, known.clauses_few, known.highest_few);
        inside = omega (arith, lent_size, filled_within);
        formed = rw loaded (entries_formed i.formula few);
        accepted = rw stored_is (record {
          variables_few = omega arith;
          highest_few = omega (arith, known.highest_few, highest_is);
          clauses_few = omega (arith, known.formula_few, known.clauses_few);
          formula_few = omega arith;
          literals_few = known.literals_few;
          fits = rw highest_is at known.fits;
          proper = known.proper;
        });
        enough = rw stored_is (omega (arith, lent_size, w, found.literals, found.clauses, known.formula_few));
        whole = rw stored_is found.filled;
        step_least = (stepped_is s.step stepped).0;
        step_most = (stepped_is s.step stepped).1;
        row_room = rows_are;
      }

      pub call_run : {b : Result CodeTally.Tally Refusal} {x y : Bytes} {zs : List ChoiceRecord} → Answers (limited (reencoded (settings_of s) (input_in lent f.filled f.variables))) log₀ formula₀ rows₀ b x y zs →
          AnswersRun t s work log₀ formula₀ rows₀ b x y zs
      unfolding run ◌>>=◌ refuse_if
      call_run {b} {x} {y} {zs} r =
          let e = reencoded_same (settings_of s) i (stored (take f.filled lent)) f.variables stored_is (sym highest_is) in
          rw (stepped, found.is, need_is, le-ltb (length work) need enough)
          (subst (λ (z : Reencoded). Answers (limited z) log₀ formula₀ rows₀ b x y zs) e r)
