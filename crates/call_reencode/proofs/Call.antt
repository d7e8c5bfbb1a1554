-- The call case by case: what fits the buffers is what the definition's outcome has, and a refusal leaves zeros.
use lib.Seq.{take_at, length-sets}
use Rattle.std.proofs.Common.{Result, Ok, Err, take, ◌≡◌, refl, sym, ap, ◌∙◌, Bool, true, false, cond, List, ◌++◌, ℕ, ◌+◌, ◌≤◌, ◌<◌, ℤ, ltb, length, drop, replicate, arith, lt-ltb, le-ltb, ltb-false}
use Rattle.std.proofs.lemmas.List.{length-map}
use Rattle.std.proofs.lemmas.List.Edits.{sets-eq}
use Rattle.definition.specs.Checked.{Checked, fault, value, ◌>>=◌, refuse_if}
use Rattle.definition.specs.Text.{Bytes}
use Rattle.definition.specs.Calls.{Reencoded, fitted, reencode, buffer_after}
use Rattle.records.specs.declared.ChoiceRecord.{ChoiceRecord}
use Rattle.records.specs.Rows.{shown_record, no_record, rows_of, records_in}
use Rattle.records.proofs.Rows.{records_there}
use Rattle.refusals.specs.declared.Refusal.{Refusal}
use Rattle.refusals.specs.declared.Refusal.TheVariants.{ShortLogBuffer, ShortFormulaBuffer, ShortTable}
use Rattle.refusals.specs.Numbers.{number}
use Rattle.refusals.specs.Outcomes.{outcome as outcome_said}
use Rattle.refusals.proofs.Laws.{Shown, ok_shows, err_faults}
use Rattle.text.specs.Output.{Put}
use Rattle.run.specs.declared.Settings as CodeSettings
use Rattle.formula_run.specs.declared.Tally.{Tally}
use Rattle.formula_run.specs.Outcome.{run_outcome, result_of}
use Rattle.formula_run.specs.Result.{Written as RunWritten, Answers as RunAnswers}
use Rattle.formula_run.proofs.Running.{refused, done}
use Rattle.call_reencode.specs.Outcome.{outcome, shown_table}
use Rattle.call_reencode.specs.Result.{answer_by, Written, Answers}

-- ---- buffers

-- what is written from the start of a buffer that has room
written_first : {old new text : Bytes} {n : ℕ} → Put old 0 text n new → length text ≤ length old → new ≡ text ++ drop (length text) old
written_first {old} {new} {text} p h =
    let e : 0 + length text ≡ length text = omega arith in
    p.kept ∙ sets-eq text old 0 (omega arith) ∙ ap (λ (k : ℕ). text ++ drop k old) e

-- what a result says
abbrev said : Result Tally Refusal → Checked Tally
said = outcome_said

-- ---- the room for a result

pub table_short : (table_room log_room formula_room : ℕ) (t : Tally) → table_room < t.choices → Err ShortTable ≡ answer_by table_room log_room formula_room t
table_short table_room log_room formula_room t h = rw (lt-ltb table_room t.choices h) refl

module _ (table_room log_room formula_room : ℕ) (t : Tally) (h : t.choices ≤ table_room) where
  pub log_short : log_room < t.log_bytes → Err ShortLogBuffer ≡ answer_by table_room log_room formula_room t
  log_short j = rw (le-ltb table_room t.choices h, lt-ltb log_room t.log_bytes j) refl

  module _ (j : t.log_bytes ≤ log_room) where
    pub formula_short : formula_room < t.formula_bytes → Err ShortFormulaBuffer ≡ answer_by table_room log_room formula_room t
    formula_short k = rw (le-ltb table_room t.choices h, le-ltb log_room t.log_bytes j, lt-ltb formula_room t.formula_bytes k) refl

    pub all_fit : t.formula_bytes ≤ formula_room → Ok t ≡ answer_by table_room log_room formula_room t
    all_fit k = rw (le-ltb table_room t.choices h, le-ltb log_room t.log_bytes j, le-ltb formula_room t.formula_bytes k) refl

-- ---- after a run

module _ (room : ℕ) {log formula x y : Bytes} {rows z : List ChoiceRecord} where
  -- where there is room for all, all is written
  all_written : {r : Reencoded} → RunWritten r log formula rows x y z → r.tally.choices ≤ room → length r.log ≤ length log → length r.formula ≤ length formula → Written r room log formula rows x y z
  all_written w h j k = record {
    log_written = written_first w.log_put j;
    formula_written = written_first w.formula_put k;
    rows_written = w.rows_written;
    records_counted = w.records_counted;
    rows_fit = w.rows_fit;
    records_fit = h;
  }

  -- a result, by the sizes of the table and the buffers
  fits_answers : (r : Reencoded) {a : Result Tally Refusal} → RunWritten r log formula rows x y z →
      a ≡ answer_by room (length log) (length formula) (result_of r) →
      Answers (fitted room (length log) (length formula) r) room log formula rows a x y z
  unfolding fitted refuse_if
  fits_answers r {a} w e =
      rw (log_size, formula_size)
      (go (ltb room r.tally.choices) refl (ltb (length log) r.tally.log_bytes) refl (ltb (length formula) r.tally.formula_bytes) refl e)
    where
      log_size : length r.log ≡ r.tally.log_bytes
      log_size = omega (arith, w.log_put.next)

      formula_size : length r.formula ≡ r.tally.formula_bytes
      formula_size = omega (arith, w.formula_put.next)

      go : (s : Bool) → ltb room r.tally.choices ≡ s → (t : Bool) → ltb (length log) r.tally.log_bytes ≡ t → (u : Bool) → ltb (length formula) r.tally.formula_bytes ≡ u →
          a ≡ cond s (Err ShortTable) (cond t (Err ShortLogBuffer) (cond u (Err ShortFormulaBuffer) (Ok (result_of r)))) →
          Answers (refuse_if s 17 (refuse_if t 12 (refuse_if u 13 (value r)))) room log formula rows a x y z
      go true p t q u k v = rw v (refused ShortTable refl)
      go false p true q u k v = rw v (refused ShortLogBuffer refl)
      go false p false q true k v = rw v (refused ShortFormulaBuffer refl)
      go false p false q false k v =
          done r refl (ap said v)
          (all_written w (ltb-false room r.tally.choices p) (omega (arith, log_size, ltb-false (length log) r.tally.log_bytes q)) (omega (arith, formula_size, ltb-false (length formula) r.tally.formula_bytes k)))

  by_fit : (o : Checked Reencoded) {b a : Result Tally Refusal} {t : Tally} → RunAnswers o log formula rows b x y z → b ≡ Ok t →
      a ≡ answer_by room (length log) (length formula) t → Answers (o >>= fitted room (length log) (length formula)) room log formula rows a x y z
  unfolding ◌>>=◌
  by_fit o {t = t} w e c =
      let s = ok_shows result_of o e w.answer in
      rw s.is (fits_answers s.it (w.written s.it s.is) (rw s.shows at c))

  by_refusal : (o : Checked Reencoded) {b : Result Tally Refusal} {n : Refusal} → RunAnswers o log formula rows b x y z → b ≡ Err n →
      Answers (o >>= fitted room (length log) (length formula)) room log formula rows (Err n) x y z
  unfolding ◌>>=◌
  by_refusal o {n = n} w e = refused n (rw (err_faults result_of o e w.answer) refl)

  -- of a call
  module _ (s : CodeSettings.Settings) (text : Bytes) (work : List ℤ) {b : Result Tally Refusal} (w : RunAnswers (run_outcome s text work) log formula rows b x y z) where
    pub call_fits : {a : Result Tally Refusal} {t : Tally} → b ≡ Ok t → length x ≡ length log → length y ≡ length formula →
        a ≡ answer_by room (length x) (length y) t → Answers (outcome s text work log formula room) room log formula rows a x y z
    unfolding reencode
    call_fits e k j c = by_fit (run_outcome s text work) w e (rw (k, j) at c)

    pub call_refused : {n : Refusal} → b ≡ Err n → Answers (outcome s text work log formula room) room log formula rows (Err n) x y z
    unfolding reencode
    call_refused e = by_refusal (run_outcome s text work) w e

-- ---- the buffers at the end

module _ (o : Checked Reencoded) (room : ℕ) (log formula : Bytes) (rows : List ChoiceRecord) {x y : Bytes} {z : List ChoiceRecord} {a : Result Tally Refusal} (w : Answers o room log formula rows a x y z) where
  -- a result: what is written stays, and so many records are taken from the rows
  module _ {t : Tally} (e : a ≡ Ok t) where
    found : Shown result_of o t
    found = ok_shows result_of o e w.answer

    abbrev all : Written found.it room log formula rows x y z
    all = w.written found.it found.is

    choices_are : t.choices ≡ length found.it.table
    choices_are = ap (λ (u : Tally). u.choices) found.shows ∙ sym all.records_counted

    pub log_kept : x ≡ buffer_after 0 o (λ r. r.log) log
    unfolding buffer_after
    log_kept = all.log_written ∙ sym (ap (λ (p : Checked Reencoded). buffer_after 0 p (λ r. r.log) log) found.is)

    pub formula_kept : y ≡ buffer_after 0 o (λ r. r.formula) formula
    unfolding buffer_after
    formula_kept = all.formula_written ∙ sym (ap (λ (p : Checked Reencoded). buffer_after 0 p (λ r. r.formula) formula) found.is)

    pub rows_reach : t.choices ≤ length z
    rows_reach = omega (arith, choices_are, all.rows_fit, ap length all.rows_written, length-sets rows 0 (rows_of found.it.table))

    pub table_reaches : t.choices ≤ room
    table_reaches = omega (arith, ap (λ (u : Tally). u.choices) found.shows, all.records_fit)

    pub table_filled : (table : List ChoiceRecord) → records_in z 0 t.choices ++ drop t.choices table ≡ buffer_after no_record o shown_table table
    unfolding buffer_after
    table_filled table =
        let long : length (rows_of found.it.table) ≡ length found.it.table = length-map found.it.table shown_record in
        let here : records_in z 0 t.choices ≡ shown_table found.it =
        records_there z t.choices rows_reach
        ∙ ap (take t.choices) (all.rows_written ∙ sets-eq (rows_of found.it.table) rows 0 (omega (arith, long, all.rows_fit)))
        ∙ take_at (rows_of found.it.table) (drop (0 + length (rows_of found.it.table)) rows) t.choices (omega (arith, long, choices_are)) in
        let count : t.choices ≡ length (shown_table found.it) = omega (arith, long, choices_are) in
        ap (λ (rs : List ChoiceRecord). rs ++ drop t.choices table) here
        ∙ ap (λ (n : ℕ). shown_table found.it ++ drop n table) count
        ∙ sym (ap (λ (p : Checked Reencoded). buffer_after no_record p shown_table table) found.is)

  -- a refusal: zeros
  module _ {n : Refusal} (e : a ≡ Err n) where
    pub refusal_is : o ≡ fault (number n)
    refusal_is = err_faults result_of o e w.answer

    pub zeros : {A : Type 0} (zero : A) (of : Reencoded → List A) (old : List A) {new : List A} → new ≡ replicate (length old) zero → new ≡ buffer_after zero o of old
    unfolding buffer_after
    zeros zero of old h = h ∙ sym (ap (λ (p : Checked Reencoded). buffer_after zero p of old) refusal_is)
