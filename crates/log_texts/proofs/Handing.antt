-- From the words read to what is handed on: the workspace suffices or the outcome is 11, and what lies in it.
use Rattle.std.proofs.Common.{◌≡◌, refl, sym, ap, ◌∙◌, true, false, List, ◌++◌, ℕ, ◌+◌, ◌≤◌, ◌<◌, arith, ltb, ℤ, length, take}
use lib.Seq.{length-sets}
use borrow.Author.Tests.{ltb-false}
use Rattle.definition.specs.Checked.{Checked, fault, value, refuse_if}
use Rattle.definition.specs.Literals.{literals_of}
use Rattle.definition.specs.Text.{Bytes}
use Rattle.definition.specs.Reading.{Input, input_limits}
use Rattle.definition.specs.Standing.{Line, highest_in}
use Rattle.definition.specs.Calls.{numbers_of, log_workspace_need, highest_allowed, Handed, read_texts}
use Rattle.theory_base.specs.Slices.{between}
use Rattle.theory_base.proofs.Lines.{lines_few}
use Rattle.theory_base.proofs.Fitting.{highest_in_le}
use Rattle.theory_text.specs.Accepted.{Accepted}
use Rattle.theory_text.proofs.Accepted.{input_accepted}
use Rattle.theory_text.proofs.LogLines.{AllFit, lines_fit}
use Rattle.store.specs.Store.{stored}
use Rattle.dimacs.specs.Entries.{entries_of}
use Rattle.dimacs.proofs.Entries.{entries_formed, entries_stored, entries_numbers}
use Rattle.drat.specs.Loaded.{line_entries, lines_in}
use Rattle.drat.proofs.Loaded.{entries_size, entries_loaded}
use Rattle.answer.proofs.Table.{marked_assigned}
use Rattle.replay.specs.Replayed.{Replayable}
use Rattle.carry.specs.declared.Direction.{Direction}
use Rattle.carry.specs.declared.Direction.TheVariants.{Back, Forward}
use Rattle.log_texts.specs.declared.Words.{Words}
use Rattle.log_texts.specs.Handed.{by_way, most, line_end, WordsRead, need, TextsRead}
use Rattle.log_texts.proofs.TextsRead.{texts_accepted, either_few}
use Rattle.log_texts.proofs.Workspace.{first_run, second_run}

-- ---- the line's last variable, by V and X

line_last : (d : Direction) (i : Input) (ss : List Line) (v x w : ℕ) → v ≡ i.variables → x ≡ highest_allowed i ss → w ≡ by_way d x v → w ≡ line_end d i ss
line_last Forward i ss v x w p q e = e ∙ q
line_last Back i ss v x w p q e = e ∙ p

-- ---- the words read

module _ {d : Direction} {kept : ℕ} {formula log answer : Bytes} {old new : List ℤ} {w : Words} {marks : Bytes} (t : WordsRead d kept formula log answer old w new marks) where
  abbrev texts : Checked Handed
  texts = read_texts (most d) (length old) kept formula log answer

  abbrev handed : Handed
  handed = record { input = t.i; lines = t.ss; named = t.named }

  input_fits : Accepted input_limits t.i
  input_fits = input_accepted formula t.i t.formula_is

  literals_few : literals_of t.i.formula ≤ 60_000
  unfolding input_limits
  literals_few = input_fits.literals_few

  pub n_small : w.formula.filled ≤ 80_000
  unfolding numbers_of input_limits
  n_small = omega (arith, t.formula_numbers, literals_few, input_fits.formula_few, input_fits.clauses_few)

  fit : AllFit t.ss
  fit = lines_fit kept log t.ss t.log_is

  lines_low : highest_in t.ss ≤ 70_000
  lines_low = highest_in_le 70_000 t.ss (λ s i. (fit s i).1)

  v_small : w.formula.variables ≤ 70_000
  unfolding input_limits
  v_small = omega (arith, t.variables, input_fits.variables_few, input_fits.highest_few)

  x_small : w.highest ≤ 70_000
  unfolding highest_allowed input_limits
  x_small = omega (arith, t.highest, input_fits.highest_few, lines_low)

  abbrev size_needed : ℕ
  size_needed = need w.formula.filled w.lines.numbers w.highest

  need_is : log_workspace_need t.i t.ss (highest_allowed t.i t.ss) ≡ size_needed
  unfolding log_workspace_need
  need_is = rw (t.formula_numbers, t.log_numbers, t.highest) refl

  texts_are : texts ≡ refuse_if (ltb (length old) size_needed) 11 (value handed)
  texts_are =
      texts_accepted d (length old) kept formula log answer t.i t.formula_is t.ss t.log_is t.named t.answer_is
      ∙ ap (λ (k : ℕ). refuse_if (ltb (length old) k) 11 (value handed)) need_is

  module _ (size : ℕ) (len : size ≡ length old) where
    pub short_refused : ltb size size_needed ≡ true → texts ≡ fault 11
    unfolding refuse_if
    short_refused e = texts_are ∙ rw (← len, e)

    module _ (enough : ltb size size_needed ≡ false) where
      sized : size_needed ≤ length old
      sized = omega (arith, len, ltb-false size size_needed enough)

      accepted : texts ≡ value handed
      unfolding refuse_if
      accepted = texts_are ∙ rw (← len, enough)

      -- the lines fill two elements for each of their numbers at most
      lines_size : w.lines.filled ≤ w.lines.numbers + w.lines.numbers
      lines_size = omega (arith, t.lines_filled, entries_size t.ss, t.log_numbers, lines_few t.ss)

      pub lines_fit_work : w.formula.filled + w.lines.filled ≤ length old
      lines_fit_work = omega (arith, sized, lines_size)

      abbrev n : ℕ
      n = w.formula.filled

      abbrev m : ℕ
      m = n + w.lines.filled

      formula_there : take n new ≡ entries_of t.i
      formula_there = first_run (entries_of t.i) (line_entries t.ss) old new n m t.stored (t.formula_numbers ∙ sym (entries_numbers t.i.formula)) (ap (λ (k : ℕ). n + k) t.lines_filled) lines_fit_work

      lines_there : between n m new ≡ line_entries t.ss
      lines_there = second_run (entries_of t.i) (line_entries t.ss) old new n m t.stored (t.formula_numbers ∙ sym (entries_numbers t.i.formula)) (ap (λ (k : ℕ). n + k) t.lines_filled) lines_fit_work

      lines_are : lines_in (between n m new) ≡ t.ss
      lines_are = ap lines_in lines_there ∙ (entries_loaded t.ss fit).1

      new_length : length new ≡ length old
      new_length = ap length t.stored ∙ length-sets old 0 (entries_of t.i ++ line_entries t.ss)

      replay_ready : Replayable new n m
      replay_ready = record {
        before = omega arith;
        room = rw lines_are (omega (arith, sized, lines_size, new_length, t.log_numbers));
        formed = rw formula_there (entries_formed t.i.formula (omega (arith, literals_few)));
        loaded = rw lines_there (entries_loaded t.ss fit).0;
      }

      pub handed_on : {last : ℕ} → last ≡ by_way d w.highest w.formula.variables → 70_000 < length marks → TextsRead d texts (record { variables = last; formula_end = n; lines_end = m }) new marks
      handed_on {last} e h = record {
        handed = handed;
        outcome = accepted;
        last = line_last d t.i t.ss w.formula.variables w.highest last t.variables t.highest e;
        few = omega (arith, either_few d w.highest w.formula.variables last 70_000 x_small v_small e);
        formula = ap stored formula_there ∙ entries_stored t.i.formula (omega (arith, literals_few));
        lines = lines_are;
        assignment = marked_assigned t.named marks t.table;
        replayable = replay_ready;
        named = rw lines_are (omega (arith, lines_low));
      }
