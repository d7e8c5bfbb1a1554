-- The outcome by what each text says, in the order in which they are read; and the workspace that the formula and the lines are read into.
-- The way shows in one place only: which of V and X the answer's variables may reach (`named_last`).
use Rattle.std.proofs.Common.{◌≡◌, refl, sym, ap, ◌∙◌, List, ◌++◌, ℕ, ◌≤◌, max, arith, ltb, ℤ, Ok, Err}
use lib.Seq.{sets}
use Rattle.definition.specs.Checked.{Checked, fault, value, ◌>>=◌, refuse_if}
use Rattle.definition.specs.Literals.{Clause}
use Rattle.definition.specs.Text.{Bytes}
use Rattle.definition.specs.Reading.{Limits, Input, input_limits, read_formula}
use Rattle.definition.specs.Standing.{Line}
use Rattle.definition.specs.LogReading.{read_log}
use Rattle.definition.specs.Answer.{read_answer}
use Rattle.definition.specs.Calls.{read_input, log_workspace_need, highest_allowed, Handed, read_texts}
use Rattle.theory_base.proofs.Fitting.{highest_in_le}
use Rattle.theory_text.proofs.Accepted.{input_read, input_accepted, input_highest}
use Rattle.theory_text.proofs.LogLines.{lines_fit}
use Rattle.dimacs.specs.Limits.{limits_of}
use Rattle.dimacs.specs.Entries.{entries_of}
use Rattle.dimacs.specs.Outcome.{summary, Filled}
use Rattle.dimacs.specs.declared.Limits as Code
use Rattle.dimacs.specs.declared.Formula.{Formula}
use Rattle.dimacs.proofs.Entries.{entries_numbers}
use Rattle.dimacs.proofs.Outcome.{FormulaIs, formula_told, formula_refused}
use Rattle.drat.specs.Loaded.{line_entries}
use Rattle.drat.specs.Reading.{Kept}
use Rattle.drat.specs.declared.KeptLines.{KeptLines}
use Rattle.refusals.specs.declared.Refusal.{Refusal}
use Rattle.refusals.specs.Numbers.{number}
use Rattle.refusals.specs.Outcomes.{outcome, showing}
use Rattle.answer.specs.Table.{Table}
use Rattle.carry.specs.declared.Direction.{Direction}
use Rattle.carry.specs.declared.Direction.TheVariants.{Back, Forward}
use Rattle.log_texts.specs.Handed.{by_way, most, WordsRead}
use Rattle.log_texts.proofs.Workspace.{runs_joined}

-- ---- the outcome

module _ (d : Direction) (workspace kept : ℕ) (formula log answer : Bytes) where
  abbrev texts : Checked Handed
  texts = read_texts (most d) workspace kept formula log answer

  no_formula : (n : ℕ) → read_input formula ≡ fault n → texts ≡ fault n
  unfolding read_texts ◌>>=◌
  no_formula n e = rw e

  module _ (i : Input) (f : read_input formula ≡ value i) where
    no_lines : (n : ℕ) → read_log kept log ≡ fault n → texts ≡ fault n
    unfolding read_texts ◌>>=◌
    no_lines n e = rw (f, e)

    module _ (ss : List Line) (g : read_log kept log ≡ value ss) where
      no_answer : (n : ℕ) → read_answer (most d i ss) answer ≡ fault n → texts ≡ fault n
      unfolding read_texts ◌>>=◌
      no_answer n e = rw (f, g, e)

      pub texts_accepted : (named : Clause) → read_answer (most d i ss) answer ≡ value named
          → texts ≡ refuse_if (ltb workspace (log_workspace_need i ss (highest_allowed i ss))) 11 (value (record { input = i; lines = ss; named = named }))
      unfolding read_texts ◌>>=◌
      texts_accepted named e = rw (f, g, e)

-- ---- the texts, one after the other

-- the highest variable that the answer may name, by V and X
named_last : (d : Direction) (i : Input) (ss : List Line) (v x y : ℕ) → v ≡ i.variables → x ≡ highest_allowed i ss → y ≡ by_way d v x → y ≡ most d i ss
named_last Forward i ss v x y p q e = e ∙ p
named_last Back i ss v x y p q e = e ∙ q

-- a bound on both is one on either
pub either_few : (d : Direction) (a b y k : ℕ) → a ≤ k → b ≤ k → y ≡ by_way d a b → y ≤ k
either_few Forward a b y k p q e = omega arith
either_few Back a b y k p q e = omega arith

module _ (d : Direction) (kept : ℕ) (formula log answer : Bytes) (old : List ℤ) (limits : Code.Limits) (k : limits_of limits ≡ input_limits) where
  abbrev Refused : ℕ → Type 0
  Refused n = (workspace : ℕ) → read_texts (most d) workspace kept formula log answer ≡ fault n

  as_input : read_formula (limits_of limits) formula ≡ read_input formula
  as_input = ap (λ (l : Limits). read_formula l formula) k ∙ sym (input_read formula)

  pub says_formula : (e : Refusal) → outcome {A = Formula} (Err e) ≡ showing summary (read_formula (limits_of limits) formula) → Refused (number e)
  says_formula e p workspace = no_formula d workspace kept formula log answer _ (formula_refused (read_input formula) refl (p ∙ ap (showing summary) as_input))

  module _ {f : Formula} (p : outcome (Ok f) ≡ showing summary (read_formula (limits_of limits) formula)) {w : List ℤ} (s : Filled (read_formula (limits_of limits) formula) old w) where
    read : FormulaIs (read_input formula) f
    read = formula_told (read_input formula) refl (p ∙ ap (showing summary) as_input)

    pub says_log : {n : ℕ} → read_log kept log ≡ fault n → Refused n
    says_log z workspace = no_lines d workspace kept formula log answer read.input read.is _ z

    module _ {g : KeptLines} {w' : List ℤ} (lines : Kept (read_log kept log) g w f.filled w') {x y : ℕ} (e : x ≡ max f.variables g.highest) (b : y ≡ by_way d f.variables x) where
      pub y_small : y ≤ 70_000
      unfolding input_limits
      y_small =
          let i = input_accepted formula read.input read.is in
          let t = highest_in_le 70_000 lines.ss (λ s m. (lines_fit kept log lines.ss lines.read s m).1) in
          either_few d f.variables x y 70_000 (omega (arith, read.variables, i.variables_few, i.highest_few))
          (omega (arith, e, read.variables, i.variables_few, i.highest_few, lines.high, t)) b

      x_is : x ≡ highest_allowed read.input lines.ss
      unfolding highest_allowed
      x_is = rw (input_highest formula read.input read.is, ← read.variables, ← lines.high) e

      loaded : w' ≡ sets old 0 (entries_of read.input ++ line_entries lines.ss)
      loaded = runs_joined (entries_of read.input) (line_entries lines.ss) old w w' f.filled (s read.input (as_input ∙ read.is)) (read.filled ∙ sym (entries_numbers read.input.formula)) lines.stored

      answer_here : read_answer (most d read.input lines.ss) answer ≡ read_answer y answer
      answer_here = ap (λ (j : ℕ). read_answer j answer) (sym (named_last d read.input lines.ss f.variables x y read.variables x_is b))

      pub says_answer : {n : ℕ} → read_answer y answer ≡ fault n → Refused n
      says_answer u workspace = no_answer d workspace kept formula log answer read.input read.is lines.ss lines.read _ (answer_here ∙ u)

      pub says_read : {named : Clause} {marks : Bytes} → read_answer y answer ≡ value named → Table named marks →
          WordsRead d kept formula log answer old (record { formula = f; lines = g; highest = x }) w' marks
      says_read {named} u t = record {
        i = read.input;
        ss = lines.ss;
        named = named;
        formula_is = read.is;
        log_is = lines.read;
        answer_is = answer_here ∙ u;
        variables = read.variables;
        formula_numbers = read.filled;
        log_numbers = lines.sum;
        lines_filled = lines.size;
        highest = x_is;
        stored = loaded;
        table = t;
      }
