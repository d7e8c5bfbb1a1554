-- What the three texts say, and the workspace after the formula and the kept lines are read into it.
use Rattle.std.specs.Prelude.{◌≡◌, List, ◌++◌, ℕ, ◌+◌, ◌*◌, ◌<◌, ◌^◌, ℤ, length, take, Result, Ok, Err}
use Rattle.std.proofs.lemmas.List.Edits.{sets}
use Rattle.definition.specs.Checked.{Checked, fault, value}
use Rattle.definition.specs.Literals.{Clause}
use Rattle.definition.specs.Text.{Bytes}
use Rattle.definition.specs.Reading.{Input}
use Rattle.definition.specs.Standing.{Line, highest_in}
use Rattle.definition.specs.LogReading.{read_log, numbers_in}
use Rattle.definition.specs.Answer.{read_answer}
use Rattle.definition.specs.Calls.{read_input, assigned, numbers_of, highest_allowed, Handed, read_texts}
use Rattle.theory_base.specs.Slices.{between}
use Rattle.store.specs.Store.{stored}
use Rattle.answer.specs.Table.{Table, marked}
use Rattle.dimacs.specs.Entries.{entries_of}
use Rattle.drat.specs.Loaded.{line_entries, lines_in}
use Rattle.replay.specs.Replayed.{Replayable}
use Rattle.refusals.specs.declared.Refusal.{Refusal}
use Rattle.refusals.specs.Numbers.{number}
use Rattle.carry.specs.declared.Direction.{Direction}
use Rattle.carry.specs.declared.Direction.TheVariants.{Back, Forward}
use Rattle.log_texts.specs.declared.Words.{Words}
use Rattle.log_texts.specs.declared.Texts.{Texts}

-- ---- forward, a plan for 1..V becomes a line for 1..X; back, an answer for 1..X a line for 1..V

-- the first going forward, the second going back
abbrev pub by_way : {A : Type 0} → Direction → A → A → A
by_way Forward a b = a
by_way Back a b = b

-- the highest variable that the answer may name
abbrev pub most : Direction → Input → List Line → ℕ
most d = by_way d (λ i ss. i.variables) highest_allowed

-- the highest variable of the line
abbrev pub line_end : Direction → Input → List Line → ℕ
line_end d = by_way d highest_allowed (λ i ss. i.variables)

-- ---- the texts read, whatever the workspace

-- the texts are accepted: what is told of the formula and the lines, X, and the literals that the answer names
pub record WordsRead (d : Direction) (kept : ℕ) (formula log answer : Bytes) (old : List ℤ) (w : Words) (new : List ℤ) (marks : Bytes) : Type 0 where
  pub i : Input
  pub ss : List Line
  pub named : Clause
  pub formula_is : read_input formula ≡ value i
  pub log_is : read_log kept log ≡ value ss
  pub answer_is : read_answer (most d i ss) answer ≡ value named
  pub variables : w.formula.variables ≡ i.variables
  pub formula_numbers : w.formula.filled ≡ numbers_of i.formula
  pub log_numbers : w.lines.numbers ≡ numbers_in ss
  pub lines_filled : w.lines.filled ≡ length (line_entries ss)
  pub highest : w.highest ≡ highest_allowed i ss
  pub stored : new ≡ sets old 0 (entries_of i ++ line_entries ss)
  pub table : Table named marks

-- the texts are accepted, or the first fault is that of `read_texts`
abbrev pub WordsSay : Direction → ℕ → Bytes → Bytes → Bytes → List ℤ → Result Words Refusal → List ℤ → Bytes → Type 0
WordsSay d kept formula log answer old (Ok w) new marks = WordsRead d kept formula log answer old w new marks
WordsSay d kept formula log answer old (Err e) new marks = (workspace : ℕ) → read_texts (most d) workspace kept formula log answer ≡ fault (number e)

-- entries of workspace: 4(N + G) + 4X + 64
abbrev pub need : ℕ → ℕ → ℕ → ℕ
need n g x = 4 * (n + g) + 4 * x + 64

-- ---- the texts read into a workspace that suffices

-- the formula lies before its end, the lines up to theirs with room for a replay, and the table has the assignment and every variable of the lines
pub record TextsRead (d : Direction) (o : Checked Handed) (t : Texts) (work : List ℤ) (marks : Bytes) : Type 0 where
  pub handed : Handed
  pub outcome : o ≡ value handed
  pub last : t.variables ≡ line_end d handed.input handed.lines
  pub few : t.variables < 2 ^ 31
  pub formula : stored (take t.formula_end work) ≡ handed.input.formula
  pub lines : lines_in (between t.formula_end t.lines_end work) ≡ handed.lines
  pub assignment : marked marks ≡ assigned handed.named
  pub replayable : Replayable work t.formula_end t.lines_end
  pub named : highest_in (lines_in (between t.formula_end t.lines_end work)) < length marks

abbrev pub TextsSay : Direction → Checked Handed → Result Texts Refusal → List ℤ → Bytes → Type 0
TextsSay d o (Ok t) work marks = TextsRead d o t work marks
TextsSay d o (Err e) work marks = o ≡ fault (number e)
