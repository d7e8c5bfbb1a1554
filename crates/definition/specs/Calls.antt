-- The outcome of each call, and the buffers after it ("Log and new formula", "Walk-back", "Who can be turned back", M-121, M-126).
use Rattle.std.specs.Prelude.{Bool, not, ◌&&◌, cond, List, ◌++◌, ℕ, ◌+◌, ◌*◌, max, ltb, leb, pos, neg_ℤ, length, drop, replicate}
use Rattle.definition.specs.Lists.{for_from}
use Rattle.definition.specs.Checked.{Checked, fault, value, ◌>>=◌, refuse_if}
use Rattle.definition.specs.Literals.{Clause, Formula, holds, literals_of}
use Rattle.definition.specs.Text.{Bytes, bytes, literal_text}
use Rattle.definition.specs.Reading.{input_limits, read_back_limits, Input, read_formula}
use Rattle.definition.specs.Standing.{Line, replay, highest_in}
use Rattle.definition.specs.Assignments.{Assignment, satisfies, carried_back, carried_forward}
use Rattle.definition.specs.Events.{TableRecord}
use Rattle.definition.specs.Reencoding.{Settings, chosen, log, table, result, highest_used}
use Rattle.definition.specs.Log.{log_text, formula_text}
use Rattle.definition.specs.LogReading.{read_log, numbers_in}
use Rattle.definition.specs.Answer.{read_answer}

-- ---- the input of every call: the formula read, followed by the clauses that a wish joins to it; no wish joins any
unfoldable pub read_input : Bytes → Checked Input
read_input t = read_formula input_limits t

-- ---- reencoding

-- the result: choices, H, M, log lines and both byte lengths
pub record Tally : Type 0 where
  pub choices : ℕ
  pub highest : ℕ
  pub clauses : ℕ
  pub lines : ℕ
  pub log_bytes : ℕ
  pub formula_bytes : ℕ

-- the result, both texts, and M-118's table
pub record Reencoded : Type 0 where
  pub tally : Tally
  pub log : Bytes
  pub formula : Bytes
  pub table : List TableRecord

unfoldable pub reencoded : Settings → Input → Reencoded
reencoded s i =
    let lines = log s i in
    let text = log_text lines in
    let standing = result s i in
    let formula = formula_text (highest_used s i) standing in
    record {
      tally =
          record {
            choices = length (chosen s i);
            highest = highest_used s i;
            clauses = length standing;
            lines = length lines;
            log_bytes = length text;
            formula_bytes = length formula;
          };
      log = text;
      formula = formula;
      table = table s i;
    }

-- 11: fewer 32-bit entries than 40L + 4C + 12V + 8,192; L counts what is kept, C is the header's
unfoldable pub workspace_need : Input → ℕ
workspace_need i = 40 * literals_of i.formula + 4 * i.clauses + 12 * i.highest + 8_192

-- M-118, 15: a step outside 1 to 100
unfoldable pub step_allowed : ℕ → Bool
step_allowed g = leb 1 g && leb g 100

-- 16: H would pass 70,000
unfoldable pub limited : Reencoded → Checked Reencoded
limited r = refuse_if (ltb 70_000 r.tally.highest) 16 (value r)

-- the run that reencoding and M-126's sizes share: 15, tested first of all; 1 to 4, 7 to 9, 11, 16; the number is the entries of workspace
unfoldable pub run : Settings → ℕ → Bytes → Checked Reencoded
run s workspace t =
    refuse_if (not (step_allowed s.step)) 15
    (read_input t >>= λ i.
    refuse_if (ltb workspace (workspace_need i)) 11
    (limited (reencoded s i)))

-- 17 (table shorter than the choices), 12, 13, by the records of the table and the bytes of the two buffers
unfoldable pub fitted : ℕ → ℕ → ℕ → Reencoded → Checked Reencoded
fitted table_room log_room formula_room r =
    refuse_if (ltb table_room r.tally.choices) 17
    (refuse_if (ltb log_room (length r.log)) 12
    (refuse_if (ltb formula_room (length r.formula)) 13
    (value r)))

-- the run, then 17, 12, 13; the four numbers are the entries of workspace, the bytes of the two buffers and the records of the table
unfoldable pub reencode : Settings → ℕ → ℕ → ℕ → ℕ → Bytes → Checked Reencoded
reencode s workspace log_room formula_room table_room t = run s workspace t >>= fitted table_room log_room formula_room

-- M-126, size before the run: its result alone, "and the refusals are the run's, save 12, 13 and 17"
unfoldable pub sizes : Settings → ℕ → Bytes → Checked Tally
sizes s workspace t = run s workspace t >>= λ r. value r.tally

-- ---- the new formula read back: 1 to 4, 7 to 9, then 11
unfoldable pub read_back : ℕ → Bytes → Checked Input
read_back workspace t =
    read_formula read_back_limits t >>= λ i.
    refuse_if (ltb workspace (workspace_need i)) 11 (value i)

-- ---- the calls that read a log

-- a variable not named is false
unfoldable pub assigned : Clause → Assignment
assigned named v = holds (pos v) named

-- `v`, the literals of 1..V in order, `0`; single blanks, LF after
unfoldable pub answer_text : ℕ → Assignment → Bytes
answer_text v a =
    bytes "v" ++ for_from 1 v (λ i. bytes " " ++ literal_text (cond (a i) (pos i) (neg_ℤ (pos i)))) ++ bytes " 0\n"

-- 14: the buffer is shorter than the line
unfoldable pub fitting_line : ℕ → ℕ → Assignment → Checked Bytes
fitting_line room v a =
    let text = answer_text v a in
    refuse_if (ltb room (length text)) 14 (value text)

-- N, the numbers after the formula's header, zeros counted; of a clause left out not even its 0
unfoldable pub numbers_of : Formula → ℕ
numbers_of f = literals_of f + length f

-- 11 for a call that reads a log: fewer than 4(N + G) + 4X + 64
unfoldable pub log_workspace_need : Input → List Line → ℕ → ℕ
log_workspace_need i ss x = 4 * (numbers_of i.formula + numbers_in ss) + 4 * x + 64

-- X is the greater of V and the highest variable in the kept lines
unfoldable pub highest_allowed : Input → List Line → ℕ
highest_allowed i ss = max i.highest (highest_in ss)

-- the three texts, read: the formula, the kept lines, and the literals that an answer or a plan names
pub record Handed : Type 0 where
  pub input : Input
  pub lines : List Line
  pub named : Clause

-- 1 to 4, 7 to 9, then 31 or 34, 41 to 43, 11; 42 is a variable above `most`
unfoldable pub read_texts : (Input → List Line → ℕ) → ℕ → ℕ → Bytes → Bytes → Bytes → Checked Handed
read_texts most workspace kept formula log answer =
    read_input formula >>= λ i.
    read_log kept log >>= λ ss.
    read_answer (most i ss) answer >>= λ named.
    refuse_if (ltb workspace (log_workspace_need i ss (highest_allowed i ss))) 11
    (value (record { input = i; lines = ss; named = named }))

-- ---- walk-back

-- the answer is tested against the clauses standing, then carried back: 44, 33, 14
unfoldable pub carry_answer : ℕ → Input → List Line → Formula → Assignment → Checked Bytes
carry_answer room i ss standing a =
    refuse_if (not (satisfies a standing)) 44
    (let back = carried_back a ss in
    refuse_if (not (satisfies back i.formula)) 33 (fitting_line room i.variables back))

-- 1 to 4, 7 to 9, then 31 or 34, 41 to 43 (42 above X), 11, 32, 44, 33, 14
unfoldable pub walk_back : ℕ → ℕ → ℕ → Bytes → Bytes → Bytes → Checked Bytes
walk_back workspace room kept formula log answer =
    read_texts highest_allowed workspace kept formula log answer >>= λ t.
    replay t.input.formula t.lines >>= λ standing.
    carry_answer room t.input t.lines standing (assigned t.named)

-- ---- M-121: last season's plan carried forward

-- the plan is carried forward, then tested against the clauses standing; its line is for 1..X: 46, 14
unfoldable pub carry_plan : ℕ → Input → List Line → Formula → Assignment → Checked Bytes
carry_plan room i ss standing a =
    let forth = carried_forward a ss in
    refuse_if (not (satisfies forth standing)) 46 (fitting_line room (highest_allowed i ss) forth)

-- 1 to 4, 7 to 9, then 31 or 34, 41 to 43 (42 above V), 11, 45, 32, 46, 14; new variables, which no plan names, start false
unfoldable pub carry_forward : ℕ → ℕ → ℕ → Bytes → Bytes → Bytes → Checked Bytes
carry_forward workspace room kept formula log plan =
    read_texts (λ i ss. i.variables) workspace kept formula log plan >>= λ t.
    refuse_if (not (satisfies (assigned t.named) t.input.formula)) 45
    (replay t.input.formula t.lines >>= λ standing.
    carry_plan room t.input t.lines standing (assigned t.named))

-- ---- a buffer after a call: all zero at a fault, else what is written and then what lay past it
unfoldable pub buffer_after : {A E : Type 0} → E → Checked A → (A → List E) → List E → List E
buffer_after nought (fault n) written before = replicate (length before) nought
buffer_after nought (value a) written before = written a ++ drop (length (written a)) before

-- all of this file, for a proof that computes: `unfolding computing` opens every name of the next line
unfoldable pub computing : Unit {0}
unfolding read_input reencoded workspace_need step_allowed limited run fitted reencode sizes read_back assigned answer_text fitting_line numbers_of log_workspace_need highest_allowed read_texts carry_answer walk_back carry_plan carry_forward buffer_after
computing = tt
