-- Every outcome is a value or one of the listed numbers: laws for the parts of an outcome, then each reader and each call.
use mathlib.Core.Path.{refl, sym, subst}
use mathlib.Core.Bool.{Bool, true, false, cond, not, ◌&&◌}
use mathlib.Core.List.Memᴰ
use mathlib.Core.List.{List, [], ◌∷◌, ◌++◌, Memᴰ}
use mathlib.Core.Option.{Option, some, none}
use Prim.Native.Nat.{ℕ}
use lib.Dec.{T, eqb, eqb→eq}
use lib.IntN.{ℤ, nat_abs}
use Rattle.definition.specs.Checked.{Checked, ◌>>=◌, refuse_if, or_fault, through}
use Rattle.definition.specs.Lists.{any, all}
use Rattle.definition.specs.Literals.{Clause, Formula}
use Rattle.definition.specs.Text.{Bytes, TextLine, bytes, text_lines, line_text, same_bytes}
use Rattle.definition.specs.Reading.{Limits, input_limits, read_back_limits, Input, Header, Reader, read_header_fields, read_header_line, read_header, read_literal, read_word, end_text, read_clauses, read_formula, end_clause}
use Rattle.definition.specs.Standing.{Line, addition, deletion, replay_line, replay}
use Rattle.definition.specs.Assignments.{Assignment}
use Rattle.definition.specs.LogReading.{read_line_clause, allowed_clause, read_line_fields, read_line, read_log}
use Rattle.definition.specs.Answer.{Answer, begins_with, read_answer_word, read_answer_line, read_answer}
use Rattle.definition.specs.Reencoding.{Settings}
use Rattle.definition.specs.Calls.{limited, run, fitted, reencode, sizes, fitting_line, highest_allowed, read_back, read_texts, carry_answer, walk_back, carry_plan, carry_forward, buffer_after, read_input}
use Rattle.theory_base.proofs.Members.{any_mem, all_at}
use Rattle.theory_text.proofs.Accepted.{input_read}
use Rattle.theorems.specs.Refusals.{formula_numbers, log_numbers, answer_numbers, sizes_numbers, reencode_numbers, read_back_numbers, walk_back_numbers, carry_forward_numbers, Listed, accepted, refused, Demand1}

-- the test that a number is in a list, which computes for a list written out
abbrev among : List ℕ → ℕ → Bool
among ns n = any (eqb n) ns

-- a number that passes the test is in the list
among_mem : {ns : List ℕ} {n : ℕ} → T (among ns n) → Memᴰ n ns
among_mem {ns} {n} t = let r = any_mem (eqb n) ns t in Memᴰ.cast (eqb→eq n r.0 r.2) r.1

-- ---- the parts of an outcome
module _ {ns : List ℕ} {A : Type 0} where
  -- a test with a listed number before a listed outcome
  pub refuse_listed : (n : ℕ) (t : Bool) {x : Checked A} → T (among ns n) → Listed ns x → Listed ns (refuse_if t n x)
  unfolding refuse_if
  refuse_listed n true m p = refused (among_mem m)
  refuse_listed n false m p = p

  -- a demand with a listed number: what follows may rely on it
  pub unless_listed : (n : ℕ) (t : Bool) {x : Checked A} → T (among ns n) → (T t → Listed ns x) → Listed ns (refuse_if (not t) n x)
  unfolding refuse_if
  unless_listed n true m p = p tt
  unless_listed n false m p = refused (among_mem m)

  -- a value, or a listed number
  or_fault_listed : (n : ℕ) (o : Option A) → T (among ns n) → Listed ns (or_fault o n)
  unfolding or_fault
  or_fault_listed n none m = refused (among_mem m)
  or_fault_listed n (some a) m = accepted

  -- one of two listed outcomes
  cond_listed : (b : Bool) {x y : Checked A} → Listed ns x → Listed ns y → Listed ns (cond b x y)
  cond_listed true p q = p
  cond_listed false p q = q

  -- a listed outcome after a listed outcome
  pub bind_listed : {B : Type 0} {x : Checked A} {f : A → Checked B} → Listed ns x → ((a : A) → Listed ns (f a)) → Listed ns (x >>= f)
  unfolding ◌>>=◌
  bind_listed (accepted {a}) q = q a
  bind_listed (refused m) q = refused m

  -- numbers that are all in another list
  pub listed_among : {ms : List ℕ} {x : Checked A} → T (all (among ns) ms) → Listed ms x → Listed ns x
  listed_among w accepted = accepted
  listed_among {ms} w (refused {n} m) = refused (among_mem (all_at (among ns) ms w n m))

-- a loop whose step is listed
through_listed : {ns : List ℕ} {S W : Type 0} {step : S → W → Checked S} → ((s : S) (w : W) → Listed ns (step s w)) → (s : S) (ws : List W) → Listed ns (through step s ws)
unfolding through
through_listed p s [] = accepted
through_listed p s (w ∷ ws) = bind_listed (p s w) (λ t. through_listed p t ws)

-- ---- the formula
-- the text's end: 7, 8
end_listed : (c : ℕ) (r : Reader) → Listed formula_numbers (end_text c r)
unfolding end_text formula_numbers any
end_listed c r = refuse_listed 7 _ tt (refuse_listed 8 _ tt accepted)

module _ (most : Limits) where
  -- the header: 1, 2
  header_fields_listed : (f : List Bytes) (after : Bytes) → Listed formula_numbers (read_header_fields most f after)
  unfolding read_header_fields formula_numbers any
  header_fields_listed f after =
      refuse_listed 1 _ tt
      (bind_listed (or_fault_listed 1 _ tt) (λ v.
      bind_listed (or_fault_listed 1 _ tt) (λ c.
      refuse_listed 2 _ tt accepted)))

  header_line_listed : (ls : List TextLine) (t : Bytes) → Listed formula_numbers (read_header_line most ls t)
  unfolding read_header_line formula_numbers any
  header_line_listed [] t = refused (among_mem tt)
  header_line_listed (l ∷ ls) t = header_fields_listed _ _

  header_listed : (t : Bytes) → Listed formula_numbers (read_header most t)
  unfolding read_header
  header_listed t = header_line_listed _ _

  -- a literal: 4
  literal_listed : (v : ℕ) (r : Reader) (l : ℤ) → Listed formula_numbers (read_literal v r l)
  unfolding read_literal formula_numbers any
  literal_listed v r l = refuse_listed 4 _ tt accepted

  -- the end of a clause: 9
  end_clause_listed : (r : Reader) → Listed formula_numbers (end_clause most r)
  unfolding end_clause formula_numbers any
  end_clause_listed r = refuse_listed 9 _ tt accepted

  -- a word: 8, 3, and those of a literal or of the end of a clause
  word_listed : (v c : ℕ) (r : Reader) (w : Bytes) → Listed formula_numbers (read_word most v c r w)
  unfolding read_word formula_numbers any
  word_listed v c r w =
      refuse_listed 8 _ tt
      (bind_listed (or_fault_listed 3 _ tt) (λ n. cond_listed (eqb 0 (nat_abs n)) (end_clause_listed r) (literal_listed v r n)))

  clauses_listed : (h : Header) → Listed formula_numbers (read_clauses most h)
  unfolding read_clauses
  clauses_listed h =
      bind_listed (through_listed (word_listed h.variables h.clauses) _ h.after) (λ r.
      bind_listed (end_listed h.clauses r) (λ f. accepted))

  formula_listed : (t : Bytes) → Listed formula_numbers (read_formula most t)
  unfolding read_formula
  formula_listed t = bind_listed (header_listed t) clauses_listed

-- ---- the log
-- a line's clause: 31
allowed_listed : (c : Option Clause) → Listed log_numbers (allowed_clause c)
unfolding allowed_clause log_numbers any
allowed_listed none = refused (among_mem tt)
allowed_listed (some c) = refuse_listed 31 _ tt accepted

line_fields_listed : (ws : List Bytes) → Listed log_numbers (read_line_fields ws)
unfolding read_line_fields log_numbers any
line_fields_listed [] = refused (among_mem tt)
line_fields_listed (w ∷ ws) =
    cond_listed (same_bytes w (bytes "d")) (bind_listed (allowed_listed (read_line_clause ws)) (λ c. accepted)) (bind_listed (allowed_listed (read_line_clause (w ∷ ws))) (λ c. accepted))

line_listed : (ss : List Line) (l : TextLine) → Listed log_numbers (read_line ss l)
unfolding read_line log_numbers any
line_listed ss l = refuse_listed 31 _ tt (bind_listed (line_fields_listed _) (λ s. accepted))

-- the kept lines: 31, 34
log_listed : (kept : ℕ) (t : Bytes) → Listed log_numbers (read_log kept t)
unfolding read_log log_numbers any
log_listed kept t = bind_listed (through_listed line_listed _ _) (λ ss. refuse_listed 34 _ tt accepted)

-- ---- the answer
module _ (x : ℕ) where
  -- a number of a `v ` line: 41, 42, 43
  answer_word_listed : (a : Answer) (w : Bytes) → Listed answer_numbers (read_answer_word x a w)
  unfolding read_answer_word answer_numbers any
  answer_word_listed a w =
      refuse_listed 41 _ tt
      (bind_listed (or_fault_listed 41 _ tt) (λ l.
      cond_listed (eqb 0 (nat_abs l)) accepted (refuse_listed 42 _ tt (refuse_listed 43 _ tt accepted))))

  -- a line: 41, and those of its numbers
  answer_line_listed : (a : Answer) (t : Bytes) → Listed answer_numbers (read_answer_line x a t)
  unfolding read_answer_line answer_numbers any
  answer_line_listed a t =
      cond_listed (begins_with (bytes "c") t) accepted
      (cond_listed (same_bytes t (bytes "s SATISFIABLE") && not a.begun) accepted
      (refuse_listed 41 _ tt (through_listed answer_word_listed a _)))

  pub answer_listed : (t : Bytes) → Listed answer_numbers (read_answer x t)
  unfolding read_answer answer_numbers any
  answer_listed t =
      bind_listed (through_listed (λ a l. answer_line_listed a (line_text l)) _ (text_lines t)) (λ a. refuse_listed 41 _ tt accepted)

-- ---- the calls
input_listed : (t : Bytes) → Listed formula_numbers (read_input t)
input_listed t = subst (Listed formula_numbers) (sym (input_read t)) (formula_listed input_limits t)

run_listed : (s : Settings) (workspace : ℕ) (t : Bytes) → Listed sizes_numbers (run s workspace t)
unfolding run limited formula_numbers sizes_numbers any all
run_listed s workspace t =
    refuse_listed 15 _ tt
    (bind_listed (listed_among tt (input_listed t)) (λ i. refuse_listed 11 _ tt (refuse_listed 16 _ tt accepted)))

reencode_listed : (s : Settings) (workspace log_room formula_room table_room : ℕ) (t : Bytes) → Listed reencode_numbers (reencode s workspace log_room formula_room table_room t)
unfolding reencode fitted formula_numbers sizes_numbers reencode_numbers any all
reencode_listed s workspace log_room formula_room table_room t =
    bind_listed (listed_among tt (run_listed s workspace t)) (λ r. refuse_listed 17 _ tt (refuse_listed 12 _ tt (refuse_listed 13 _ tt accepted)))

sizes_listed : (s : Settings) (workspace : ℕ) (t : Bytes) → Listed sizes_numbers (sizes s workspace t)
unfolding sizes
sizes_listed s workspace t = bind_listed (run_listed s workspace t) (λ r. accepted)

read_back_listed : (workspace : ℕ) (t : Bytes) → Listed read_back_numbers (read_back workspace t)
unfolding read_back formula_numbers read_back_numbers any all
read_back_listed workspace t =
    bind_listed (listed_among tt (formula_listed read_back_limits t)) (λ i. refuse_listed 11 _ tt accepted)

-- the three texts read, whatever variables are allowed: those of each, and 11
texts_listed : (most : Input → List Line → ℕ) (workspace kept : ℕ) (t log answer : Bytes) → Listed (formula_numbers ++ log_numbers ++ answer_numbers ++ (11 ∷ [])) (read_texts most workspace kept t log answer)
unfolding read_texts formula_numbers log_numbers answer_numbers any all
texts_listed most workspace kept t log answer =
    bind_listed (listed_among tt (input_listed t)) (λ i.
    bind_listed (listed_among tt (log_listed kept log)) (λ ss.
    bind_listed (listed_among tt (answer_listed (most i ss) answer)) (λ named.
    refuse_listed 11 _ tt accepted)))

-- a deletion without its clause: 32
replay_listed : (f : Formula) (ss : List Line) → Listed (32 ∷ []) (replay f ss)
unfolding replay replay_line any
replay_listed f ss = through_listed step f ss
  where
    step : (f : Formula) (s : Line) → Listed (32 ∷ []) (replay_line f s)
    step f (addition c) = accepted
    step f (deletion c) = refuse_listed 32 _ tt accepted

-- a line: 14
pub fitting_listed : (room v : ℕ) (a : Assignment) → Listed (14 ∷ []) (fitting_line room v a)
unfolding fitting_line any
fitting_listed room v a = refuse_listed 14 _ tt accepted

-- after the texts: 32, the tests of the answer carried back, 14
walk_back_listed : (workspace room kept : ℕ) (t log answer : Bytes) → Listed walk_back_numbers (walk_back workspace room kept t log answer)
unfolding walk_back carry_answer formula_numbers log_numbers answer_numbers walk_back_numbers any all
walk_back_listed workspace room kept t log answer =
    bind_listed (listed_among tt (texts_listed highest_allowed workspace kept t log answer)) (λ h.
    bind_listed (listed_among tt (replay_listed h.input.formula h.lines)) (λ standing.
    refuse_listed 44 _ tt (refuse_listed 33 _ tt (listed_among tt (fitting_listed room _ _)))))

-- after the texts: the plan's test, 32, the test of what comes, 14
carry_forward_listed : (workspace room kept : ℕ) (t log plan : Bytes) → Listed carry_forward_numbers (carry_forward workspace room kept t log plan)
unfolding carry_forward carry_plan formula_numbers log_numbers answer_numbers carry_forward_numbers any all
carry_forward_listed workspace room kept t log plan =
    bind_listed (listed_among tt (texts_listed (λ i ss. i.variables) workspace kept t log plan)) (λ h.
    refuse_listed 45 _ tt
    (bind_listed (listed_among tt (replay_listed h.input.formula h.lines)) (λ standing.
    refuse_listed 46 _ tt (listed_among tt (fitting_listed room _ _)))))

pub demand_1 : Demand1
unfolding buffer_after
demand_1 = record {
  formula = formula_listed;
  log = log_listed;
  answer = answer_listed;
  reencoding = reencode_listed;
  sizing = sizes_listed;
  reading_back = read_back_listed;
  walking_back = walk_back_listed;
  carrying_forward = carry_forward_listed;
  zeroed = λ nought n written before. refl;
}
