-- DEMAND 1. A formula, log or solver's answer, of whatever bytes, is accepted or refused under one of the listed numbers ("Who can be turned back").
use Rattle.std.specs.Prelude.{◌≡◌, ℕ, length, replicate}
use mathlib.Core.List.{List, [], ◌∷◌, ◌++◌, Memᴰ}
use Rattle.definition.specs.Checked.{Checked, fault, value}
use Rattle.definition.specs.Reading.{Limits, read_formula}
use Rattle.definition.specs.Text.{Bytes}
use Rattle.definition.specs.LogReading.{read_log}
use Rattle.definition.specs.Answer.{read_answer}
use Rattle.definition.specs.Reencoding.{Settings}
use Rattle.definition.specs.Calls.{reencode, sizes, read_back, walk_back, carry_forward, buffer_after}

-- ---- the listed numbers

-- "Formula's writer: 1 no header line as above; 2 V or C too large; 3 not a number; 4 variable above V; .. 7 text ends inside a clause;
-- 8 a word after C clauses (tested before 3), or fewer at the end; 9 L above 60,000." M-100: "Numbers 5 and 6 are withdrawn".
unfoldable pub formula_numbers : List ℕ
formula_numbers = 1 ∷ 2 ∷ 3 ∷ 4 ∷ 7 ∷ 8 ∷ 9 ∷ []

-- "Log's writer: 31 a kept line not in the layout above (its LF included), with a literal repeated or opposed, or a variable above 70,000; .. 34 fewer lines than kept."
-- 32 and 33 are found with the formula.
unfoldable pub log_numbers : List ℕ
log_numbers = 31 ∷ 34 ∷ []

-- "Solver: 41 not the answer layout; 42 variable above X; 43 variable twice". 44 is found with the standing clauses.
unfoldable pub answer_numbers : List ℕ
answer_numbers = 41 ∷ 42 ∷ 43 ∷ []

-- sizes before the run: M-118's 15, "tested first of all"; 1 to 4, 7 to 9, 11, M-118's 16. M-126: "the refusals are the run's, save 12, 13 and 17"
unfoldable pub sizes_numbers : List ℕ
sizes_numbers = 15 ∷ formula_numbers ++ (11 ∷ 16 ∷ [])

-- reencoding: those, then M-118's 17, 12, 13
unfoldable pub reencode_numbers : List ℕ
reencode_numbers = sizes_numbers ++ (17 ∷ 12 ∷ 13 ∷ [])

-- the new formula read back: 1 to 4, 7 to 9, with 2 and 9 at the read-back limits, and 11
unfoldable pub read_back_numbers : List ℕ
read_back_numbers = formula_numbers ++ (11 ∷ [])

-- walk-back: 1 to 4, 7 to 9, "then 31 or 34, 41 to 43, 11, 32, 44, 33, 14"
unfoldable pub walk_back_numbers : List ℕ
walk_back_numbers = formula_numbers ++ log_numbers ++ answer_numbers ++ (11 ∷ 32 ∷ 44 ∷ 33 ∷ 14 ∷ [])

-- carrying forward: 1 to 4, 7 to 9, 31 or 34, 41 to 43, 11; M-121: "45 the plan fails the formula, directly after 11; 46 a standing clause fails in the end, .. before 14"
unfoldable pub carry_forward_numbers : List ℕ
carry_forward_numbers = formula_numbers ++ log_numbers ++ answer_numbers ++ (11 ∷ 45 ∷ 32 ∷ 46 ∷ 14 ∷ [])

-- ---- the demand

-- an outcome is a value, or a fault with one of the numbers
pub data Listed (ns : List ℕ) {A : Type 0} : Checked A → Type 0 where
  accepted : {a : A} → Listed ns (value a)
  refused : {n : ℕ} → Memᴰ n ns → Listed ns (fault n)

-- the theorem, proved as `demand_1` in proofs/Refusals: there is nothing to assume
pub record Demand1 : Type 1 where
  -- each text by itself, whatever its bytes
  pub formula : (most : Limits) (t : Bytes) → Listed formula_numbers (read_formula most t)
  pub log : (kept : ℕ) (t : Bytes) → Listed log_numbers (read_log kept t)
  pub answer : (x : ℕ) (t : Bytes) → Listed answer_numbers (read_answer x t)
  -- each call, whatever the sizes of the workspace and the buffers
  pub reencoding : (s : Settings) (workspace log_room formula_room table_room : ℕ) (t : Bytes) → Listed reencode_numbers (reencode s workspace log_room formula_room table_room t)
  pub sizing : (s : Settings) (workspace : ℕ) (t : Bytes) → Listed sizes_numbers (sizes s workspace t)
  pub reading_back : (workspace : ℕ) (t : Bytes) → Listed read_back_numbers (read_back workspace t)
  pub walking_back : (workspace room kept : ℕ) (t log answer : Bytes) → Listed walk_back_numbers (walk_back workspace room kept t log answer)
  pub carrying_forward : (workspace room kept : ℕ) (t log plan : Bytes) → Listed carry_forward_numbers (carry_forward workspace room kept t log plan)
  -- after a refusal "output buffers become all zero"
  pub zeroed : {A E : Type 0} (nought : E) (n : ℕ) (written : A → List E) (before : List E) → buffer_after nought (fault n) written before ≡ replicate (length before) nought
