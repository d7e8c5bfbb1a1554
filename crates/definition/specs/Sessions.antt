-- "Sessions": the starred ones, and some more that tell wrong definitions apart, rows of one list checked by one theorem.
use Rattle.std.specs.Prelude.{Bool, true, false, ◌&&◌, List, [], ◌∷◌, ◌++◌, map, ℕ, length, pos, T, eqb}
use Prim.Native.String.{String}
use Rattle.definition.specs.Lists
use Rattle.definition.specs.Lists.{all, for_each, for_from}
use Rattle.definition.specs.Checked
use Rattle.definition.specs.Checked.{Checked, fault, value, ◌>>=◌}
use Rattle.definition.specs.Literals
use Rattle.definition.specs.Literals.{Clause}
use Rattle.definition.specs.Text
use Rattle.definition.specs.Text.{Bytes, bytes, same_bytes}
use Rattle.definition.specs.Reading
use Rattle.definition.specs.Reading.{Input, input_limits, read_formula}
use Rattle.definition.specs.Standing
use Rattle.definition.specs.Assignments
use Rattle.definition.specs.Events.{TableRecord}
use Rattle.definition.specs.Clearing
use Rattle.definition.specs.Counter
use Rattle.definition.specs.Counter.{choices}
use Rattle.definition.specs.Order
use Rattle.definition.specs.Alignment
use Rattle.definition.specs.Alignment.{as_listed, arranged, alignment}
use Rattle.definition.specs.Reencoding
use Rattle.definition.specs.Reencoding.{Settings, cleared}
use Rattle.definition.specs.Log
use Rattle.definition.specs.Log.{clause_text, formula_text}
use Rattle.definition.specs.LogReading
use Rattle.definition.specs.Answer
use Rattle.definition.specs.Calls
use Rattle.definition.specs.Calls.{Tally, Reencoded, limited, fitted, reencode, sizes, read_back, walk_back, carry_forward}

unfoldable pub counter : Settings
counter = record { form = Reencoding.counter_form; arrangement = as_listed; step = 1 }

unfoldable pub order : Settings
order = record { form = Reencoding.order_form; arrangement = as_listed; step = 1 }

-- counter form with a step
unfoldable pub stepped : ℕ → Settings
stepped g = record { form = Reencoding.counter_form; arrangement = as_listed; step = g }

-- a row: a call and what it must give
pub data Session : Type 0 where
  -- the log and the new formula
  texts : Settings → String → String → String → Session
  -- H, M and the number of log lines
  counts : Settings → String → ℕ → ℕ → ℕ → Session
  -- the new formula
  formula : Settings → String → String → Session
  -- the reencoding, answered so, with that many lines kept, is walked back to this line
  walks : Settings → String → String → ℕ → String → Session
  -- the new formula, read back and written again, is the same text
  reads_back : Settings → String → Session
  -- the choices of a formula as it stands, aligned
  aligns : String → String → Session
  -- the clause 1..n alone: 1 if it is left when the formula is cleared, and a choice, 0 if it is deleted
  alone : ℕ → ℕ → Session
  -- such a clause, reencoded: H, M and the number of log lines
  alone_counts : Settings → ℕ → ℕ → ℕ → ℕ → Session
  -- the clauses kept of a text that may have so many literals
  reads : ℕ → String → String → Session
  -- the number that such a text is refused with
  not_read : ℕ → String → ℕ → Session
  -- the number that a text is refused with
  refused : String → ℕ → Session
  -- the number that reencoding is refused with, given so many entries of workspace, bytes of the two buffers and records of the table
  short : Settings → String → ℕ → ℕ → ℕ → ℕ → ℕ → Session
  -- the table: first new variable, length and input clauses of each choice
  tabled : Settings → String → List (ℕ × ℕ × ℕ) → Session
  -- M-126: choices, H, M, log lines and both byte lengths, told beforehand in so many entries of workspace
  sized : Settings → String → ℕ → (ℕ × ℕ × ℕ × ℕ × ℕ × ℕ) → Session
  -- the number that sizes are refused with there
  not_sized : Settings → String → ℕ → ℕ → Session
  -- the number that a result with such an H and so many choices is refused with, given a table of so many records and no buffers; both texts are one byte long
  unfit : ℕ → ℕ → ℕ → ℕ → Session
  -- the number that the walk-back of a formula, a log, a number of kept lines and an answer is refused with
  not_walked : String → String → ℕ → String → ℕ → Session
  -- over the reencoding's log, with that many lines kept, a plan is carried forward to this line
  forwards : Settings → String → String → ℕ → String → Session
  -- that line walked back over the same lines
  there_and_back : Settings → String → String → ℕ → String → Session
  -- over the kept lines of a log, a plan for a formula is carried forward to this line
  carries : String → String → ℕ → String → String → Session
  -- the number that it is refused with, given so many entries of workspace and bytes of the buffer
  not_carried : ℕ → ℕ → String → String → ℕ → String → ℕ → Session

unfoldable pub run : Settings → String → Checked Reencoded
run s t = reencode s 100_000 100_000 100_000 1_000 (bytes t)

unfoldable pub read_within : ℕ → String → Checked Input
read_within n t = read_formula (record { variables = 9; clauses = 9; literals = n }) (bytes t)

unfoldable pub forth : String → Bytes → ℕ → String → Checked Bytes
forth t log kept plan = carry_forward 100_000 1_000 kept (bytes t) log (bytes plan)

-- a value that passes the test
unfoldable pub good : {A : Type 0} → Checked A → (A → Bool) → Bool
good (fault n) test = false
good (value a) test = test a

unfoldable pub is_fault : {A : Type 0} → Checked A → ℕ → Bool
is_fault (fault m) n = eqb m n
is_fault (value a) n = false

unfoldable pub tallied : ℕ → ℕ → ℕ → Reencoded → Bool
tallied h m l r = eqb r.tally.highest h && eqb r.tally.clauses m && eqb r.tally.lines l

-- the clause 1..n
unfoldable pub one_to : ℕ → Clause
one_to n = for_from 1 n (λ v. pos v ∷ [])

unfoldable pub same_rows : List TableRecord → List (ℕ × ℕ × ℕ) → Bool
same_rows [] [] = true
same_rows [] (x ∷ xs) = false
same_rows (r ∷ rs) [] = false
same_rows (r ∷ rs) (x ∷ xs) = eqb r.first x.0 && eqb r.length x.1 && eqb r.clauses x.2 && same_rows rs xs

unfoldable pub same_sizes : ℕ × ℕ × ℕ × ℕ × ℕ × ℕ → Tally → Bool
same_sizes x r = eqb r.choices x.0 && eqb r.highest x.1 && eqb r.clauses x.2 && eqb r.lines x.3 && eqb r.log_bytes x.4 && eqb r.formula_bytes x.5

unfoldable pub result_with : ℕ → ℕ → Reencoded
result_with h n =
    record {
      tally = record { choices = n; highest = h; clauses = 0; lines = 0; log_bytes = 1; formula_bytes = 1 };
      log = bytes "0";
      formula = bytes "0";
      table = [];
    }

unfoldable pub passes : Session → Bool
passes (texts s t log out) =
    good (run s t) (λ r. same_bytes r.log (bytes log) && same_bytes r.formula (bytes out))
passes (counts s t h m l) = good (run s t) (tallied h m l)
passes (formula s t out) = good (run s t) (λ r. same_bytes r.formula (bytes out))
passes (walks s t answer kept line) =
    good (run s t) (λ r.
    good (walk_back 100_000 1_000 kept (bytes t) r.log (bytes answer)) (λ u. same_bytes u (bytes line)))
passes (reads_back s t) =
    good (run s t) (λ r.
    good (read_back 100_000 r.formula) (λ i. same_bytes (formula_text i.variables i.formula) r.formula))
passes (aligns t out) =
    good (read_formula input_limits (bytes t)) (λ i.
    let cs = choices i.formula in
    same_bytes (for_each (map (arranged alignment i.formula cs) cs) clause_text) (bytes out))
passes (alone n m) =
    let left = cleared (one_to n ∷ []) in
    eqb (length left) m && eqb (length (choices left)) m
passes (alone_counts s n h m l) =
    good (reencode s 100_000 100_000 100_000 1_000 (formula_text n (one_to n ∷ []))) (tallied h m l)
passes (reads n t out) = good (read_within n t) (λ i. same_bytes (for_each i.formula clause_text) (bytes out))
passes (not_read n t m) = is_fault (read_within n t) m
passes (refused t n) = is_fault (run counter t) n
passes (short s t workspace log_room formula_room table_room n) =
    is_fault (reencode s workspace log_room formula_room table_room (bytes t)) n
passes (tabled s t rows) = good (run s t) (λ r. same_rows r.table rows)
passes (sized s t workspace x) = good (sizes s workspace (bytes t)) (same_sizes x)
passes (not_sized s t workspace n) = is_fault (sizes s workspace (bytes t)) n
passes (unfit h n table_room m) = is_fault (limited (result_with h n) >>= fitted table_room 0 0) m
passes (not_walked t log kept answer n) = is_fault (walk_back 100_000 1_000 kept (bytes t) (bytes log) (bytes answer)) n
passes (forwards s t plan kept line) =
    good (run s t) (λ r. good (forth t r.log kept plan) (λ u. same_bytes u (bytes line)))
passes (there_and_back s t plan kept line) =
    good (run s t) (λ r.
    good (forth t r.log kept plan) (λ u.
    good (walk_back 100_000 1_000 kept (bytes t) r.log (bytes "s SATISFIABLE\n" ++ u)) (λ w. same_bytes w (bytes line))))
passes (carries t log kept plan line) = good (forth t (bytes log) kept plan) (λ u. same_bytes u (bytes line))
passes (not_carried workspace room t log kept plan n) =
    is_fault (carry_forward workspace room kept (bytes t) (bytes log) (bytes plan)) n

e_text : String
e_text = "p cnf 3 2\n1 2 0\n-1 3 0\n"

f_text : String
f_text = "p cnf 6 7\n1 2 3 4 5 0\n-1 -2 0\n-1 6 0\n-2 6 0\n-3 6 0\n-4 -6 0\n-5 -6 0\n"

free_text : String
free_text = "p cnf 6 1\n1 2 3 4 5 6 0\n"

g_formula : String
g_formula = "p cnf 10 8\n8 -7 0\n9 -8 0\n10 -9 0\n-7 6 0\n7 -8 6 0\n8 -9 6 0\n9 -10 -6 0\n10 -6 0\n"

resolved_text : String
resolved_text = "p cnf 8 3\n1 2 3 0\n-3 4 5 0\n-5 6 7 8 0\n"

two_text : String
two_text = "p cnf 11 3\n1 2 3 4 5 0\n6 7 8 0\n-6 9 10 11 0\n"

pair_text : String
pair_text = "p cnf 2 1\n1 2 0\n"

pub sessions : List Session
unfolding counter order stepped resolved_text two_text pair_text e_text f_text free_text g_formula
sessions =
    -- A to E
    texts counter "p cnf 0 0\n" "" "p cnf 0 0\n"
    ∷ texts counter "p cnf 0 1\n0\n" "" "p cnf 0 1\n0\n"
    ∷ texts counter "p cnf 1 2\n1 0\n-1 0\n" "0\nd 1 0\nd -1 0\n" "p cnf 1 1\n0\n"
    ∷ texts counter "p cnf 2 2\n1 2 0\n-1 -2 0\n" "d 1 2 0\nd -1 -2 0\n" "p cnf 2 0\n"
    ∷ texts counter e_text "2 3 0\nd 1 2 0\nd -1 3 0\nd 2 3 0\n" "p cnf 3 0\n"
    ∷ walks counter e_text "s SATISFIABLE\nv 0\n" 4 "v -1 2 -3 0\n"
    -- F, G, H
    ∷ counts counter f_text 10 21 18
    ∷ counts order f_text 10 8 41
    ∷ formula order f_text g_formula
    ∷ walks order f_text "s SATISFIABLE\nv 1 2 3 4 5 -6 -7 -8 -9 10 0\n" 41 "v -1 -2 -3 4 -5 -6 0\n"
    ∷ walks order f_text "s SATISFIABLE\nv 10 0\n" 41 "v -1 -2 -3 4 -5 -6 0\n"
    ∷ reads_back counter f_text
    ∷ reads_back order f_text
    -- the clashing variable stands last: it is written first in its deletion, and the way back makes it true
    ∷ texts counter "p cnf 3 4\n2 1 0\n3 -1 0\n-2 -3 0\n-2 -3 0\n" "2 3 0\nd 1 2 0\nd -1 3 0\n" "p cnf 3 3\n-2 -3 0\n-2 -3 0\n2 3 0\n"
    ∷ walks counter "p cnf 3 4\n2 1 0\n3 -1 0\n-2 -3 0\n-2 -3 0\n" "s SATISFIABLE\nv 3 0\n" 3 "v 1 -2 3 0\n"
    -- clashes at 1 and 2: a variable that a later line turns
    ∷ walks counter "p cnf 4 5\n1 2 0\n-1 3 0\n-2 4 0\n-3 -4 0\n-3 -4 0\n" "s SATISFIABLE\nv 2 3 0\n" 6 "v 1 -2 3 -4 0\n"
    -- copies of pairs, some in both orders: each that stands is deleted, by i then j; nothing is written for a pair that is missing
    ∷ texts counter "p cnf 5 9\n1 2 3 4 5 0\n-1 -2 0\n-1 -3 0\n-2 -1 0\n-3 -1 0\n-4 0\n-4 0\n-5 0\n-5 0\n" "-6 1 0\n6 -1 0\n-7 6 2 0\n7 -6 0\n7 -2 0\n-8 7 3 0\n8 -7 0\n8 -3 0\n-9 8 4 0\n9 -8 0\n9 -4 0\n-2 -6 0\n-3 -7 0\n-4 -8 0\n-5 -9 0\n9 5 0\nd 1 2 3 4 5 0\nd -1 -2 0\nd -1 -2 0\nd -1 -3 0\nd -1 -3 0\n" "p cnf 9 20\n-4 0\n-4 0\n-5 0\n-5 0\n-6 1 0\n6 -1 0\n-7 6 2 0\n7 -6 0\n7 -2 0\n-8 7 3 0\n8 -7 0\n8 -3 0\n-9 8 4 0\n9 -8 0\n9 -4 0\n-2 -6 0\n-3 -7 0\n-4 -8 0\n-5 -9 0\n9 5 0\n"
    ∷ texts counter "p cnf 5 4\n1 2 3 4 5 0\n-3 -2 0\n-2 -1 0\n-1 -3 0\n" "-6 1 0\n6 -1 0\n-7 6 2 0\n7 -6 0\n7 -2 0\n-8 7 3 0\n8 -7 0\n8 -3 0\n-9 8 4 0\n9 -8 0\n9 -4 0\n-2 -6 0\n-3 -7 0\n-4 -8 0\n-5 -9 0\n9 5 0\nd 1 2 3 4 5 0\nd -1 -2 0\nd -1 -3 0\nd -2 -3 0\n" "p cnf 9 16\n-6 1 0\n6 -1 0\n-7 6 2 0\n7 -6 0\n7 -2 0\n-8 7 3 0\n8 -7 0\n8 -3 0\n-9 8 4 0\n9 -8 0\n9 -4 0\n-2 -6 0\n-3 -7 0\n-4 -8 0\n-5 -9 0\n9 5 0\n"
    -- four literals are no choice
    ∷ counts counter "p cnf 5 4\n1 2 3 4 0\n-1 -2 -5 0\n-3 -4 -5 0\n5 0\n" 5 4 0
    -- alignment: 1..5 and 6..10, linked 1-8 and 2-6
    ∷ aligns "p cnf 11 4\n1 2 3 4 5 0\n6 7 8 9 10 0\n-1 -8 0\n-6 -2 0\n" "1 2 3 4 5 0\n8 6 7 9 10 0\n"
    -- 1-8-2: not alignable
    ∷ aligns "p cnf 11 4\n1 2 3 4 5 0\n6 7 8 9 10 0\n-1 -8 0\n-8 -2 0\n" "1 2 3 4 5 0\n6 7 8 9 10 0\n"
    -- nothing forbids any of six literals: they are a choice all the same; of two that are true, or of none, comes one
    ∷ counts counter free_text 11 20 21
    ∷ counts order free_text 11 4 37
    ∷ walks order free_text "s SATISFIABLE\nv 1 2 -3 -4 -5 -6 -7 -8 9 10 11 0\n" 37 "v -1 -2 3 -4 -5 -6 0\n"
    ∷ walks order free_text "s SATISFIABLE\nv 0\n" 37 "v -1 -2 -3 -4 -5 6 0\n"
    -- so it is with 5 to 64 literals, also those of a resolvent; with 4 or 65 the clause is deleted
    ∷ counts counter "p cnf 6 2\n1 2 3 0\n-1 4 5 6 0\n" 10 16 20
    ∷ texts counter "p cnf 4 1\n1 2 3 4 0\n" "d 1 2 3 4 0\n" "p cnf 4 0\n"
    ∷ alone 4 0
    ∷ alone 5 1
    ∷ alone 64 1
    ∷ alone 65 0
    ∷ alone_counts counter 64 127 252 253
    ∷ alone_counts order 64 127 62 443
    -- a repeated literal stays at its first place only; a clause with a literal and its negation is left out, but counts towards C
    ∷ reads 1 "p cnf 1 1\n1 1 0\n" "1 0\n"
    ∷ reads 0 "p cnf 1 1\n1 -1 0\n" ""
    ∷ reads 3 "p cnf 3 3\n2 1 2 -3 1 0\n1 -1 1 0\n0\n" "2 1 -3 0\n0\n"
    ∷ not_read 2 "p cnf 3 3\n2 1 2 -3 1 0\n1 -1 1 0\n0\n" 9
    ∷ not_read 0 "p cnf 1 2\n1 -1 0 1 0\n" 9
    ∷ not_read 0 "p cnf 1 1\n1 1" 7
    ∷ refused "p cnf 1 1\n1 -1 x 0\n" 3
    ∷ refused "p cnf 1 1\n1 -1 2 0\n" 4
    ∷ refused "p cnf 1 1\n1 -1 1" 7
    ∷ refused "p cnf 1 1\n1 -1 0 1 0\n" 8
    ∷ refused "p cnf 1 2\n1 -1 0\n" 8
    ∷ short counter "p cnf 1 1\n1 -1 0\n" 8_207 0 0 0 11
    ∷ short counter "p cnf 1 1\n1 -1 0\n" 8_208 0 0 0 13
    ∷ walks counter "p cnf 3 3\n1 2 1 0\n2 -2 0\n-1 3 -1 0\n" "s SATISFIABLE\nv 0\n" 4 "v -1 2 -3 0\n"
    -- refusals
    ∷ refused "p cnf 1 1\n2 0\n" 4
    ∷ refused "p cnf 1 1\n-0\n" 3
    ∷ refused "p cnf 1 1\n1" 7
    ∷ refused "p cnf 1 1\n1 0 1 0\n" 8
    ∷ refused "p cnf 8001 0\n" 2
    ∷ refused "p cnf 0 0 \n" 1
    -- E has V 3, C 2 and L 4; its log has 31 bytes, its new formula 10
    ∷ short counter e_text 8_395 0 0 0 11
    ∷ short counter e_text 8_396 30 9 0 12
    ∷ short counter e_text 8_396 31 9 0 13
    -- M-118: three input clauses resolved into one choice
    ∷ tabled counter resolved_text ((9, 6, 3) ∷ [])
    ∷ tabled order resolved_text ((9, 6, 3) ∷ [])
    ∷ tabled counter e_text []
    -- steps: the least number above all used that is 1 more than a multiple
    ∷ tabled (stepped 1) two_text ((12, 5, 1) ∷ (16, 5, 2) ∷ [])
    ∷ tabled (stepped 3) two_text ((13, 5, 1) ∷ (19, 5, 2) ∷ [])
    ∷ tabled (stepped 5) two_text ((16, 5, 1) ∷ (21, 5, 2) ∷ [])
    ∷ tabled (stepped 100) two_text ((101, 5, 1) ∷ (201, 5, 2) ∷ [])
    ∷ counts (stepped 3) free_text 11 20 21
    ∷ texts (stepped 4) "p cnf 5 1\n1 2 3 4 5 0\n" "-9 1 0\n9 -1 0\n-10 9 2 0\n10 -9 0\n10 -2 0\n-11 10 3 0\n11 -10 0\n11 -3 0\n-12 11 4 0\n12 -11 0\n12 -4 0\n-2 -9 0\n-3 -10 0\n-4 -11 0\n-5 -12 0\n12 5 0\nd 1 2 3 4 5 0\n" "p cnf 12 16\n-9 1 0\n9 -1 0\n-10 9 2 0\n10 -9 0\n10 -2 0\n-11 10 3 0\n11 -10 0\n11 -3 0\n-12 11 4 0\n12 -11 0\n12 -4 0\n-2 -9 0\n-3 -10 0\n-4 -11 0\n-5 -12 0\n12 5 0\n"
    -- 15 before all others; 17 directly after 16, both before 12; two-text has V 11, C 3 and L 12
    ∷ short (stepped 0) "" 0 0 0 0 15
    ∷ short (stepped 101) "" 0 0 0 0 15
    ∷ short (stepped 100) "" 0 0 0 0 1
    ∷ short counter two_text 8_815 0 0 0 11
    ∷ short counter two_text 8_816 0 0 1 17
    ∷ short counter two_text 8_816 0 0 2 12
    ∷ unfit 70_001 2 1 16
    ∷ unfit 70_000 2 1 17
    ∷ unfit 70_000 2 2 12
    -- M-126: sizes, with no table and no buffers; H is that of the run, also where no variable is written; the numbers in their order
    ∷ sized counter "p cnf 0 0\n" 8_192 (0, 0, 0, 0, 0, 10)
    ∷ sized counter "p cnf 9 1\n1 -2 0\n" 8_384 (0, 9, 0, 1, 9, 10)
    ∷ sized counter e_text 8_396 (0, 3, 0, 4, 31, 10)
    ∷ sized counter free_text 8_508 (1, 11, 20, 21, 179, 175)
    ∷ sized counter two_text 8_816 (2, 19, 32, 37, 360, 303)
    ∷ sized (stepped 100) two_text 8_816 (2, 204, 32, 37, 404, 348)
    ∷ sized order f_text 8_972 (1, 10, 8, 41, 371, 77)
    ∷ not_sized (stepped 0) "" 0 15
    ∷ not_sized (stepped 101) "" 0 15
    ∷ not_sized (stepped 100) "" 0 1
    ∷ not_sized counter "p cnf 1 1\n1" 0 7
    ∷ not_sized counter two_text 8_815 11
    -- the log's writer, then the solver
    ∷ not_walked "p cnf 2 1\n1 2 0\n" "d 1 2 0" 1 "" 31
    ∷ not_walked "p cnf 2 1\n1 2 0\n" "1 1 0\n" 1 "" 31
    ∷ not_walked "p cnf 2 1\n1 2 0\n" "70001 0\n" 1 "" 31
    ∷ not_walked "p cnf 2 1\n1 2 0\n" "d 1 2 0\n" 2 "" 34
    ∷ not_walked "p cnf 2 1\n1 2 0\n" "d 1 0\n" 1 "s SATISFIABLE\nv 1 0\n" 32
    ∷ not_walked "p cnf 1 2\n1 0\n-1 0\n" "d 1 0\n" 1 "s SATISFIABLE\nv 0\n" 33
    ∷ not_walked "p cnf 2 1\n1 2 0\n" "" 0 "s SATISFIABLE\nv 1\n" 41
    ∷ not_walked "p cnf 2 1\n1 2 0\n" "" 0 "s SATISFIABLE\nv 1 0\nv \n" 41
    ∷ not_walked "p cnf 2 1\n1 2 0\n" "3 0\n" 1 "s SATISFIABLE\nv 4 0\n" 42
    ∷ not_walked "p cnf 2 1\n1 2 0\n" "" 0 "s SATISFIABLE\nv 1 -1 0\n" 43
    ∷ not_walked "p cnf 2 1\n1 2 0\n" "" 0 "s SATISFIABLE\nv -1 -2 0\n" 44
    -- M-121: a line for 1..X, at several cuts; new variables start false, and 10 is made true by `10 -4`
    ∷ forwards counter e_text "s SATISFIABLE\nv 1 3 0\n" 4 "v 1 -2 3 0\n"
    ∷ forwards counter f_text "s SATISFIABLE\nv 4 0\n" 0 "v -1 -2 -3 4 -5 -6 0\n"
    ∷ forwards counter f_text "s SATISFIABLE\nv 4 0\n" 1 "v -1 -2 -3 4 -5 -6 -7 0\n"
    ∷ forwards counter f_text "s SATISFIABLE\nv 4 0\n" 10 "v -1 -2 -3 4 -5 -6 -7 -8 -9 -10 0\n"
    ∷ forwards counter f_text "s SATISFIABLE\nv 4 0\n" 18 "v -1 -2 -3 4 -5 -6 -7 -8 -9 10 0\n"
    ∷ forwards order f_text "s SATISFIABLE\nv 4 0\n" 41 "v -1 -2 -3 4 -5 -6 -7 -8 -9 10 0\n"
    -- of six true literals the first is left; the plan that comes back is another one
    ∷ forwards counter free_text "s SATISFIABLE\nv 1 2 3 4 5 6 0\n" 21 "v 1 -2 -3 -4 -5 -6 7 8 9 10 11 0\n"
    ∷ there_and_back counter free_text "s SATISFIABLE\nv 1 2 3 4 5 6 0\n" 21 "v 1 -2 -3 -4 -5 -6 0\n"
    ∷ there_and_back order f_text "s SATISFIABLE\nv 4 0\n" 41 "v -1 -2 -3 4 -5 -6 0\n"
    -- a deletion is not repaired, a line without literals changes nothing
    ∷ carries pair_text "-1 2 0\nd 1 2 0\n" 2 "s SATISFIABLE\nv 1 0\n" "v -1 -2 0\n"
    ∷ carries pair_text "0\nd 0\n" 2 "s SATISFIABLE\nv 1 0\n" "v 1 -2 0\n"
    -- its numbers in their order; pair-text with the line `3 0` asks for 96 entries and 11 bytes
    ∷ not_carried 0 0 "p cnf 1 1\n2 0\n" "" 0 "" 4
    ∷ not_carried 0 0 pair_text "3 3 0\n" 1 "" 31
    ∷ not_carried 0 0 pair_text "3 0\n" 2 "" 34
    ∷ not_carried 0 0 pair_text "3 0\n" 1 "" 41
    ∷ not_carried 0 0 pair_text "3 0\n" 1 "s SATISFIABLE\nv 3 0\n" 42
    ∷ not_carried 0 0 pair_text "3 0\n" 1 "s SATISFIABLE\nv 2 2 0\n" 43
    ∷ not_carried 95 0 pair_text "3 0\n" 1 "s SATISFIABLE\nv 0\n" 11
    ∷ not_carried 96 0 pair_text "3 0\n" 1 "s SATISFIABLE\nv 0\n" 45
    ∷ not_carried 999 0 pair_text "d 1 0\n" 1 "s SATISFIABLE\nv 0\n" 45
    ∷ not_carried 999 0 pair_text "-1 0\nd 1 0\n" 2 "s SATISFIABLE\nv 1 0\n" 32
    ∷ not_carried 999 0 pair_text "-1 0\n" 1 "s SATISFIABLE\nv 1 0\n" 46
    ∷ not_carried 999 99 pair_text "0\n" 1 "s SATISFIABLE\nv 1 0\n" 46
    ∷ not_carried 96 10 pair_text "3 0\n" 1 "s SATISFIABLE\nv 1 0\n" 14
    ∷ carries pair_text "3 0\n" 1 "s SATISFIABLE\nv 1 0\n" "v 1 -2 3 0\n"
    ∷ []

pub sessions_hold : T (all passes sessions)
unfolding sessions passes same_rows same_sizes result_with tallied one_to run read_within forth good is_fault Lists.computing Checked.computing Literals.computing Text.computing Reading.computing Standing.computing Assignments.computing Clearing.computing Counter.computing Order.computing Alignment.computing Reencoding.computing Log.computing LogReading.computing Answer.computing Calls.computing
sessions_hold = tt
