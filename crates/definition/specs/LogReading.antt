-- "Log and new formula" and "Who can be turned back", 31 and 34: reading the kept lines of a log.
use Rattle.std.specs.Prelude.{Bool, not, ◌&&◌, cond, List, [], ◌∷◌, ◌++◌, ℕ, ◌+◌, eqb, leb, ltb, ℤ, nat_abs, length, take}
use Rattle.std.proofs.Math.Option.{Option, some, none}
use Rattle.definition.specs.Lists.{sum_of}
use Rattle.definition.specs.Checked.{Checked, fault, value, ◌>>=◌, refuse_if, through}
use Rattle.definition.specs.Literals.{Clause, repeated, opposed, highest}
use Rattle.definition.specs.Text.{Bytes, TextLine, bytes, text_lines, same_bytes, fields, number}
use Rattle.definition.specs.Standing.{Line, addition, deletion, literals}

-- a literal, and the clause that follows it
unfoldable pub with_literal : Option ℤ → Option Clause → Option Clause
with_literal none c = none
with_literal (some l) none = none
with_literal (some l) (some c) = cond (eqb 0 (nat_abs l)) none (some (l ∷ c))

-- the literals and `0`
unfoldable pub read_line_clause : List Bytes → Option Clause
read_line_clause [] = none
read_line_clause (w ∷ []) = cond (same_bytes w (bytes "0")) (some []) none
read_line_clause (w ∷ x ∷ ws) = with_literal (number w) (read_line_clause (x ∷ ws))

-- no literal repeated or opposed, no variable above 70,000
unfoldable pub line_clause_allowed : Clause → Bool
line_clause_allowed c = not (repeated c) && not (opposed c) && leb (highest c) 70_000

unfoldable pub allowed_clause : Option Clause → Checked Clause
allowed_clause none = fault 31
allowed_clause (some c) = refuse_if (not (line_clause_allowed c)) 31 (value c)

-- a deletion has `d` before; single blanks
unfoldable pub read_line_fields : List Bytes → Checked Line
read_line_fields [] = fault 31
read_line_fields (w ∷ ws) =
    cond (same_bytes w (bytes "d"))
    (allowed_clause (read_line_clause ws) >>= λ c. value (deletion c))
    (allowed_clause (read_line_clause (w ∷ ws)) >>= λ c. value (addition c))

-- a kept line, its LF included
unfoldable pub read_line : List Line → TextLine → Checked (List Line)
read_line ss l = refuse_if (not l.ended) 31 (read_line_fields (fields l.text) >>= λ s. value (ss ++ (s ∷ [])))

-- the first lines, as many as are kept; 34 where there are fewer
unfoldable pub read_log : ℕ → Bytes → Checked (List Line)
read_log kept t =
    through read_line [] (take kept (text_lines t)) >>= λ ss.
    refuse_if (ltb (length ss) kept) 34 (value ss)

-- G, the numbers in the lines, zeros counted
unfoldable pub numbers_in : List Line → ℕ
numbers_in ss = sum_of (λ s. length (literals s) + 1) ss

-- all of this file, for a proof that computes: `unfolding computing` opens every name of the next line
unfoldable pub computing : Unit {0}
unfolding with_literal read_line_clause line_clause_allowed allowed_clause read_line_fields read_line read_log numbers_in
computing = tt
