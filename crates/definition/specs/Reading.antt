-- "Text and literals" and "Who can be turned back", 1 to 4 and 7 to 9: reading DIMACS CNF.
use Rattle.std.specs.Prelude.{false, not, ◌&&◌, ◌||◌, cond, List, [], ◌∷◌, ◌++◌, ℕ, suc, ◌+◌, eqb, leb, ltb, ℤ, nat_abs, length, get_or, drop}
use Rattle.definition.specs.Checked.{Checked, fault, value, ◌>>=◌, refuse_if, or_fault, through}
use Rattle.definition.specs.Literals.{Clause, Formula, with_literal, opposed, literals_of}
use Rattle.definition.specs.Text.{Bytes, bytes, TextLine, text_lines, line_text, past_comments, same_bytes, words, fields, natural, number}

-- the most that a text may have
pub record Limits : Type 0 where
  pub variables : ℕ
  pub clauses : ℕ
  pub literals : ℕ

-- V is at most 8,000, C at most 20,000, and L, the non-zero literals, at most 60,000
unfoldable pub input_limits : Limits
input_limits = record { variables = 8_000; clauses = 20_000; literals = 60_000 }

-- "Log and new formula": 2 and 9 at the limits H 70,000, M 300,000 and 1,000,000 literals
unfoldable pub read_back_limits : Limits
read_back_limits = record { variables = 70_000; clauses = 300_000; literals = 1_000_000 }

-- the input of a call: V; the highest variable in use, V or the last that a wish joins; C, the header's and the clauses that a wish joins; and
-- the list of clauses kept, followed by those that a wish joins
pub record Input : Type 0 where
  pub variables : ℕ
  pub highest : ℕ
  pub clauses : ℕ
  pub formula : Formula

-- V, C and the clauses as they are read; nothing is joined yet
abbrev pub as_read : ℕ → ℕ → Formula → Input
as_read v c f = record { variables = v; highest = v; clauses = c; formula = f }

-- V, C and the words after the header line
pub record Header : Type 0 where
  pub variables : ℕ
  pub clauses : ℕ
  pub after : List Bytes

-- exactly `p cnf V C`, V and C numbers without `-`, single blanks between
unfoldable pub read_header_fields : Limits → List Bytes → Bytes → Checked Header
read_header_fields most f after =
    refuse_if (not (eqb (length f) 4 && same_bytes (get_or f 0 []) (bytes "p") && same_bytes (get_or f 1 []) (bytes "cnf"))) 1
    (or_fault (natural (get_or f 2 [])) 1 >>= λ v.
    or_fault (natural (get_or f 3 [])) 1 >>= λ c.
    refuse_if (ltb most.variables v || ltb most.clauses c) 2
    (value (record { variables = v; clauses = c; after = words after })))

-- the first line of the text is its header
unfoldable pub read_header_line : Limits → List TextLine → Bytes → Checked Header
read_header_line most [] t = fault 1
read_header_line most (l ∷ ls) t = read_header_fields most (fields (line_text l)) (drop (suc (length l.text)) t)

-- lines beginning `c` may come before the header
unfoldable pub read_header : Limits → Bytes → Checked Header
read_header most t = let u = past_comments false t in read_header_line most (text_lines u) u

-- what is kept of a clause: a clause that holds a literal and its negation is left out
unfoldable pub kept_of : Clause → Formula
kept_of c = cond (opposed c) [] (c ∷ [])

-- between two words: how many clauses are read, what is kept of them, and the literals of the one being read
pub record Reader : Type 0 where
  pub count : ℕ
  pub done : Formula
  pub here : Clause

abbrev pub nothing_read : Reader
nothing_read = record { count = 0; done = []; here = [] }

-- a repeated literal stays at its first place only
unfoldable pub read_literal : ℕ → Reader → ℤ → Checked Reader
read_literal v r l =
    refuse_if (ltb v (nat_abs l)) 4
    (value (record { count = r.count; done = r.done; here = with_literal l r.here }))

-- 0 ends a clause, which counts towards C though it may be left out; 9 is tested here, as L counts what is kept
unfoldable pub end_clause : Limits → Reader → Checked Reader
end_clause most r =
    let done = r.done ++ kept_of r.here in
    refuse_if (ltb most.literals (literals_of done)) 9
    (value (record { count = r.count + 1; done = done; here = [] }))

unfoldable pub read_word : Limits → ℕ → ℕ → Reader → Bytes → Checked Reader
read_word most v c r w =
    refuse_if (leb c r.count) 8
    (or_fault (number w) 3 >>= λ n.
    cond (eqb 0 (nat_abs n)) (end_clause most r) (read_literal v r n))

-- at the text's end: inside a clause, or with fewer than C
unfoldable pub end_text : ℕ → Reader → Checked Formula
end_text c r = refuse_if (ltb 0 (length r.here)) 7 (refuse_if (ltb r.count c) 8 (value r.done))

-- exactly C clauses follow
unfoldable pub read_clauses : Limits → Header → Checked Input
read_clauses most h =
    through (read_word most h.variables h.clauses) nothing_read h.after >>= λ r.
    end_text h.clauses r >>= λ f.
    value (as_read h.variables h.clauses f)

unfoldable pub read_formula : Limits → Bytes → Checked Input
read_formula most t = read_header most t >>= λ h. read_clauses most h

-- all of this file, for a proof that computes: `unfolding computing` opens every name of the next line
unfoldable pub computing : Unit {0}
unfolding input_limits read_back_limits read_header_fields read_header_line read_header kept_of read_literal end_clause read_word end_text read_clauses read_formula
computing = tt
