-- The text of log lines, read, is those lines.
use mathlib.Core.Path.{◌≡◌, refl, sym, ◌∙◌}
use mathlib.Core.Bool.{true, false}
use mathlib.Core.List.Memᴰ.{head as here}
use mathlib.Core.List.Memᴰ.{tail as there}
use mathlib.Core.List.{List, [], ◌∷◌, ◌++◌, append-nil, append_assoc, Memᴰ}
use mathlib.Core.Option.{some}
use Prim.Native.Nat.{ℕ, zero, suc, ◌≤◌}
use native.Mathlib.Omega.{arith}
use lib.IntN.{nat_abs}
use lib.ListN.{length, take}
use lib.Seq.{append_snoc, length-take-le}
use borrow.Author.Tests.{le-ltb, ne_eqb}
use Rattle.definition.specs.Lists.{for_each}
use Rattle.definition.specs.Checked.{value, ◌>>=◌, refuse_if, through}
use Rattle.definition.specs.Literals.{Clause, highest}
use Rattle.definition.specs.Text.{Bytes, TextLine, bytes, is, text_lines, same_bytes, fields, number, literal_text}
use Rattle.definition.specs.Standing.{Line, addition, deletion, literals}
use Rattle.definition.specs.Log.{log_line_text, log_text}
use Rattle.definition.specs.LogReading.{with_literal, read_line_clause, allowed_clause, read_line_fields, read_line, read_log}
use Rattle.theory_base.specs.Clauses.{Proper}
use Rattle.theory_base.proofs.Fitting.{LineFits}
use Rattle.theory_base.proofs.Clauses.{natAbs_zero}
use Rattle.theory_text.proofs.Digits.{Between, number_literal, literal_between}
use Rattle.theory_text.proofs.Words.{first_field, first_line}
use Rattle.theory_text.proofs.LineWords.{proper_allowed}
use Rattle.theory_text.specs.Words.{Free}
use Rattle.theory_text.proofs.ClauseText.{newline_outside, literal_words, clause_words, clause_text_line, fields_clause_line, clause_line_free}
use Rattle.theory_text.specs.ClauseText.{clause_line}

-- ---- the clause of a line
more_words : (w : Bytes) (c : Clause) → read_line_clause (w ∷ clause_words c) ≡ with_literal (number w) (read_line_clause (clause_words c))
unfolding read_line_clause clause_words literal_words for_each
more_words w [] = refl
more_words w (l ∷ c) = refl

clause_words_read : (c : Clause) → Proper c → read_line_clause (clause_words c) ≡ some c
unfolding read_line_clause clause_words literal_words for_each with_literal bytes same_bytes
clause_words_read [] p = refl
clause_words_read (l ∷ c) p =
    more_words (literal_text l) c ∙ rw (number_literal l, clause_words_read c p.3, ne_eqb 0 (nat_abs l) (λ e. p.0 (natAbs_zero l (sym e))))

clause_allowed : (c : Clause) → Proper c → highest c ≤ 70_000 → allowed_clause (read_line_clause (clause_words c)) ≡ value c
clause_allowed c p h = rw (clause_words_read c p) (proper_allowed c p h)

-- ---- a line
number_not_d : (t : Bytes) → Between 45 57 t → same_bytes t (bytes "d") ≡ false
unfolding same_bytes bytes
number_not_d [] f = refl
number_not_d (b ∷ t) f = rw (ne_eqb b 100 (λ e. omega (arith, f.1)))

addition_read : (c : Clause) → Proper c → highest c ≤ 70_000 → read_line_fields (clause_words c) ≡ value (addition c)
unfolding read_line_fields ◌>>=◌ clause_words literal_words for_each bytes same_bytes
addition_read [] p h = rw (clause_allowed [] p h)
addition_read (l ∷ c) p h = rw (number_not_d (literal_text l) (literal_between l), clause_allowed (l ∷ c) p h)

deletion_read : (c : Clause) → Proper c → highest c ≤ 70_000 → read_line_fields (bytes "d" ∷ clause_words c) ≡ value (deletion c)
unfolding read_line_fields ◌>>=◌ bytes same_bytes
deletion_read c p h = rw (clause_allowed c p h)

-- a line without its LF, and as a line of a text
unfoldable line_body : Line → Bytes
line_body (addition c) = clause_line c
line_body (deletion c) = bytes "d " ++ clause_line c

unfoldable text_line : Line → TextLine
text_line s = record { text = line_body s; ended = true }

line_body_text : (s : Line) → log_line_text s ≡ line_body s ++ bytes "\n"
unfolding log_line_text line_body
line_body_text (addition c) = clause_text_line c
line_body_text (deletion c) = rw (clause_text_line c) (sym (append_assoc (bytes "d ") (clause_line c) (bytes "\n")))

line_body_free : (s : Line) → Free (is "\n") (line_body s)
unfolding line_body bytes is
line_body_free (addition c) = clause_line_free (is "\n") newline_outside refl c
line_body_free (deletion c) = (refl, (refl, clause_line_free (is "\n") newline_outside refl c))

fields_read : (s : Line) → LineFits 70_000 s → read_line_fields (fields (line_body s)) ≡ value s
unfolding line_body literals bytes is
fields_read (addition c) r = rw (fields_clause_line c) (addition_read c r.0 r.1)
fields_read (deletion c) r = rw (first_field (100 ∷ []) (clause_line c) (refl, tt), fields_clause_line c) (deletion_read c r.0 r.1)

line_read : (ss : List Line) (s : Line) → LineFits 70_000 s → read_line ss (text_line s) ≡ value (ss ++ (s ∷ []))
unfolding read_line text_line refuse_if ◌>>=◌
line_read ss s r = rw (fields_read s r)

-- ---- the log
log_text_lines : (ss : List Line) → text_lines (log_text ss) ≡ for_each ss (λ s. text_line s ∷ [])
unfolding log_text for_each text_line bytes text_lines
log_text_lines [] = refl
log_text_lines (s ∷ ss) =
    rw (line_body_text s, append_snoc (line_body s) 10 (log_text ss), first_line (line_body s) (log_text ss) (line_body_free s))
    (rw (log_text_lines ss))

lines_read : (j : ℕ) (before ss : List Line) → ((s : Line) → Memᴰ s ss → LineFits 70_000 s) → through read_line before (take j (for_each ss (λ s. text_line s ∷ []))) ≡ value (before ++ take j ss)
unfolding through for_each ◌>>=◌
lines_read zero before ss r = rw (append-nil before)
lines_read (suc j) before [] r = rw (append-nil before)
lines_read (suc j) before (s ∷ ss) r =
    rw (line_read before s (r s (here refl)))
    (rw (append_snoc before s (take j ss)) at (lines_read j (before ++ (s ∷ [])) ss (λ x i. r x (there i))))

pub log_read : (ss : List Line) (j : ℕ) → j ≤ length ss → ((s : Line) → Memᴰ s ss → LineFits 70_000 s) → read_log j (log_text ss) ≡ value (take j ss)
unfolding read_log refuse_if ◌>>=◌
log_read ss j h r = rw (log_text_lines ss, lines_read j [] ss r, length-take-le j ss h, le-ltb j j (omega arith))
