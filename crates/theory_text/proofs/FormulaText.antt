-- The text of a formula, read, is the formula.
use mathlib.Core.Path.{◌≡◌, refl, sym, ◌∙◌, ap}
use mathlib.Core.Bool.{Bool, false}
use mathlib.Core.List.Memᴰ.{head as here}
use mathlib.Core.List.Memᴰ.{tail as there}
use mathlib.Core.List.{List, [], ◌∷◌, ◌++◌, append_assoc, append-nil, Memᴰ}
use Prim.Native.Nat.{ℕ, ◌+◌, ◌≤◌, ◌<◌}
use Prim.Native.Char.{code}
use native.Mathlib.Omega.{arith}
use lib.IntN.{ℤ, nat_abs}
use lib.ListN.{length, length-append}
use lib.Seq.{append_snoc}
use borrow.Author.Tests.{le-ltb, lt-leb, ne_eqb}
use Rattle.definition.specs.Lists.{any, for_each, sum_of}
use Rattle.definition.specs.Checked.{value, ◌>>=◌, or_fault, refuse_if, through}
use Rattle.definition.specs.Literals.{Clause, Formula, literals_of}
use Rattle.definition.specs.Text.{Bytes, bytes, is, line_text, past_comments, add_part, parts, words_by, words, fields, digits, same_bytes, literal_text, number, natural, not_negated, digit, digit_value}
use Rattle.definition.specs.Log.{clause_text, formula_text}
use Rattle.definition.specs.Reading.{Limits, Reader, as_read, read_header_fields, read_header_line, read_header, read_literal, end_clause, read_word, end_text, read_clauses, read_formula}
use Rattle.theory_base.proofs.Members.{holds_false}
use Rattle.theory_base.specs.Clauses.{Proper, ProperAll, Fit, FitAll, Fits}
use Rattle.theory_base.proofs.Clauses.{literals_snoc, natAbs_zero}
use Rattle.theory_base.proofs.Outcomes.{through-++}
use Rattle.theory_text.proofs.Accepted.{kept_proper}
use Rattle.theory_text.proofs.Digits.{natural_digits, number_literal}
use Rattle.theory_text.proofs.Words.{free-++, any_free, first_field, only_field, first_line, no_last_cr, past_line}
use Rattle.theory_text.specs.Words.{Free}
use Rattle.theory_text.proofs.ClauseText.{Outside, blank_outside, newline_outside, return_outside, digits_free, literal_words, clause_words, words_clause_text, literals_through}

-- ---- the header
unfoldable header_line : ℕ → ℕ → Bytes
header_line v c = bytes "p cnf " ++ digits v ++ bytes " " ++ digits c

header_line_free : (p : ℕ → Bool) → Outside p → Free p (bytes "p cnf ") → Free p (bytes " ") → (v c : ℕ) → Free p (header_line v c)
unfolding header_line
header_line_free p h f g v c =
    free-++ p (bytes "p cnf " ++ digits v ++ bytes " ") (digits c)
    (free-++ p (bytes "p cnf " ++ digits v) (bytes " ") (free-++ p (bytes "p cnf ") (digits v) f (digits_free p h v)) g)
    (digits_free p h c)

header_fields : (v c : ℕ) → fields (header_line v c) ≡ bytes "p" ∷ bytes "cnf" ∷ digits v ∷ digits c ∷ []
unfolding header_line bytes is
header_fields v c =
    rw (
      append_assoc (digits v) (32 ∷ []) (digits c),
      first_field (112 ∷ []) (99 ∷ 110 ∷ 102 ∷ 32 ∷ (digits v ++ 32 ∷ digits c)) (refl, tt),
      first_field (99 ∷ 110 ∷ 102 ∷ []) (digits v ++ 32 ∷ digits c) (refl, (refl, (refl, tt))),
      first_field (digits v) (digits c) (digits_free (is " ") blank_outside v),
      only_field (digits c) (digits_free (is " ") blank_outside c),
    )

header_line_no_newline : (v c : ℕ) → Free (is "\n") (header_line v c)
unfolding bytes is any
header_line_no_newline = header_line_free (is "\n") newline_outside (any_free (is "\n") (bytes "p cnf ") refl) (refl, tt)

header_line_no_return : (v c : ℕ) → Free (is "\r") (header_line v c)
unfolding bytes is any
header_line_no_return = header_line_free (is "\r") return_outside (any_free (is "\r") (bytes "p cnf ") refl) (refl, tt)

header_line_no_comment : (v c : ℕ) (t : Bytes) → past_comments false (header_line v c ++ t) ≡ header_line v c ++ t
unfolding header_line bytes past_comments is
header_line_no_comment v c t = refl

header_fields_read : (most : Limits) (v c : ℕ) (t : Bytes) → v ≤ most.variables → c ≤ most.clauses →
    read_header_fields most (bytes "p" ∷ bytes "cnf" ∷ digits v ∷ digits c ∷ []) t ≡ value (record { variables = v; clauses = c; after = words t })
unfolding read_header_fields refuse_if or_fault ◌>>=◌ bytes same_bytes
header_fields_read most v c t f g = rw (natural_digits v, natural_digits c, le-ltb most.variables v f, le-ltb most.clauses c g)

header_read : (most : Limits) (v c : ℕ) (t : Bytes) → v ≤ most.variables → c ≤ most.clauses → read_header most (header_line v c ++ code "\n" ∷ t) ≡ value (record { variables = v; clauses = c; after = words t })
unfolding read_header read_header_line line_text
header_read most v c t f g =
    rw (
      header_line_no_comment v c (code "\n" ∷ t),
      first_line (header_line v c) t (header_line_no_newline v c),
      no_last_cr (header_line v c) (header_line_no_return v c),
      header_fields v c,
      past_line (header_line v c) (code "\n") t,
    )
    (header_fields_read most v c t f g)

-- ---- a clause: the clauses read, all of them kept, and the literals of the one being read
abbrev reader : Formula → Clause → Reader
reader g a = record { count = length g; done = g; here = a }

module _ (most : Limits) (v c : ℕ) (g : Formula) (more : length g < c) where
  literal_read : (a : Clause) (l : ℤ) → Fit v l → (Memᴰ l a → ⊥) → read_word most v c (reader g a) (literal_text l) ≡ value (reader g (a ++ (l ∷ [])))
  unfolding read_word read_literal refuse_if or_fault ◌>>=◌
  literal_read a l f n =
      rw (
        lt-leb c (length g) more,
        number_literal l,
        ne_eqb 0 (nat_abs l) (λ e. f.0 (natAbs_zero l (sym e))),
        le-ltb v (nat_abs l) f.1,
        holds_false l a n,
      )

  zero_read : (a : Clause) → Proper a → literals_of g + length a ≤ most.literals → read_word most v c (reader g a) (bytes "0") ≡ value (reader (g ++ (a ∷ [])) [])
  unfolding read_word refuse_if or_fault ◌>>=◌ bytes number natural not_negated is digit digit_value end_clause
  zero_read a p h =
      rw (
        lt-leb c (length g) more,
        kept_proper a p,
        literals_snoc g a,
        le-ltb most.literals (literals_of g + length a) h,
        length-append g (a ∷ []),
      )

  clause_read : (d : Clause) → Proper d → FitAll v d → literals_of g + length d ≤ most.literals → through (read_word most v c) (reader g []) (clause_words d) ≡ value (reader (g ++ (d ∷ [])) [])
  unfolding clause_words through ◌>>=◌
  clause_read d p f h =
      rw (
        through-++ (read_word most v c) (reader g []) (literal_words d) (bytes "0" ∷ []) (reader g d)
            (literals_through (read_word most v c) (reader g) v (λ a l q n _. literal_read a l q n) [] d p f),
        zero_read d p h,
      )

-- ---- the clauses
clauses_read : (most : Limits) (v c : ℕ) (g f : Formula) → length g + length f ≤ c → literals_of g + literals_of f ≤ most.literals → Fits v f →
    ProperAll f → through (read_word most v c) (reader g []) (for_each f clause_words) ≡ value (reader (g ++ f) [])
unfolding through for_each literals_of sum_of
clauses_read most v c g [] h l f p = rw (append-nil g)
clauses_read most v c g (d ∷ f) h l fits p =
    let e = append_snoc g d f in
    through-++ (read_word most v c) (reader g []) (clause_words d) (for_each f clause_words) (reader (g ++ (d ∷ [])) [])
    (clause_read most v c g (omega arith) d (p d (here refl)) (fits d (here refl)) (omega arith))
    ∙ (rw e at (clauses_read most v c (g ++ (d ∷ [])) f (omega (arith, length-append g (d ∷ []))) (omega (arith, literals_snoc g d)) (λ x i. fits x (there i)) (λ x i. p x (there i))))

formula_words : (f : Formula) → words (for_each f clause_text) ≡ for_each f clause_words
unfolding for_each words words_by parts add_part
formula_words [] = refl
formula_words (d ∷ f) = words_clause_text d (for_each f clause_text) ∙ ap (λ (ws : List Bytes). clause_words d ++ ws) (formula_words f)

formula_text_header : (h : ℕ) (f : Formula) → formula_text h f ≡ header_line h (length f) ++ code "\n" ∷ for_each f clause_text
unfolding formula_text header_line bytes
formula_text_header h f = append_snoc (header_line h (length f)) 10 (for_each f clause_text)

formula_end : (f : Formula) → end_text (length f) (reader f []) ≡ value f
unfolding end_text refuse_if
formula_end f = rw (le-ltb (length f) (length f) (omega arith))

pub formula_read_back : (most : Limits) (h : ℕ) (f : Formula) → h ≤ most.variables → length f ≤ most.clauses → literals_of f ≤ most.literals →
    Fits h f → ProperAll f → read_formula most (formula_text h f) ≡ value (as_read h (length f) f)
unfolding read_formula read_clauses ◌>>=◌ literals_of sum_of
formula_read_back most h f v c l fits p =
    rw (
      formula_text_header h f,
      header_read most h (length f) (for_each f clause_text) v c,
      formula_words f,
      clauses_read most h (length f) [] f (omega arith) (omega arith) fits p,
      formula_end f,
    )
