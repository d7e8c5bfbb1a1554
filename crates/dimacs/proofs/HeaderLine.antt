-- The header line by the answers of the code. Assumes nothing.
use mathlib.Core.Path.{◌≡◌, refl, sym, ap, ap₂, ◌∙◌}
use mathlib.Core.Bool.{Bool, true, false, not, ◌&&◌, ◌||◌, cond}
use mathlib.Core.List.{List, [], ◌∷◌, ◌++◌}
use mathlib.Core.Option.{Option, some, none}
use Prim.Native.Nat.{ℕ, suc, ◌+◌, ◌≤◌, ◌<◌}
use native.Mathlib.Omega.{arith}
use native.Mathlib.Numerals.{add-one}
use lib.Pointwise.{pointwise}
use lib.Dec.{eqb, leb, ltb}
use lib.ListN.{length, get_or, take, drop, take-append-drop}
use lib.Seq.{drop-cons}
use Rattle.std.proofs.Common.{Option as Found, Some, None, subst}
use borrow.Author.Tests.{leb-false, ltb-true, ltb-false, lt-ltb}
use Rattle.std.specs.List.{position, position_or_len}
use Rattle.std.proofs.lemmas.List.Recursion.{is_position_or_len}
use Rattle.definition.specs.Checked.{Checked, fault, value, ◌>>=◌, refuse_if}
use Rattle.definition.specs.Text.{Bytes, TextLine, is, same_bytes, longer, text_lines, past_comments, fields, words, natural}
use Rattle.definition.specs.Reading as Reading
use Rattle.definition.specs.Reading.{read_header_fields, read_header}
use Rattle.definition.specs.Answer.{begins_with}
use Rattle.theory_base.specs.Slices.{between}
use Rattle.theory_base.proofs.Tests.{by_test}
use Rattle.theory_text.specs.Runs.{in_run, leading, letters}
use Rattle.theory_text.proofs.Runs.{leading_within}
use Rattle.theory_text.proofs.Words.{same_eq, same_turned}
use Rattle.theory_text.specs.TextLines.{FirstLine}
use Rattle.theory_text.specs.HeaderLine.{marker, read_counts}
use Rattle.theory_text.proofs.HeaderLine.{header_none, header_first, header_unmarked, header_short, header_counts, fields_after}
use Rattle.text.specs.declared.Line.{Line}
use Rattle.text.specs.Lines.{LineSays}
use Rattle.text.specs.Numbers.{natural_class}
use Rattle.refusals.specs.Outcomes.{showing}
use Rattle.dimacs.specs.declared.Limits as Code
use Rattle.dimacs.specs.declared.Counts.{Counts}
use Rattle.dimacs.specs.Outcome.{header_of}
use Rattle.dimacs.specs.Limits.{limits_of, Countable}
use Rattle.dimacs.specs.HeaderLine.{HeaderLine, counts_by, counts_of}

-- ---- comments

lines_end : (t : Bytes) → text_lines t ≡ [] → t ≡ []
unfolding text_lines longer
lines_end [] e = refl
lines_end (b ∷ t) e = absurd (go (is "\n" b) (text_lines t) e)
  where
    go : (x : Bool) (ls : List TextLine) → cond x (record { text = []; ended = true } ∷ ls) (longer b ls) ≡ [] → ⊥
    go true ls q = cc
    go false [] q = cc
    go false (l ∷ ls) q = cc

-- a comment ends with its line
comment_line : (t : Bytes) {l : TextLine} {ls : List TextLine} → text_lines t ≡ l ∷ ls → past_comments true t ≡ past_comments false (drop (suc (length l.text)) t)
unfolding text_lines longer past_comments
comment_line [] e = cc
comment_line (b ∷ t) {l} {ls} e = go (is "\n" b) (text_lines t) refl (λ m ms p. comment_line t p) e
  where
    go : (x : Bool) (u : List TextLine) → text_lines t ≡ u → ((m : TextLine) (ms : List TextLine) → text_lines t ≡ m ∷ ms → past_comments true t ≡ past_comments false (drop (suc (length m.text)) t)) →
        cond x (record { text = []; ended = true } ∷ u) (longer b u) ≡ l ∷ ls → past_comments (not x) t ≡ past_comments false (drop (length l.text) t)
    go true u p ih q = let z : l ≡ record { text = []; ended = true } = cc in rw z refl
    go false [] p ih q = let z : l ≡ record { text = b ∷ []; ended = false } = cc in rw (z, lines_end t p) refl
    go false (m ∷ ms) p ih q = let z : l ≡ record { text = b ∷ m.text; ended = m.ended } = cc in rw z (ih m ms p)

module _ (t : Bytes) (at : ℕ) where
  pub comment_past : {s e next : ℕ} → FirstLine t at s e next → get_or t at 0 ≡ 99 → past_comments false (drop next t) ≡ past_comments false (drop at t)
  unfolding past_comments is
  comment_past f q = ap (past_comments false) (sym f.rest) ∙ sym (comment_line (drop at t) f.lines) ∙ begun
    where
      begun : past_comments true (drop at t) ≡ past_comments false (drop at t)
      begun = let h : at < length t = omega (arith, f.forward, f.within) in rw (drop-cons t at 0 h, q) refl

  pub no_line : text_lines (drop at t) ≡ [] → drop at t ≡ past_comments false (drop at t)
  unfolding past_comments
  no_line e = rw (lines_end (drop at t) e) refl

abbrev header : ℕ → ℕ → Bytes → Reading.Header
header v c t = record { variables = v; clauses = c; after = words t }

-- ---- V and C

-- by the classes of the two words
counts_classes : (m : Code.Limits) → Countable m → (a b : Option ℕ) → counts_by m (natural_class 1_000_000 a) (natural_class 1_000_000 b) ≡ showing counts_of (read_counts (limits_of m) a b [])
unfolding refuse_if
counts_classes m k none b = refl
counts_classes m k (some v) none = by_test (leb v 1_000_000) (λ e. rw e refl) (λ e. rw e refl)
counts_classes m k (some v) (some c) = by_test (leb v 1_000_000)
    (λ e. by_test (leb c 1_000_000)
    (λ f. rw (e, f) (go (ltb m.variables v || ltb m.clauses c)))
    (λ f. rw (e, f, lt-ltb m.clauses c (omega (arith, k.clauses, leb-false c 1_000_000 f)), or-true (ltb m.variables v)) refl))
    (λ e. by_test (leb c 1_000_000)
    (λ f. rw (e, f, lt-ltb m.variables v (omega (arith, k.variables, leb-false v 1_000_000 e))) refl)
    (λ f. rw (e, f, lt-ltb m.variables v (omega (arith, k.variables, leb-false v 1_000_000 e))) refl))
  where
    or-true : (x : Bool) → (x || true) ≡ true
    or-true true = refl
    or-true false = refl

    go : (x : Bool) → cond x (fault 2) (value (record { variables = v; clauses = c })) ≡ showing counts_of (refuse_if x 2 (value (header v c [])))
    go true = refl
    go false = refl

same_pointwise : (t u : Bytes) → same_bytes t u ≡ pointwise eqb t u
unfolding same_bytes
same_pointwise [] [] = refl
same_pointwise [] (c ∷ u) = refl
same_pointwise (b ∷ t) [] = refl
same_pointwise (b ∷ t) (c ∷ u) = ap (λ (x : Bool). eqb b c && x) (same_pointwise t u)

letters_position : (p : ℕ → Bool) (t : Bytes) → letters p t ≡ position_or_len p t
unfolding leading
letters_position p = is_position_or_len (letters p) p refl (λ b t. by_test (p b) (λ e. rw e refl) (λ e. rw e (omega arith)))

module _ (p : ℕ → Bool) (t : Bytes) where
  no_place : None ≡ position p t → letters p t ≡ length t
  no_place q = by_test (ltb (position_or_len p t) (length t))
      (λ e. let z = rw e at q in cc)
      (λ e. omega (arith, ltb-false _ _ e, letters_position p t, leading_within (in_run p false) t))

  place : {n : ℕ} → Some n ≡ position p t → (letters p t ≡ n) × (n < length t)
  place {n} q = by_test (ltb (position_or_len p t) (length t))
      (λ e. let z : Some n ≡ Some (position_or_len p t) = rw e at q in let y : n ≡ position_or_len p t = cc in (letters_position p t ∙ sym y, omega (arith, ltb-true _ _ e)))
      (λ e. let z : Some n ≡ None = rw e at q in cc)

module _ (m : Code.Limits) (k : Countable m) (line : Bytes) where
  -- what the line says
  abbrev said : Checked Counts
  said = showing counts_of (read_header_fields (limits_of m) (fields line) [])

  pub counts_no : pointwise eqb (take 6 line) marker ≡ false → fault 1 ≡ said
  unfolding begins_with
  counts_no e = ap (showing counts_of) (sym (header_unmarked (limits_of m) line [] (same_turned marker (take 6 line) ∙ same_pointwise (take 6 line) marker ∙ e)))

  -- by what follows the marker
  module _ (t : Bytes) (e : pointwise eqb (take 6 line) marker ≡ true) (r : t ≡ drop 6 line) where
    whole_line : line ≡ marker ++ t
    whole_line = sym (take-append-drop 6 line) ∙ ap₂ (λ (x y : Bytes). x ++ y) (same_eq (take 6 line) marker (same_pointwise (take 6 line) marker ∙ e)) (sym r)

    pub counts_one : None ≡ position (is " ") t → fault 1 ≡ said
    counts_one q = rw whole_line (sym (ap (showing counts_of) (header_short (limits_of m) [] t (no_place (is " ") t q))))

    pub counts_two : {n : ℕ} → Some n ≡ position (is " ") t →
        counts_by m (natural_class 1_000_000 (natural (take n t))) (natural_class 1_000_000 (natural (drop (n + 1) t))) ≡ said
    counts_two {n} q =
        let p = place (is " ") t q in
        let h : letters (is " ") t < length t = omega (arith, p.0, p.1) in
        rw (whole_line, add-one n, ← p.0) (counts_classes m k (natural (take (letters (is " ") t) t)) (natural (drop (suc (letters (is " ") t)) t)) ∙ sym (ap (showing counts_of) (header_counts (limits_of m) [] t h)))

-- ---- the answers

counts_fault : (o : Checked Reading.Header) (n : ℕ) → fault n ≡ showing counts_of o → o ≡ fault n
counts_fault (fault k) n e = cc
counts_fault (value h) n e = cc

counts_value : (o : Checked Reading.Header) (c : Counts) (after : Bytes) → value c ≡ showing counts_of o → (o >>= λ h. value (header h.variables h.clauses after)) ≡ value (header_of c after)
unfolding ◌>>=◌
counts_value (fault k) c after e = cc
counts_value (value h) c after e = let p : c ≡ counts_of h = cc in rw p refl

-- ---- the line after the comments

module _ (m : Code.Limits) {t : Bytes} {r : Found Line} (p : HeaderLine t r) where
  pub line_none : r ≡ None → read_header (limits_of m) t ≡ fault 1
  line_none e = header_none (limits_of m) t p.at p.rest (subst (LineSays t p.at) e p.says)

  module _ {l : Line} (e : r ≡ Some l) where
    line_first : FirstLine t p.at l.start l.end l.next
    line_first = subst (LineSays t p.at) e p.says

    abbrev of_line : Checked Reading.Header
    of_line = read_header_fields (limits_of m) (fields (between l.start l.end t)) []

    whole : read_header (limits_of m) t ≡ (of_line >>= λ h. value (header h.variables h.clauses (drop l.next t)))
    whole = header_first (limits_of m) t p.at p.rest line_first ∙ fields_after (limits_of m) (fields (between l.start l.end t)) (drop l.next t)

    pub line_fault : {n : ℕ} → fault n ≡ showing counts_of of_line → read_header (limits_of m) t ≡ fault n
    unfolding ◌>>=◌
    line_fault {n} q = whole ∙ rw (counts_fault of_line n q) refl

    pub line_value : {c : Counts} → value c ≡ showing counts_of of_line → (read_header (limits_of m) t ≡ value (header_of c (drop l.next t))) × (l.next ≤ length t)
    line_value {c} q = (whole ∙ counts_value of_line c (drop l.next t) q, line_first.within)
