-- A log read line by line: the first line of a text by whether it begins with `d`, the lines one after another, and what every line read has.
use mathlib.Core.Path.{◌≡◌, refl, sym, ap, ◌∙◌}
use mathlib.Core.Bool.{true, false, not, ◌&&◌, cond}
use mathlib.Core.Logic.{◌⊎◌, inl, inr, ◌≢◌}
use mathlib.Core.List.Memᴰ
use mathlib.Core.List.Memᴰ.{head as here}
use mathlib.Core.List.Memᴰ.{tail as there}
use mathlib.Core.List.{List, [], ◌∷◌, ◌++◌, Memᴰ}
use mathlib.Core.Option.{Option, some, none}
use Prim.Native.Nat.{ℕ, zero, suc, ◌+◌, ◌≤◌, ◌<◌}
use native.Mathlib.Omega.{arith}
use native.Mathlib.Numerals.{add-one}
use lib.Dec.{eqb, leb, ltb, eqb→eq}
use lib.IntN.{ℤ, pos, nat_abs}
use lib.ListN.{length, get_or, take, drop, length-append}
use borrow.Author.Tests.{eq-eqb, ne_eqb, eqb-true, eqb-false, leb-true, not-false}
use Rattle.definition.specs.Checked.{Checked, fault, value, ◌>>=◌, refuse_if, through}
use Rattle.definition.specs.Literals.{Clause, repeated, opposed, highest}
use Rattle.definition.specs.Text.{Bytes, TextLine, bytes, is, text_lines, longer, same_bytes, fields_from, fields, number}
use Rattle.definition.specs.Standing.{Line, addition, deletion, literals}
use Rattle.definition.specs.LogReading.{with_literal, read_line_clause, line_clause_allowed, allowed_clause, read_line_fields, read_line, read_log}
use Rattle.theory_base.proofs.Tests.{by_test, of_true, to_true, not_true, and_l, and_r, differ}
use Rattle.theory_base.proofs.Loops.{none_some, some_same}
use Rattle.theory_base.proofs.Outcomes.{fault_value, value_same, refuse_value, bind_value, through_keeps}
use Rattle.theory_base.specs.Clauses.{Proper}
use Rattle.theory_base.proofs.Clauses.{members_snoc, tests_proper}
use Rattle.theory_base.proofs.Fitting.{LineFits}
use Rattle.theory_text.proofs.Words.{first_field, first_line}
use Rattle.theory_text.specs.Words.{Free}
use Rattle.theory_text.specs.LogLines.{first_ended, ended_line, first_read, begins_deletion, allowed_at, after_literals, ended_rest, rest_read}
use Rattle.theory_text.proofs.LineWords.{before, ended_free, ended_cons}

-- ---- a text begins with `d` and a blank

deletion_text : (t : Bytes) → begins_deletion t ≡ true → t ≡ 100 ∷ 32 ∷ drop 2 t
unfolding begins_deletion is
deletion_text [] e = differ {b = true} tt (sym e)
deletion_text (b ∷ []) e = differ {b = true} tt (sym e)
deletion_text (b ∷ c ∷ t) e =
    rw (eqb→eq b 100 (and_l (eqb b 100) (eqb c 32) (of_true e)), eqb→eq c 32 (and_r (eqb b 100) (eqb c 32) (of_true e)))

-- ---- the line that an LF ends, and what follows it

record Ended (t u : Bytes) : Type 0 where
  free : Free (is "\n") u
  split : t ≡ u ++ 10 ∷ drop (suc (length u)) t

newline : (b : ℕ) → is "\n" b ≡ true → b ≡ 10
unfolding is
newline b e = eqb-true b 10 e

ended_some : (t u : Bytes) → first_ended (text_lines t) ≡ some u → Ended t u
unfolding text_lines
ended_some [] u e = none_some e
ended_some (b ∷ t) u e = by_test (is "\n" b) (at_newline e) (λ q. inside q (ended_cons b t q) (ended_some t))
  where
    at_newline : first_ended (cond (is "\n" b) (record { text = []; ended = true } ∷ text_lines t) (longer b (text_lines t))) ≡ some u → is "\n" b ≡ true → Ended (b ∷ t) u
    at_newline p q = let z : [] ≡ u = some_same (rw q at p) in rw (← z) (record { free = tt; split = ap (λ (c : ℕ). c ∷ t) (newline b q) })

    inside : is "\n" b ≡ false → first_ended (text_lines (b ∷ t)) ≡ before (b ∷ []) (first_ended (text_lines t)) → ((v : Bytes) → first_ended (text_lines t) ≡ some v → Ended t v) → Ended (b ∷ t) u
    inside q p ih = go (first_ended (text_lines t)) refl (sym p ∙ e)
      where
        go : (o : Option Bytes) → first_ended (text_lines t) ≡ o → before (b ∷ []) o ≡ some u → Ended (b ∷ t) u
        go none k r = none_some r
        go (some v) k r =
            let z : b ∷ v ≡ u = some_same r in
            let w = ih v k in
            rw (← z) (record { free = (q, w.free); split = ap (λ (s : Bytes). b ∷ s) w.split })

-- ---- the first line by its clause

-- a line of a clause, and the place past it
abbrev pub as_line : (Clause → Line) → Checked (ℕ × Clause) → Checked (ℕ × Line)
as_line make x = x >>= λ r. value (r.0, make r.1)

clause_line : (make : Clause → Line) (n m : ℕ) (o : Option Clause) → n ≡ m → ((allowed_clause o >>= λ c. value (make c)) >>= λ s. value (n, s)) ≡ as_line make (allowed_at m (after_literals [] o))
unfolding ◌>>=◌
clause_line make n m o e = rw (e, no_literals o) (go (allowed_clause o))
  where
    no_literals : (x : Option Clause) → after_literals [] x ≡ x
    no_literals none = refl
    no_literals (some c) = refl

    go : (x : Checked Clause) → ((x >>= λ c. value (make c)) >>= λ s. value (m, s)) ≡ as_line make (x >>= λ c. value (m, c))
    go (fault k) = refl
    go (value c) = refl

marked_fields : (u : Bytes) → read_line_fields (fields (100 ∷ 32 ∷ u)) ≡ (allowed_clause (read_line_clause (fields u)) >>= λ c. value (deletion c))
unfolding read_line_fields same_bytes bytes is
marked_fields u = rw (first_field (100 ∷ []) u (refl, tt))

pub deletion_read : (t : Bytes) → begins_deletion t ≡ true → first_read t ≡ as_line deletion (rest_read 2 [] (drop 2 t))
unfolding first_read rest_read is ◌>>=◌
deletion_read t e =
    ap (λ (x : Bytes). ended_line (first_ended (text_lines x))) (deletion_text t e)
    ∙ ap ended_line (ended_free (100 ∷ 32 ∷ []) (drop 2 t) (refl, (refl, tt)))
    ∙ go (first_ended (text_lines (drop 2 t)))
  where
    go : (o : Option Bytes) → ended_line (before (100 ∷ 32 ∷ []) o) ≡ as_line deletion (ended_rest 2 [] o)
    go none = refl
    go (some u) =
        ap (λ (x : Checked Line). x >>= λ s. value (length (100 ∷ 32 ∷ u) + 1, s)) (marked_fields u)
        ∙ clause_line deletion (length (100 ∷ 32 ∷ u) + 1) (2 + (length u + 1)) (read_line_clause (fields u)) (omega arith)

-- no `d` stands alone before a blank
abbrev Plain : Bytes → Type 0
Plain u = (same_bytes (fields_from u).0 (bytes "d") ≡ false) ⊎ (u ≡ 100 ∷ [])

plain : (u r : Bytes) → begins_deletion (u ++ 10 ∷ r) ≡ false → Plain u
unfolding begins_deletion fields_from same_bytes bytes is
plain [] r h = inl refl
plain (b ∷ []) r h = by_test (eqb b 100) (λ d. inr (ap (λ (c : ℕ). c ∷ []) (eqb-true b 100 d))) (λ d. inl (by_test (eqb b 32) (λ e. rw e) (λ e. rw (e, d))))
plain (b ∷ c ∷ u) r h = inl (by_test (eqb b 32) (λ e. rw e) (λ e. rw e (by_test (eqb b 100) (λ d. rw d (other d)) (λ d. rw d))))
  where
    other : eqb b 100 ≡ true → same_bytes (fields_from (c ∷ u)).0 [] ≡ false
    other d = rw (rw d at h)

plain_fields : (u : Bytes) → same_bytes (fields_from u).0 (bytes "d") ≡ false → read_line_fields (fields u) ≡ (allowed_clause (read_line_clause (fields u)) >>= λ c. value (addition c))
unfolding read_line_fields fields
plain_fields u e = rw e

-- a `d` alone is no line
d_alone : (n m : ℕ) → (read_line_fields (fields (100 ∷ [])) >>= λ s. value (n, s)) ≡ as_line addition (allowed_at m (after_literals [] (read_line_clause (fields (100 ∷ [])))))
unfolding fields fields_from same_bytes bytes read_line_fields read_line_clause allowed_clause is ◌>>=◌
d_alone n m = refl

pub addition_read : (t : Bytes) → begins_deletion t ≡ false → first_read t ≡ as_line addition (rest_read 0 [] t)
unfolding first_read rest_read ◌>>=◌
addition_read t e = go (first_ended (text_lines t)) refl
  where
    line : (u : Bytes) → Plain u → ended_line (some u) ≡ as_line addition (ended_rest 0 [] (some u))
    line u (inl p) =
        ap (λ (x : Checked Line). x >>= λ s. value (length u + 1, s)) (plain_fields u p)
        ∙ clause_line addition (length u + 1) (0 + (length u + 1)) (read_line_clause (fields u)) (omega arith)
    line u (inr p) = rw p (d_alone 2 (0 + 2))

    go : (o : Option Bytes) → first_ended (text_lines t) ≡ o → ended_line o ≡ as_line addition (ended_rest 0 [] o)
    go none q = refl
    go (some u) q = line u (plain u (drop (suc (length u)) t) (ap begins_deletion (sym (ended_some t u q).split) ∙ e))

-- ---- the lines one after another

-- so many lines of a text, after the lines ss
abbrev pub lines_read : List Line → ℕ → Bytes → Checked (List Line)
lines_read ss k t = through read_line ss (take k (text_lines t))

pub log_none : (ss : List Line) (k : ℕ) → lines_read ss k [] ≡ value ss
unfolding text_lines through
log_none ss zero = refl
log_none ss (suc k) = refl

line_read : (ss : List Line) (u : Bytes) (s : Line) → read_line_fields (fields u) ≡ value s → read_line ss (record { text = u; ended = true }) ≡ value (ss ++ (s ∷ []))
unfolding read_line refuse_if ◌>>=◌
line_read ss u s e = rw e

-- the first line is s, and ends before a place
pub record LineFirst (t : Bytes) (next : ℕ) (s : Line) : Type 0 where
  pub within : next ≤ length t
  pub step : (ss : List Line) (k : ℕ) → lines_read ss (suc k) t ≡ lines_read (ss ++ (s ∷ [])) k (drop next t)

ended_first : (t u : Bytes) (s : Line) → Ended t u → read_line_fields (fields u) ≡ value s → LineFirst t (length u + 1) s
unfolding through ◌>>=◌
ended_first t u s e r = record {
  within = omega (arith, ap length e.split, length-append u (10 ∷ drop (suc (length u)) t));
  step = λ ss k. rw (lines, line_read ss u s r);
}
  where
    lines : text_lines t ≡ record { text = u; ended = true } ∷ text_lines (drop (length u + 1) t)
    lines = ap text_lines e.split ∙ first_line u (drop (suc (length u)) t) e.free ∙ ap (λ (n : ℕ). record { text = u; ended = true } ∷ text_lines (drop n t)) (sym (add-one (length u)))

pub line_first : (t : Bytes) {next : ℕ} {s : Line} → first_read t ≡ value (next, s) → LineFirst t next s
unfolding first_read
line_first t {next} {s} a = go (first_ended (text_lines t)) refl a
  where
    go : (o : Option Bytes) → first_ended (text_lines t) ≡ o → ended_line o ≡ value (next, s) → LineFirst t next s
    go none q p = fault_value 31 (next, s) p
    go (some u) q p =
        let r = bind_value (read_line_fields (fields u)) (λ x. value (length u + 1, x)) (next, s) p in
        let both = value_same (length u + 1, r.0) (next, s) r.2 in
        let n : length u + 1 ≡ next = ap (λ (x : ℕ × Line). x.0) both in
        let l : r.0 ≡ s = ap (λ (x : ℕ × Line). x.1) both in
        rw (← n, ← l) (ended_first t u r.0 (ended_some t u q) r.1)

-- the first line is refused
bind_fault : {A B : Type 0} (x : Checked A) (f : A → B) (n : ℕ) → (x >>= λ a. value (f a)) ≡ fault n → x ≡ fault n
unfolding ◌>>=◌
bind_fault (fault k) f n e = let z : k ≡ n = cc in ap fault z
bind_fault (value a) f n e = fault_value n (f a) (sym e)

refused_line : (l : TextLine) (ls : List TextLine) → ended_line (first_ended (l ∷ ls)) ≡ fault 31 → (ss : List Line) → read_line ss l ≡ fault 31
unfolding read_line refuse_if ◌>>=◌
refused_line l ls a ss = by_test l.ended
    (λ e. rw (e, bind_fault (read_line_fields (fields l.text)) (λ s. (length l.text + 1, s)) 31 (rw e at a)))
    (λ e. rw e)

lines_some : (t : Bytes) → 0 < length t → 0 < length (text_lines t)
unfolding text_lines longer
lines_some [] h = absurd (omega arith)
lines_some (b ∷ t) h = by_test (is "\n" b) (λ e. rw e (omega arith)) (λ e. rw e (go (text_lines t)))
  where
    go : (ls : List TextLine) → 0 < length (longer b ls)
    go [] = omega arith
    go (l ∷ ls) = omega arith

pub line_refused : (t : Bytes) → 0 < length t → first_read t ≡ fault 31 → (ss : List Line) (k : ℕ) → lines_read ss (suc k) t ≡ fault 31
unfolding first_read through ◌>>=◌
line_refused t h a ss k = go (text_lines t) refl (lines_some t h)
  where
    go : (ls : List TextLine) → text_lines t ≡ ls → 0 < length (text_lines t) → through read_line ss (take (suc k) (text_lines t)) ≡ fault 31
    go [] q m = absurd (none_there (ap length q) m)
      where
        none_there : length (text_lines t) ≡ 0 → 0 < length (text_lines t) → ⊥
        none_there x y = omega arith
    go (l ∷ ls) q m = rw (q, refused_line l ls (ap (λ (x : List TextLine). ended_line (first_ended x)) (sym q) ∙ a) ss)

-- ---- the lines read have proper clauses of variables up to 70,000

allowed_some : (o : Option Clause) (c : Clause) → allowed_clause o ≡ value c → o ≡ some c
unfolding allowed_clause
allowed_some none c e = fault_value 31 c e
allowed_some (some d) c e = ap some (value_same d c (refuse_value (not (line_clause_allowed d)) 31 (value d) c e).1)

allowed_parts : (c d : Clause) → allowed_clause (some c) ≡ value d → (repeated c ≡ false) × (opposed c ≡ false) × (highest c ≤ 70_000)
unfolding allowed_clause line_clause_allowed
allowed_parts c d e =
    let a = of_true (not-false (line_clause_allowed c) (refuse_value (not (line_clause_allowed c)) 31 (value c) d e).0) in
    let both = and_l (not (repeated c) && not (opposed c)) (leb (highest c) 70_000) a in (
      not_true (and_l (not (repeated c)) (not (opposed c)) both),
      not_true (and_r (not (repeated c)) (not (opposed c)) both),
      leb-true (highest c) 70_000 (to_true (and_r (not (repeated c) && not (opposed c)) (leb (highest c) 70_000) a)),
    )

no_zero : (l : ℤ) → eqb 0 (nat_abs l) ≡ false → l ≢ pos 0
no_zero l e q = eqb-false 0 (nat_abs l) e (sym (ap nat_abs q))

with_literal_zero : (o : Option ℤ) (x : Option Clause) (c : Clause) → with_literal o x ≡ some c → ((d : Clause) → x ≡ some d → (y : ℤ) → Memᴰ y d → y ≢ pos 0) → (y : ℤ) → Memᴰ y c → y ≢ pos 0
unfolding with_literal
with_literal_zero none x c e h = none_some e
with_literal_zero (some l) none c e h = none_some e
with_literal_zero (some l) (some d) c e h = by_test (eqb 0 (nat_abs l))
    (λ q. none_some (rw q at e))
    (λ q. rw (← some_same (rw q at e)) (first q))
  where
    first : eqb 0 (nat_abs l) ≡ false → (y : ℤ) → Memᴰ y (l ∷ d) → y ≢ pos 0
    first q y (here p) = λ r. no_zero l q (sym p ∙ r)
    first q y (there i) = h d refl y i

clause_zero : (ws : List Bytes) (c : Clause) → read_line_clause ws ≡ some c → (y : ℤ) → Memᴰ y c → y ≢ pos 0
unfolding read_line_clause
clause_zero [] c e = none_some e
clause_zero (w ∷ []) c e = by_test (same_bytes w (bytes "0"))
    (λ q. rw (← some_same (rw q at e)) (λ y i. absurd (Memᴰ.not-nil i)))
    (λ q. none_some (rw q at e))
clause_zero (w ∷ x ∷ ws) c e = with_literal_zero (number w) (read_line_clause (x ∷ ws)) c e (λ d p. clause_zero (x ∷ ws) d p)

allowed_fits : (ws : List Bytes) (c : Clause) → allowed_clause (read_line_clause ws) ≡ value c → Proper c × (highest c ≤ 70_000)
allowed_fits ws c e =
    let p = allowed_some (read_line_clause ws) c e in
    let a = allowed_parts c c (rw p at e) in
    (tests_proper c a.0 a.1 (clause_zero ws c p), a.2)

fields_fit : (ws : List Bytes) (s : Line) → read_line_fields ws ≡ value s → LineFits 70_000 s
unfolding read_line_fields literals
fields_fit [] s e = fault_value 31 s e
fields_fit (w ∷ ws) s e = by_test (same_bytes w (bytes "d"))
    (λ q. let r = bind_value (allowed_clause (read_line_clause ws)) (λ c. value (deletion c)) s (rw q at e) in rw (← value_same (deletion r.0) s r.2) (allowed_fits ws r.0 r.1))
    (λ q. let r = bind_value (allowed_clause (read_line_clause (w ∷ ws))) (λ c. value (addition c)) s (rw q at e) in rw (← value_same (addition r.0) s r.2) (allowed_fits (w ∷ ws) r.0 r.1))

-- every line fits
abbrev pub AllFit : List Line → Type 0
AllFit ss = (s : Line) → Memᴰ s ss → LineFits 70_000 s

line_fits : (ss : List Line) (l : TextLine) (all : List Line) → AllFit ss → read_line ss l ≡ value all → AllFit all
unfolding read_line
line_fits ss l all h e =
    let z = refuse_value (not l.ended) 31 (read_line_fields (fields l.text) >>= λ s. value (ss ++ (s ∷ []))) all e in
    let w = bind_value (read_line_fields (fields l.text)) (λ s. value (ss ++ (s ∷ []))) all z.1 in
    rw (← value_same (ss ++ (w.0 ∷ [])) all w.2) (members_snoc (LineFits 70_000) ss w.0 h (fields_fit (fields l.text) w.0 w.1))

pub lines_fit : (kept : ℕ) (t : Bytes) (ss : List Line) → read_log kept t ≡ value ss → AllFit ss
unfolding read_log
lines_fit kept t ss e =
    let r = bind_value (through read_line [] (take kept (text_lines t))) (λ x. refuse_if (ltb (length x) kept) 34 (value x)) ss e in
    let z = refuse_value (ltb (length r.0) kept) 34 (value r.0) ss r.2 in
    rw (← value_same r.0 ss z.1) (through_keeps read_line AllFit line_fits [] (take kept (text_lines t)) r.0 (λ s i. absurd (Memᴰ.not-nil i)) r.1)
