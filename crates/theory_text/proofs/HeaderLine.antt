-- The header line: comments before it, what it begins with, and its fields.
use mathlib.Core.Path.{◌≡◌, refl, sym, ap, ◌∙◌}
use mathlib.Core.Bool.{Bool, true, false, not, ◌&&◌, ◌||◌, cond}
use mathlib.Core.List.{List, [], ◌∷◌, ◌++◌}
use mathlib.Core.Option.{Option, some, none}
use Prim.Native.Nat.{ℕ, suc, ◌+◌, ◌≤◌, ◌<◌}
use native.Mathlib.Omega.{arith}
use native.Mathlib.Numerals.{add-one}
use lib.Dec.{T, eqb, leb, ltb}
use lib.ListN.{length, get_or, take, drop, drop_of_length-le, length-append, take-append-drop}
use lib.Seq.{take-length, drop-cons}
use borrow.Author.Tests.{leb-true, eqb-true, ne_eqb}
use Rattle.definition.specs.Lists.{all}
use Rattle.definition.specs.Checked.{Checked, fault, value, ◌>>=◌, refuse_if, or_fault}
use Rattle.definition.specs.Text.{Bytes, bytes, is, past_comments, text_lines, same_bytes, fields_from, fields, words, natural, digit}
use Rattle.definition.specs.Reading.{Limits, Header, read_header_fields, read_header_line, read_header}
use Rattle.definition.specs.Answer.{begins_with}
use Rattle.theory_base.specs.Slices.{between}
use Rattle.theory_base.proofs.Tests.{differ, to_true, of_true, to_false, and_l, and_r}
use Rattle.theory_text.specs.Words.{Free}
use Rattle.theory_text.specs.Runs.{letters}
use Rattle.theory_text.specs.TextLines.{FirstLine}
use Rattle.theory_text.specs.HeaderLine.{marker, read_counts}
use Rattle.theory_text.proofs.Words.{first_field, only_field, same_eq}
use Rattle.theory_text.proofs.Runs.{letters_free, letters_stop}

-- ---- comments

module _ (t : Bytes) (i : ℕ) (h : i < length t) where
  pub comments_end : (get_or t i 0 ≡ 99 → ⊥) → drop i t ≡ past_comments false (drop i t)
  unfolding past_comments is
  comments_end n = rw (drop-cons t i 0 h, ne_eqb (get_or t i 0) 99 n) refl

-- ---- the line after the comments

module _ (most : Limits) (t : Bytes) (at : ℕ) (p : drop at t ≡ past_comments false t) where
  pub header_none : text_lines (drop at t) ≡ [] → read_header most t ≡ fault 1
  unfolding read_header read_header_line
  header_none e = rw (← p, e) refl

  pub header_first : {s e next : ℕ} → FirstLine t at s e next → read_header most t ≡ read_header_fields most (fields (between s e t)) (drop next t)
  unfolding read_header read_header_line
  header_first f = rw (← p, f.lines, f.text, f.rest) refl

-- ---- `p cnf `

-- ---- the fields of a line: what stands before the first blank, and the fields after it

-- fields put together again
abbrev joined : Bytes → List Bytes → Bytes
joined w [] = w
joined w (x ∷ ws) = w ++ 32 ∷ joined x ws

joined_cons : (b : ℕ) (w : Bytes) (ws : List Bytes) → joined (b ∷ w) ws ≡ b ∷ joined w ws
joined_cons b w [] = refl
joined_cons b w (x ∷ ws) = refl

abbrev joined_pair : Bytes × List Bytes → Bytes
joined_pair p = joined p.0 p.1

fields_joined : (t : Bytes) → joined_pair (fields_from t) ≡ t
unfolding fields_from is
fields_joined [] = refl
fields_joined (b ∷ t) = go (eqb b 32) refl (fields_joined t)
  where
    go : (x : Bool) → eqb b 32 ≡ x → joined_pair (fields_from t) ≡ t → joined_pair (cond x ([], (fields_from t).0 ∷ (fields_from t).1) (b ∷ (fields_from t).0, (fields_from t).1)) ≡ b ∷ t
    go true e ih = rw (eqb-true b 32 e) (ap (λ (u : Bytes). 32 ∷ u) ih)
    go false e ih = joined_cons b (fields_from t).0 (fields_from t).1 ∙ ap (λ (u : Bytes). b ∷ u) ih

-- the test of the header's first fields
abbrev header_fields : List Bytes → Bool
header_fields f = eqb (length f) 4 && same_bytes (get_or f 0 []) (bytes "p") && same_bytes (get_or f 1 []) (bytes "cnf")

-- they stand only in a line that begins so
fields_begin : (w : Bytes) (ws : List Bytes) → T (header_fields (w ∷ ws)) → begins_with marker (joined w ws) ≡ true
unfolding begins_with bytes same_bytes
fields_begin w [] e = absurd e
fields_begin w (x ∷ []) e = absurd e
fields_begin w (x ∷ y ∷ ws) e =
    let few = eqb (length (w ∷ x ∷ y ∷ ws)) 4 in
    let f = and_l (few && same_bytes w (bytes "p")) (same_bytes x (bytes "cnf")) e in
    rw (same_eq w (bytes "p") (to_true (and_r few (same_bytes w (bytes "p")) f)), same_eq x (bytes "cnf") (to_true (and_r (few && same_bytes w (bytes "p")) (same_bytes x (bytes "cnf")) e))) refl

module _ (most : Limits) (line after : Bytes) where
  pub header_unmarked : begins_with marker line ≡ false → read_header_fields most (fields line) after ≡ fault 1
  unfolding read_header_fields fields refuse_if
  header_unmarked e = rw (to_false {b = header_fields (fields line)} (λ y. differ (of_true (ap (begins_with marker) (sym (fields_joined line)) ∙ fields_begin (fields_from line).0 (fields_from line).1 y)) e)) refl

-- ---- V and C

-- a number has no blank
digit_free : (b : ℕ) → T (digit b) → is " " b ≡ false
unfolding digit is
digit_free b t = ne_eqb b 32 (λ e. no e (leb-true 48 b (to_true (and_l (leb 48 b) (leb b 57) t))))
  where
    no : b ≡ 32 → 48 ≤ b → ⊥
    no e h = omega arith

digits_free : (t : Bytes) → T (all digit t) → Free (is " ") t
unfolding all
digits_free [] h = tt
digits_free (b ∷ t) h = (digit_free b (and_l (digit b) (all digit t) h), digits_free t (and_r (digit b) (all digit t) h))

when_some : (x : Bool) (m n : ℕ) → cond x (some m) none ≡ some n → T x
when_some true m n e = tt
when_some false m n e = absurd (let z : ◌≡◌ {A = ℕ} 0 1 = cc in omega arith)

natural_free : (t : Bytes) (n : ℕ) → natural t ≡ some n → Free (is " ") t
unfolding natural
natural_free [] n e = tt
natural_free (b ∷ []) n e = (digit_free b (when_some (digit b) _ n e), tt)
natural_free (b ∷ c ∷ t) n e =
    let h = when_some (digit b && not (is "0" b) && all digit (c ∷ t)) _ n e in
    (digit_free b (and_l (digit b) (not (is "0" b)) (and_l (digit b && not (is "0" b)) (all digit (c ∷ t)) h)), digits_free (c ∷ t) (and_r (digit b && not (is "0" b)) (all digit (c ∷ t)) h))

-- a line of one field has no blank
abbrev later : Bytes × List Bytes → List Bytes
later p = p.1

single_free : (t : Bytes) → (fields_from t).1 ≡ [] → Free (is " ") t
unfolding fields_from
single_free [] e = tt
single_free (b ∷ t) e = go (is " " b) refl (single_free t) e
  where
    go : (x : Bool) → is " " b ≡ x → ((fields_from t).1 ≡ [] → Free (is " ") t) → later (cond x ([], (fields_from t).0 ∷ (fields_from t).1) (b ∷ (fields_from t).0, (fields_from t).1)) ≡ [] → (is " " b ≡ false) × Free (is " ") t
    go true q ih h = absurd (let z : ◌≡◌ {A = ℕ} 0 1 = cc in omega arith)
    go false q ih h = (q, ih h)

fields_later : (t : Bytes) → Free (is " ") t → (fields_from t).1 ≡ []
unfolding fields
fields_later t f = ap rest (only_field t f)
  where
    rest : List Bytes → List Bytes
    rest [] = []
    rest (x ∷ xs) = xs

spaced_none : (t x : Bytes) (xs : List Bytes) → (fields_from t).1 ≡ x ∷ xs → natural t ≡ none
spaced_none t x xs e = go (natural t) refl
  where
    go : (o : Option ℕ) → natural t ≡ o → o ≡ none
    go none q = refl
    go (some n) q = let k = sym (fields_later t (natural_free t n q)) ∙ e in absurd (let z : ◌≡◌ {A = ℕ} 0 1 = cc in omega arith)

abbrev header : ℕ → ℕ → Bytes → Header
header v c t = record { variables = v; clauses = c; after = words t }

-- the definition's words for what two numbers give
abbrev counts_checked : Limits → Option ℕ → Option ℕ → Bytes → Checked Header
counts_checked most a b t = or_fault a 1 >>= λ v. or_fault b 1 >>= λ c. refuse_if (ltb most.variables v || ltb most.clauses c) 2 (value (header v c t))

counts_none : (most : Limits) (o : Option ℕ) (after : Bytes) → read_counts most o none after ≡ fault 1
counts_none most none after = refl
counts_none most (some v) after = refl

abbrev cnf : Bytes
cnf = 99 ∷ 110 ∷ 102 ∷ []

fields_marker : (u : Bytes) → fields (marker ++ u) ≡ (112 ∷ []) ∷ cnf ∷ fields u
unfolding is
fields_marker u = first_field (112 ∷ []) (cnf ++ 32 ∷ u) (refl, tt) ∙ ap (λ (ws : List Bytes). (112 ∷ []) ∷ ws) (first_field cnf u (refl, (refl, (refl, tt))))

module _ (most : Limits) (after : Bytes) where
  one_field : (u : Bytes) → Free (is " ") u → read_header_fields most (fields (marker ++ u)) after ≡ fault 1
  unfolding read_header_fields refuse_if
  one_field u f = rw (fields_marker u, only_field u f) refl

  counts_fields : (u w : Bytes) → read_header_fields most ((112 ∷ []) ∷ cnf ∷ u ∷ w ∷ []) after ≡ read_counts most (natural u) (natural w) after
  unfolding read_header_fields refuse_if or_fault ◌>>=◌ bytes same_bytes
  counts_fields u w = go (natural u) (natural w)
    where
      go : (a b : Option ℕ) → counts_checked most a b after ≡ read_counts most a b after
      go none b = refl
      go (some v) none = refl
      go (some v) (some c) = refl

  many_fields : (u w x : Bytes) (xs : List Bytes) → read_header_fields most ((112 ∷ []) ∷ cnf ∷ u ∷ w ∷ x ∷ xs) after ≡ fault 1
  unfolding read_header_fields refuse_if
  many_fields u w x xs = rw (ne_eqb (length {A = Bytes} ((112 ∷ []) ∷ cnf ∷ u ∷ w ∷ x ∷ xs)) 4 (λ e. no e)) refl
    where
      no : suc (suc (suc (suc (suc (length xs))))) ≡ 4 → ⊥
      no e = omega arith

  two_fields : (u w : Bytes) → Free (is " ") u → read_header_fields most (fields (marker ++ (u ++ 32 ∷ w))) after ≡ read_counts most (natural u) (natural w) after
  unfolding fields
  two_fields u w f = rw (fields_marker (u ++ 32 ∷ w), first_field u w f) (go (fields_from w).1 refl)
    where
      go : (ws : List Bytes) → (fields_from w).1 ≡ ws → read_header_fields most ((112 ∷ []) ∷ cnf ∷ u ∷ fields w) after ≡ read_counts most (natural u) (natural w) after
      go [] e = rw (only_field w (single_free w e)) (counts_fields u w)
      go (x ∷ xs) e = rw (spaced_none w x xs e, e) (many_fields u (fields_from w).0 x xs ∙ sym (counts_none most (natural u) after))

-- ---- what stands before the first blank, and after it

module _ (most : Limits) (after : Bytes) (u : Bytes) where
  abbrev first : ℕ
  first = letters (is " ") u

  pub header_short : first ≡ length u → read_header_fields most (fields (marker ++ u)) after ≡ fault 1
  header_short e = one_field most after u (rw (e, take-length u) at (letters_free (is " ") u))

  -- the blank
  split : first < length u → u ≡ take first u ++ 32 ∷ drop (suc first) u
  unfolding is
  split h =
      let d = drop-cons u first 0 h in
      sym (take-append-drop first u) ∙ ap (λ (r : Bytes). take first u ++ r) (d ∙ ap (λ (b : ℕ). b ∷ drop (suc first) u) (eqb-true (get_or u first 0) 32 (letters_stop (is " ") u d)))

  pub header_counts : first < length u → read_header_fields most (fields (marker ++ u)) after ≡ read_counts most (natural (take first u)) (natural (drop (suc first) u)) after
  header_counts h = ap (λ (r : Bytes). read_header_fields most (fields (marker ++ r)) after) (split h) ∙ two_fields most after (take first u) (drop (suc first) u) (letters_free (is " ") u)

-- what follows the header only goes into its words
pub fields_after : (most : Limits) (f : List Bytes) (after : Bytes) → read_header_fields most f after ≡ (read_header_fields most f [] >>= λ h. value (header h.variables h.clauses after))
unfolding read_header_fields refuse_if or_fault ◌>>=◌
fields_after most f after = go (not (header_fields f)) (natural (get_or f 2 [])) (natural (get_or f 3 []))
  where
    some_counts : (x : Bool) (v c : ℕ) → refuse_if x 2 (value (header v c after)) ≡ (refuse_if x 2 (value (header v c [])) >>= λ h. value (header h.variables h.clauses after))
    some_counts true v c = refl
    some_counts false v c = refl

    go : (x : Bool) (a b : Option ℕ) →
        refuse_if x 1 (counts_checked most a b after) ≡ (refuse_if x 1 (counts_checked most a b []) >>= λ h. value (header h.variables h.clauses after))
    go true a b = refl
    go false none b = refl
    go false (some v) none = refl
    go false (some v) (some c) = some_counts (ltb most.variables v || ltb most.clauses c) v c
