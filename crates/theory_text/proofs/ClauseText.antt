-- The words and fields of a clause's line: its literals and `0`.
use mathlib.Core.Path.{◌≡◌, refl, sym}
use mathlib.Core.Bool.{Bool, true, false}
use mathlib.Core.List.Memᴰ.{head as here}
use mathlib.Core.List.Memᴰ.{tail as there}
use mathlib.Core.List.{List, [], ◌∷◌, ◌++◌, append_assoc, append-nil, Memᴰ}
use Prim.Native.Nat.{ℕ, ◌≤◌}
use Prim.Native.Char.{code}
use native.Mathlib.Omega.{arith}
use lib.IntN.{ℤ, pos, neg_ℤ}
use lib.Seq.{append_snoc}
use borrow.Author.Tests.{ne_eqb}
use Rattle.definition.specs.Lists.{for_each}
use Rattle.definition.specs.Checked.{Checked, value, ◌>>=◌, through}
use Rattle.definition.specs.Literals.{Clause}
use Rattle.definition.specs.Text.{Bytes, bytes, is, blank, words_by, words, fields, digits, literal_text}
use Rattle.definition.specs.Log.{clause_text}
use Rattle.definition.specs.Answer.{space_or_tab}
use Rattle.theory_base.specs.Clauses.{Proper, Fit, FitAll}
use Rattle.theory_base.proofs.Clauses.{proper_apart}
use Rattle.theory_text.proofs.Digits.{literal_between, literal_some}
use Rattle.theory_text.proofs.Words.{free-++, between_free, first_word, only_word, first_field, only_field}
use Rattle.theory_text.specs.Words.{Free}
use Rattle.theory_text.specs.ClauseText.{literals_text, clause_line}

-- their words
unfoldable pub literal_words : Clause → List Bytes
literal_words c = for_each c (λ l. literal_text l ∷ [])

unfoldable pub clause_words : Clause → List Bytes
clause_words c = literal_words c ++ (bytes "0" ∷ [])

pub clause_text_line : (c : Clause) → clause_text c ≡ clause_line c ++ bytes "\n"
unfolding clause_text clause_line literals_text bytes
clause_text_line c = sym (append_assoc (literals_text c) (bytes "0") (bytes "\n"))

-- ---- tests that no byte of a number passes
abbrev pub Outside : (ℕ → Bool) → Type 0
Outside p = (b : ℕ) → 45 ≤ b → b ≤ 57 → p b ≡ false

pub blank_outside : Outside (is " ")
unfolding is
blank_outside b f g = ne_eqb b 32 (λ e. omega arith)

pub newline_outside : Outside (is "\n")
unfolding is
newline_outside b f g = ne_eqb b 10 (λ e. omega arith)

pub return_outside : Outside (is "\r")
unfolding is
return_outside b f g = ne_eqb b 13 (λ e. omega arith)

pub space_or_tab_outside : Outside space_or_tab
unfolding space_or_tab is
space_or_tab_outside b f g = rw (ne_eqb b 32 (λ e. omega arith), ne_eqb b 9 (λ e. omega arith))

blanks_outside : Outside blank
unfolding blank is
blanks_outside b f g = rw (ne_eqb b 32 (λ e. omega arith), ne_eqb b 9 (λ e. omega arith), ne_eqb b 13 (λ e. omega arith), ne_eqb b 10 (λ e. omega arith))

literal_free : (p : ℕ → Bool) → Outside p → (l : ℤ) → Free p (literal_text l)
literal_free p h l = between_free p 45 57 h (literal_text l) (literal_between l)

pub digits_free : (p : ℕ → Bool) → Outside p → (n : ℕ) → Free p (digits n)
unfolding literal_text
digits_free p h n = literal_free p h (pos n)

zero_free : (p : ℕ → Bool) → Outside p → Free p (bytes "0")
unfolding bytes
zero_free p h = (h 48 (omega arith) (omega arith), tt)

-- the literals of a clause, parted from the text after them
split_literals : (split : Bytes → List Bytes) → ((l : ℤ) (t : Bytes) → split (literal_text l ++ code " " ∷ t) ≡ literal_text l ∷ split t) → (c : Clause) (t : Bytes) → split (literals_text c ++ t) ≡ literal_words c ++ split t
unfolding literals_text literal_words for_each bytes
split_literals split h [] t = refl
split_literals split h (l ∷ c) t =
    rw (append_assoc (literal_text l ++ (32 ∷ [])) (literals_text c) t, append_assoc (literal_text l) (32 ∷ []) (literals_text c ++ t), h l (literals_text c ++ t))
    (rw (split_literals split h c t))

module _ (separates : ℕ → Bool) (at_blank : separates (code " ") ≡ true) (outside : Outside separates) where
  words_literals : (c : Clause) (t : Bytes) → words_by separates (literals_text c ++ t) ≡ literal_words c ++ words_by separates t
  words_literals =
      split_literals (words_by separates) (λ l t. first_word separates (literal_text l) (code " ") t (literal_free separates outside l) (literal_some l) at_blank)

  pub words_clause_line : (c : Clause) → words_by separates (clause_line c) ≡ clause_words c
  unfolding clause_line clause_words bytes
  words_clause_line c = rw (words_literals c (48 ∷ []), only_word separates (48 ∷ []) (zero_free separates outside) (omega arith))

pub words_clause_text : (c : Clause) (t : Bytes) → words (clause_text c ++ t) ≡ clause_words c ++ words t
unfolding words clause_text literals_text clause_words bytes blank is
words_clause_text c t =
    rw (append_assoc (literals_text c) (48 ∷ 10 ∷ []) t, words_literals blank refl blanks_outside c (48 ∷ 10 ∷ t), first_word blank (48 ∷ []) 10 t (zero_free blank blanks_outside) (omega arith) refl)
    (sym (append_snoc (literal_words c) (48 ∷ []) (words_by blank t)))

pub fields_clause_line : (c : Clause) → fields (clause_line c) ≡ clause_words c
unfolding clause_line clause_words
fields_clause_line c =
    rw (split_literals fields (λ l t. first_field (literal_text l) t (literal_free (is " ") blank_outside l)) c (bytes "0"), only_field (bytes "0") (zero_free (is " ") blank_outside))

-- what is no blank and no byte of a number is not in a clause's line
module _ (p : ℕ → Bool) (outside : Outside p) (at_blank : p (code " ") ≡ false) where
  literals_text_free : (c : Clause) → Free p (literals_text c)
  unfolding literals_text for_each bytes
  literals_text_free [] = tt
  literals_text_free (l ∷ c) =
      free-++ p (literal_text l ++ (32 ∷ [])) (literals_text c)
      (free-++ p (literal_text l) (32 ∷ []) (literal_free p outside l) (at_blank, tt))
      (literals_text_free c)

  pub clause_line_free : (c : Clause) → Free p (clause_line c)
  unfolding clause_line
  clause_line_free c = free-++ p (literals_text c) (bytes "0") (literals_text_free c) (zero_free p outside)

-- ---- steps through the words of a clause's literals: none is 0, repeated or opposed, or has a variable above v
pub literals_through : {S : Type 0} (step : S → Bytes → Checked S) (state : Clause → S) (v : ℕ) →
    ((a : Clause) (l : ℤ) → Fit v l → (Memᴰ l a → ⊥) → (Memᴰ (neg_ℤ l) a → ⊥) → step (state a) (literal_text l) ≡ value (state (a ++ (l ∷ [])))) →
    (a c : Clause) → Proper (a ++ c) → FitAll v c → through step (state a) (literal_words c) ≡ value (state (a ++ c))
unfolding through literal_words for_each ◌>>=◌
literals_through step state v one a [] p f = rw (append-nil a)
literals_through step state v one a (l ∷ c) p f =
    let r = proper_apart a l c p in
    let e = append_snoc a l c in
    rw (one a l (f l (here refl)) r.0 r.1)
    (rw e at (literals_through step state v one (a ++ (l ∷ [])) c (rw e p) (λ x i. f x (there i))))
