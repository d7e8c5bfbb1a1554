-- The definition's reading word by word is the reading clause by clause; and the rest of a clause that is left out. Assumes nothing.
use mathlib.Core.Path.{◌≡◌, refl, sym, ◌∙◌}
use mathlib.Core.Bool.{Bool, true, false, cond}
use mathlib.Core.List.{List, [], ◌∷◌, ◌++◌}
use mathlib.Core.Option.{Option, some, none}
use Rattle.std.proofs.Common.{Option as Optional, Some, None}
use Prim.Native.Nat.{ℕ, ◌+◌, ◌-◌, ◌≤◌, ◌<◌}
use native.Mathlib.Omega.{arith}
use lib.Dec.{eqb, ltb}
use lib.IntN.{ℤ, nat_abs}
use lib.ListN.{length}
use borrow.Author.Tests.{le-leb, lt-leb, lt-ltb, le-ltb, ltb-true, ltb-false}
use Rattle.definition.specs.Lists.{any}
use Rattle.definition.specs.Checked.{Checked, fault, value, ◌>>=◌, refuse_if, or_fault, through}
use Rattle.definition.specs.Literals.{Clause, Formula, with_literal, opposes, opposed, literals_of}
use Rattle.definition.specs.Text.{Bytes, number}
use Rattle.definition.specs.Reading.{Limits, Input, as_read, Reader, kept_of, read_literal, end_clause, read_word, end_text}
use Rattle.theory_base.proofs.Tests.{by_test}
use Rattle.theory_base.proofs.Clauses.{literals-++, opposed_with}
use Rattle.dimacs.specs.Clause.{number_item, ClauseIsRead, finished, ended, clause_by, first_clause, past_by, past_clause, KeptRead, kept_within, first_kept}

abbrev reader : ℕ → Formula → Clause → Reader
reader count done here = record { count = count; done = done; here = here }

-- the literals before leave so much room
room_test : (most : ℕ) (done kept : Formula) → literals_of done ≤ most → ltb most (literals_of (done ++ kept)) ≡ ltb (most - literals_of done) (literals_of kept)
room_test most done kept low =
    let n = literals_of done in
    let m = literals_of kept in
    by_test (ltb (most - n) m)
    (λ e. lt-ltb most (literals_of (done ++ kept)) (omega (arith, literals-++ done kept, ltb-true (most - n) m e)) ∙ sym e)
    (λ e. le-ltb most (literals_of (done ++ kept)) (omega (arith, literals-++ done kept, ltb-false (most - n) m e)) ∙ sym e)

module _ (most : Limits) (v c : ℕ) where
  -- the outcome, from a reader over the rest of the words
  unfoldable pub read_rest : ℕ → Formula → Clause → List Bytes → Checked Input
  read_rest count done here ws = through (read_word most v c) (reader count done here) ws >>= λ r. end_text c r >>= λ f. value (as_read v c f)

  -- all clauses are read
  module _ (count : ℕ) (done : Formula) (h : c ≤ count) where
    pub rest_none : read_rest count done [] [] ≡ value (as_read v c done)
    unfolding read_rest through ◌>>=◌ end_text refuse_if
    rest_none = rw (le-ltb count c h) refl

    pub rest_some : (w : Bytes) (ws : List Bytes) → read_rest count done [] (w ∷ ws) ≡ fault 8
    unfolding read_rest through read_word refuse_if ◌>>=◌
    rest_some w ws = rw (le-leb c count h) refl

  module _ (count : ℕ) (done : Formula) (h : count < c) (low : literals_of done ≤ most.literals) where
    abbrev room : ℕ
    room = most.literals - literals_of done

    -- the reader after a word
    abbrev after_item : Clause → Checked (Optional ℤ) → Checked Reader
    after_item here (fault n) = fault n
    after_item here (value None) = end_clause most (reader count done here)
    after_item here (value (Some l)) = value (reader count done (with_literal l here))

    word_step : (here : Clause) (w : Bytes) → read_word most v c (reader count done here) w ≡ after_item here (number_item v (number w))
    unfolding read_word refuse_if or_fault ◌>>=◌ read_literal
    word_step here w = rw (lt-leb c count h) (step (number w))
      where
        literal : (l : ℤ) (z a : Bool) → cond z (end_clause most (reader count done here)) (refuse_if a 4 (value (reader count done (with_literal l here)))) ≡ after_item here (cond z (value None) (cond a (fault 4) (value (Some l))))
        literal l true a = refl
        literal l false true = refl
        literal l false false = refl

        step : (o : Option ℤ) → (or_fault o 3 >>= λ n. cond (eqb 0 (nat_abs n)) (end_clause most (reader count done here)) (read_literal v (reader count done here) n)) ≡ after_item here (number_item v o)
        step none = refl
        step (some l) = literal l (eqb 0 (nat_abs l)) (ltb v (nat_abs l))

    -- the outcome after what is kept of the next clause
    abbrev on : Checked KeptRead → Checked Input
    on o = o >>= λ k. read_rest (count + 1) (done ++ k.kept) [] k.after

    closed : (here : Clause) (ws : List Bytes) → ((end_clause most (reader count done here) >>= λ t. through (read_word most v c) t ws) >>= λ r. end_text c r >>= λ f. value (as_read v c f)) ≡ on (kept_within room (record { clause = here; after = ws }))
    unfolding end_clause read_rest ◌>>=◌ refuse_if
    closed here ws = rw (room_test most.literals done (kept_of here) low) (by (ltb room (literals_of (kept_of here))))
      where
        by : (b : Bool) → ((refuse_if b 9 (value (reader (count + 1) (done ++ kept_of here) [])) >>= λ t. through (read_word most v c) t ws) >>= λ r. end_text c r >>= λ f. value (as_read v c f)) ≡ on (refuse_if b 9 (value (record { kept = kept_of here; after = ws })))
        by true = refl
        by false = refl

    pub by_clause : (here : Clause) (ws : List Bytes) → read_rest count done here ws ≡ on (first_kept v room here ws)
    unfolding read_rest through first_kept first_clause ◌>>=◌ end_text refuse_if
    by_clause [] [] = rw (lt-ltb count c h) refl
    by_clause (l ∷ here) [] = rw (lt-ltb 0 (length (l ∷ here)) (omega arith)) refl
    by_clause here (w ∷ ws) = rw (word_step here w) (go (number_item v (number w)) (λ d. by_clause d ws))
      where
        go : (i : Checked (Optional ℤ)) → ((d : Clause) → read_rest count done d ws ≡ on (first_kept v room d ws))
            → ((after_item here i >>= λ t. through (read_word most v c) t ws) >>= λ r. end_text c r >>= λ f. value (as_read v c f)) ≡ on (clause_by here ws (λ d. first_clause v d ws) i >>= kept_within room)
        go (fault n) ih = refl
        go (value None) ih = closed here ws
        go (value (Some l)) ih = ih (with_literal l here)

-- ---- a clause that is left out

-- a clause with a literal and its negation, whatever follows in it
pub record Tautology (o : Checked ClauseIsRead) (ws : List Bytes) : Type 0 where
  pub clause : Clause
  pub is : o ≡ finished clause ws
  pub opposes : opposed clause ≡ true

-- the clause goes on as its rest does
abbrev pub RestOf : Checked ClauseIsRead → Checked (List Bytes) → Type 0
RestOf o (fault n) = o ≡ fault n
RestOf o (value ws) = Tautology o ws

opposed_ended : (c : Clause) → opposed c ≡ true → ended (length c) ≡ 7
unfolding opposed opposes any
opposed_ended [] e = cc
opposed_ended (l ∷ c) e = refl

pub opposed_rest : (v : ℕ) (here : Clause) (ws : List Bytes) → opposed here ≡ true → RestOf (first_clause v here ws) (past_clause v ws)
unfolding first_clause past_clause
opposed_rest v here [] e = rw (opposed_ended here e) refl
opposed_rest v here (w ∷ ws) e = go (number_item v (number w)) (λ d q. opposed_rest v d ws q)
  where
    go : (i : Checked (Optional ℤ)) → ((d : Clause) → opposed d ≡ true → RestOf (first_clause v d ws) (past_clause v ws)) → RestOf (clause_by here ws (λ d. first_clause v d ws) i) (past_by ws (past_clause v ws) i)
    go (fault n) ih = refl
    go (value None) ih = record { clause = here; is = refl; opposes = e }
    go (value (Some l)) ih = ih (with_literal l here) (opposed_with l here e)
