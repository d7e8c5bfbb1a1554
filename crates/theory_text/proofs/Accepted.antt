-- A formula that is read keeps the limits; its clauses are proper and have no variable above V.
use mathlib.Core.Path.{◌≡◌, refl, sym, ap, ◌∙◌, subst}
use mathlib.Core.Logic.{◌≢◌}
use mathlib.Core.Bool.{Bool, true, false, ◌||◌, cond}
use mathlib.Core.List.Memᴰ
use mathlib.Core.List.{List, [], ◌∷◌, ◌++◌, append-nil, Memᴰ}
use Prim.Native.Nat.{ℕ, suc, ◌≤◌, ◌<◌}
use native.Mathlib.Omega.{arith}
use lib.Dec.{leb, ltb, eqb}
use lib.IntN.{ℤ, pos, nat_abs}
use lib.ListN.{length, get_or, drop, length-append}
use borrow.Author.Tests.{ltb-false, leb-false, eqb-false}
use Rattle.definition.specs.Lists.{sum_of}
use Rattle.definition.specs.Checked.{value, or_fault, through}
use Rattle.definition.specs.Literals.{Clause, Formula, opposed, repeated, literals_of}
use Rattle.definition.specs.Text.{Bytes, TextLine, number, natural, fields, line_text, past_comments, text_lines}
use Rattle.definition.specs.Reading.{Limits, Input, as_read, Header, Reader, nothing_read, read_header_fields, read_header_line, read_header, kept_of, read_literal, end_clause, read_word, end_text, read_clauses, read_formula, input_limits}
use Rattle.theory_base.proofs.Tests.{or_false_both}
use Rattle.theory_base.specs.Clauses.{Proper, ProperAll, Fit, FitAll, Fits}
use Rattle.theory_base.proofs.Clauses.{members_snoc, members_with, none_repeated, unrepeated_with, proper_not_opposed, tests_proper}
use Rattle.theory_base.proofs.Outcomes.{fault_value, value_same, refuse_value, bind_value, through_keeps}
use Rattle.theory_text.specs.Accepted.{Accepted}
use Rattle.definition.specs.Calls.{read_input}

-- ---- what is kept of a clause
pub kept_opposed : (c : Clause) → opposed c ≡ true → kept_of c ≡ []
unfolding kept_of
kept_opposed c e = rw e refl

pub kept_proper : (c : Clause) → Proper c → kept_of c ≡ c ∷ []
unfolding kept_of
kept_proper c p = rw (proper_not_opposed c p) refl

kept_length : (c : Clause) → length (kept_of c) ≤ 1
unfolding kept_of
kept_length c = go (opposed c)
  where
    go : (b : Bool) → length (cond b [] (c ∷ [])) ≤ 1
    go true = omega arith
    go false = omega arith

-- a property of the clauses of f, and of c unless it is left out
kept_members : (P : Clause → Type 0) (f : Formula) (c : Clause) → ((d : Clause) → Memᴰ d f → P d) → (opposed c ≡ false → P c) → (d : Clause) → Memᴰ d (f ++ kept_of c) → P d
unfolding kept_of
kept_members P f c h p = go (opposed c) refl
  where
    go : (b : Bool) → opposed c ≡ b → (d : Clause) → Memᴰ d (f ++ cond b [] (c ∷ [])) → P d
    go true e = rw (append-nil f) h
    go false e = members_snoc P f c h (p e)

-- ---- between two words
record Reads (most : Limits) (v c : ℕ) (r : Reader) : Type 0 where
  clauses_few : r.count ≤ c
  kept_few : length r.done ≤ r.count
  literals_few : literals_of r.done ≤ most.literals
  fits : Fits v r.done
  proper : ProperAll r.done
  here_fits : FitAll v r.here
  here_unrepeated : repeated r.here ≡ false

module _ (most : Limits) (v c : ℕ) where
  reads_literal : (r : Reader) (l : ℤ) (s : Reader) → l ≢ pos 0 → Reads most v c r → read_literal v r l ≡ value s → Reads most v c s
  unfolding read_literal
  reads_literal r l s z p e =
      let e4 = refuse_value (ltb v (nat_abs l)) 4 _ s e in
      subst (Reads most v c) (value_same _ s e4.1) (record {
        clauses_few = p.clauses_few;
        kept_few = p.kept_few;
        literals_few = p.literals_few;
        fits = p.fits;
        proper = p.proper;
        here_fits = members_with (Fit v) l r.here p.here_fits (z, ltb-false v (nat_abs l) e4.0);
        here_unrepeated = unrepeated_with l r.here p.here_unrepeated;
      })

  reads_end : (r s : Reader) → r.count < c → Reads most v c r → end_clause most r ≡ value s → Reads most v c s
  unfolding end_clause
  reads_end r s h p e =
      let done = r.done ++ kept_of r.here in
      let e9 = refuse_value (ltb most.literals (literals_of done)) 9 _ s e in
      subst (Reads most v c) (value_same _ s e9.1) (record {
        clauses_few = omega arith;
        kept_few = rw (length-append r.done (kept_of r.here)) (omega (arith, kept_length r.here, p.kept_few));
        literals_few = ltb-false most.literals (literals_of done) e9.0;
        fits = kept_members (FitAll v) r.done r.here p.fits (λ _. p.here_fits);
        proper = kept_members Proper r.done r.here p.proper (λ o. tests_proper r.here p.here_unrepeated o (λ x i. (p.here_fits x i).0));
        here_fits = λ x i. absurd (Memᴰ.not-nil i);
        here_unrepeated = none_repeated;
      })

  reads_word : (r : Reader) (w : Bytes) (s : Reader) → Reads most v c r → read_word most v c r w ≡ value s → Reads most v c s
  unfolding read_word
  reads_word r w s p e =
      let room = refuse_value (leb c r.count) 8 _ s e in
      let read = bind_value (or_fault (number w) 3) (λ n. cond (eqb 0 (nat_abs n)) (end_clause most r) (read_literal v r n)) s room.1 in
      go read.0 (leb-false c r.count room.0) (eqb 0 (nat_abs read.0)) refl read.2
    where
      go : (n : ℤ) → r.count < c → (b : Bool) → eqb 0 (nat_abs n) ≡ b → cond b (end_clause most r) (read_literal v r n) ≡ value s → Reads most v c s
      go n h true q f = reads_end r s h p f
      go n h false q f = reads_literal r n s (λ z. eqb-false 0 (nat_abs n) q (ap nat_abs (sym z))) p f

  reads_start : Reads most v c nothing_read
  unfolding literals_of sum_of
  reads_start = record {
    clauses_few = omega arith;
    kept_few = omega arith;
    literals_few = omega arith;
    fits = λ d i. absurd (Memᴰ.not-nil i);
    proper = λ d i. absurd (Memᴰ.not-nil i);
    here_fits = λ x i. absurd (Memᴰ.not-nil i);
    here_unrepeated = none_repeated;
  }

-- V and C within the limits
abbrev pub HeaderFew : Limits → Header → Type 0
HeaderFew most h = (h.variables ≤ most.variables) × (h.clauses ≤ most.clauses)

fields_few : (most : Limits) (f : List Bytes) (after : Bytes) (h : Header) → read_header_fields most f after ≡ value h → HeaderFew most h
unfolding read_header_fields
fields_few most f after h e =
    let e1 = refuse_value _ 1 _ h e in
    let ev = bind_value (or_fault (natural (get_or f 2 [])) 1) _ h e1.1 in
    let ec = bind_value (or_fault (natural (get_or f 3 [])) 1) _ h ev.2 in
    let e2 = refuse_value (ltb most.variables ev.0 || ltb most.clauses ec.0) 2 _ h ec.2 in
    subst (HeaderFew most) (value_same _ h e2.1) (few ev.0 ec.0 e2.0)
  where
    few : (v c : ℕ) → (ltb most.variables v || ltb most.clauses c) ≡ false → (v ≤ most.variables) × (c ≤ most.clauses)
    few v c q =
        let n = or_false_both (ltb most.variables v) (ltb most.clauses c) q in
        (ltb-false most.variables v n.0, ltb-false most.clauses c n.1)

line_few : (most : Limits) (ls : List TextLine) (t : Bytes) (h : Header) → read_header_line most ls t ≡ value h → HeaderFew most h
unfolding read_header_line
line_few most [] t h e = fault_value 1 h e
line_few most (l ∷ ls) t h e = fields_few most (fields (line_text l)) (drop (suc (length l.text)) t) h e

pub header_few : (most : Limits) (t : Bytes) (h : Header) → read_header most t ≡ value h → HeaderFew most h
unfolding read_header
header_few most t h e = let u = past_comments false t in line_few most (text_lines u) u h e

end_text_done : (c : ℕ) (r : Reader) (f : Formula) → end_text c r ≡ value f → r.done ≡ f
unfolding end_text
end_text_done c r f e =
    let e7 = refuse_value (ltb 0 (length r.here)) 7 _ f e in
    let e8 = refuse_value (ltb r.count c) 8 _ f e7.1 in
    value_same r.done f e8.1

clauses_accepted : (most : Limits) (h : Header) (i : Input) → HeaderFew most h → read_clauses most h ≡ value i → Accepted most i
unfolding read_clauses
clauses_accepted most h i few e =
    let v = h.variables in
    let c = h.clauses in
    let er = bind_value (through (read_word most v c) nothing_read h.after) _ i e in
    let ef = bind_value (end_text c er.0) _ i er.2 in
    let p = through_keeps (read_word most v c) (Reads most v c) (reads_word most v c) nothing_read h.after er.0 (reads_start most v c) er.1 in
    rw (value_same _ i ef.2) at (of v c er.0 ef.0 few p (end_text_done c er.0 ef.0 ef.1))
  where
    of : (v c : ℕ) (r : Reader) (f : Formula) → (v ≤ most.variables) × (c ≤ most.clauses) → Reads most v c r → r.done ≡ f → Accepted most (as_read v c f)
    of v c r f few p q = subst (λ (g : Formula). Accepted most (as_read v c g)) q (record {
      variables_few = omega arith;
      highest_few = few.0;
      clauses_few = few.1;
      formula_few = omega (arith, p.kept_few, p.clauses_few);
      literals_few = p.literals_few;
      fits = p.fits;
      proper = p.proper;
    })

pub accepted : (most : Limits) (t : Bytes) (i : Input) → read_formula most t ≡ value i → Accepted most i
unfolding read_formula
accepted most t i e =
    let eh = bind_value (read_header most t) (read_clauses most) i e in
    clauses_accepted most eh.0 i (header_few most t eh.0 eh.1) eh.2

-- nothing is joined to the text's clauses: the highest variable is V
pub read_highest : (most : Limits) (t : Bytes) (i : Input) → read_formula most t ≡ value i → i.highest ≡ i.variables
unfolding read_formula read_clauses
read_highest most t i e =
    let h = bind_value (read_header most t) (read_clauses most) i e in
    let r = bind_value (through (read_word most h.0.variables h.0.clauses) nothing_read h.0.after) _ i h.2 in
    let f = bind_value (end_text h.0.clauses r.0) _ i r.2 in
    subst (λ (j : Input). j.highest ≡ j.variables) (value_same (as_read h.0.variables h.0.clauses f.0) i f.2) refl

-- ---- the input of a call
pub input_read : (t : Bytes) → read_input t ≡ read_formula input_limits t
unfolding read_input
input_read t = refl

pub input_accepted : (t : Bytes) (i : Input) → read_input t ≡ value i → Accepted input_limits i
input_accepted t i e = accepted input_limits t i (sym (input_read t) ∙ e)

pub input_highest : (t : Bytes) (i : Input) → read_input t ≡ value i → i.highest ≡ i.variables
input_highest t i e = read_highest input_limits t i (sym (input_read t) ∙ e)
