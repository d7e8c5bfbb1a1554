-- The clauses of a text, one after another, into a store; and the header before them. Assumes nothing.
use mathlib.Core.Path.{◌≡◌, refl, sym, ap, ◌∙◌}
use mathlib.Core.List.{List, [], ◌∷◌, ◌++◌}
use Prim.Native.Nat.{ℕ, ◌+◌, ◌-◌, ◌≤◌, ◌<◌, min}
use native.Mathlib.Omega.{arith}
use lib.Dec.{ltb}
use lib.IntN.{ℤ}
use lib.ListN.{length, take, drop, replicate, length-append, length-drop}
use lib.Seq.{sets, drop-drop}
use borrow.Author.Tests.{lt-ltb, le-ltb}
use Rattle.definition.specs.Lists.{for_each, sum_of}
use Rattle.definition.specs.Checked.{Checked, fault, value, ◌>>=◌, refuse_if}
use Rattle.definition.specs.Literals.{Clause, Formula, literals_of}
use Rattle.definition.specs.Text.{Bytes, blank, words_by, words}
use Rattle.definition.specs.Reading.{Limits, Input, as_read, kept_of, read_clauses, read_header, read_formula}
use Rattle.definition.specs.Calls.{numbers_of}
use Rattle.theory_base.proofs.Clauses.{literals-++, numbers-++}
use Rattle.theory_base.proofs.Outcomes.{fault_value, value_same}
use Rattle.theory_base.proofs.Parts.{sets_capped}
use Rattle.theory_base.proofs.Slices.{sets_then}
use Rattle.theory_text.proofs.Accepted.{HeaderFew, header_few, kept_opposed, kept_proper}
use Rattle.theory_text.proofs.Runs.{words_blank}
use Rattle.tables.specs.Stamps.{AtMost}
use Rattle.tables.proofs.Laws.{zeros_at_most}
use Rattle.std.proofs.Common.{true, false, Option as Optional, Some, None}
use Rattle.std.specs.Option.{is_some}
use Rattle.theory_base.proofs.Tests.{differ}
use Rattle.text.specs.Words.{word_at}
use Rattle.text.specs.declared.Word.{Word}
use Rattle.text.proofs.Words.{word_answer}
use Rattle.refusals.specs.Outcomes.{showing}
use Rattle.dimacs.specs.declared.ClauseRead.{ClauseRead}
use Rattle.dimacs.specs.declared.ClauseReader.{ClauseReader}
use Rattle.dimacs.specs.declared.Counts.{Counts}
use Rattle.dimacs.specs.declared.Limits as Code
use Rattle.dimacs.specs.Limits.{limits_of}
use Rattle.dimacs.specs.Entries.{entries}
use Rattle.dimacs.specs.Clause.{ClauseIsRead, finished, first_clause, Kept, LeftOut, KeptRead, first_kept, Read}
use Rattle.dimacs.specs.Outcome.{header_of, summary, Filled}
use Rattle.dimacs.proofs.Entries.{entries_one, entries_numbers, entries-++}
use Rattle.dimacs.proofs.Clauses.{read_rest, by_clause, rest_none, rest_some}

-- ---- the answers

module _ {o : Checked Input} (old new : List ℤ) where
  pub read_refused : {n : ℕ} → o ≡ fault n → (fault n ≡ showing summary o) × Filled o old new
  read_refused {n} e = (sym (ap (showing summary) e), λ i q. fault_value n i (sym e ∙ q))

  read_accepted : {i : Input} → o ≡ value i → new ≡ sets old 0 (entries i.formula) → (value (summary i) ≡ showing summary o) × Filled o old new
  read_accepted {i} e s = (sym (ap (showing summary) e), λ j q. s ∙ ap (λ (k : Input). sets old 0 (entries k.formula)) (value_same i j (sym e ∙ q)))

numbers_is : (f : Formula) → numbers_of f ≡ literals_of f + length f
unfolding numbers_of
numbers_is f = refl

-- ---- the clauses

-- what is kept of a clause, by how its reading ended
module _ (t : Bytes) (v room : ℕ) where
  abbrev kept_here : Checked KeptRead
  kept_here = first_kept v room [] (words t)

  abbrev clause_here : Checked ClauseIsRead
  clause_here = first_clause v [] (words t)

  by_kept : {c : Clause} {ws : List Bytes} {f : Formula} → clause_here ≡ finished c ws → kept_of c ≡ f → kept_here ≡ refuse_if (ltb room (literals_of f)) 9 (value (record { kept = f; after = ws }))
  unfolding first_kept ◌>>=◌
  by_kept e k = rw (e, k) refl

  pub kept_fault : {n : ℕ} → clause_here ≡ fault n → kept_here ≡ fault n
  unfolding first_kept ◌>>=◌
  kept_fault e = rw e refl

  module _ {r : ClauseReader} {stamp next : ℕ} where
    pub kept_nothing : LeftOut t clause_here r stamp next → (old : List ℤ) → Read t kept_here room old old r stamp (record { next = next; literals = 0; filled = 0 })
    unfolding literals_of numbers_of sum_of entries for_each refuse_if
    kept_nothing e old =
        record {
          kept = [];
          is = by_kept e.is (kept_opposed e.clause e.tautology) ∙ rw (le-ltb room 0 (omega arith)) refl;
          one = omega arith;
          literals = refl;
          numbers = refl;
          within = e.within;
          few = omega arith;
          stored = refl;
          below = e.below;
        }

    module _ {n : ℕ} (told : Kept t clause_here r stamp v next n) where
      one_literals : literals_of (told.clause ∷ []) ≡ n
      unfolding literals_of sum_of
      one_literals = omega (arith, told.size)

      by_size : kept_here ≡ refuse_if (ltb room n) 9 (value (record { kept = told.clause ∷ []; after = words (drop next t) }))
      by_size = by_kept told.is (kept_proper told.clause told.proper) ∙ ap (λ (k : ℕ). refuse_if (ltb room k) 9 (value (record { kept = told.clause ∷ []; after = words (drop next t) }))) one_literals

      pub kept_full : room < n → kept_here ≡ fault 9
      unfolding refuse_if
      kept_full h = by_size ∙ rw (lt-ltb room n h) refl

      pub kept_stored : n ≤ room → {old new : List ℤ} → new ≡ sets old 0 (take (n + 1) r.held) → Read t kept_here room old new r stamp (record { next = next; literals = n; filled = n + 1 })
      unfolding numbers_of refuse_if
      kept_stored h {old} {new} z =
          record {
            kept = told.clause ∷ [];
            is = by_size ∙ rw (le-ltb room n h) refl;
            one = omega arith;
            literals = sym one_literals;
            numbers = omega (arith, one_literals);
            within = told.within;
            few = h;
            stored = z ∙ ap (sets old 0) (told.entered ∙ sym (entries_one told.clause));
            below = told.below;
          }

-- a next word, or none
module _ (t : Bytes) (at : ℕ) where
  no_word : (x : Optional Word) → x ≡ word_at blank t at → false ≡ is_some x → words_by blank (drop at t) ≡ []
  no_word None q h = word_answer blank t at q
  no_word (Some w) q h = absurd (differ {b = true} tt (sym h))

  a_word : (x : Optional Word) → x ≡ word_at blank t at → true ≡ is_some x → (w : Bytes) × (ws : List Bytes) × (words_by blank (drop at t) ≡ w ∷ ws)
  a_word None q h = absurd (differ {b = true} tt h)
  a_word (Some w) q h = (_, _, (word_answer blank t at q).words)

-- the clauses kept so far fill the store up to end, and the rest of the words gives the whole
pub record Reading (most : Limits) (c : Counts) (text : Bytes) (old : List ℤ) (r : ClauseReader) (store : List ℤ) (at done total end : ℕ) : Type 0 where
  pub read : Formula
  pub inside : at ≤ length text
  pub few : done ≤ c.clauses
  pub fewer : length read ≤ done
  pub literals : total ≡ literals_of read
  pub low : total ≤ most.literals
  pub filled : end ≡ numbers_of read
  pub below : AtMost r.seen done
  pub stored : store ≡ sets old 0 (entries read)
  pub same : read_rest most c.variables c.clauses done read [] (words (drop at text)) ≡ read_clauses most (header_of c text)

pub reading_start : (most : Limits) (c : Counts) (text : Bytes) (old held : List ℤ) (n : ℕ) → Reading most c text old (record { seen = replicate n 0; held = held }) old 0 0 0 0
unfolding read_rest read_clauses literals_of numbers_of sum_of entries for_each
reading_start most c text old held n = record {
  read = [];
  inside = omega arith;
  few = omega arith;
  fewer = omega arith;
  literals = refl;
  low = omega arith;
  filled = refl;
  below = zeros_at_most n 0;
  stored = refl;
  same = refl;
}

module _ {most : Limits} {c : Counts} {text : Bytes} {old : List ℤ} {r : ClauseReader} {store : List ℤ} {at done total end : ℕ} (g : Reading most c text old r store at done total end) where
  abbrev whole : Checked Input
  whole = read_clauses most (header_of c text)

  pub reading_filled : end ≤ total + done
  reading_filled = omega (arith, g.filled, g.literals, g.fewer, numbers_is g.read)

  -- all clauses are read
  rest_is : (ws : List Bytes) → words_by blank (drop at text) ≡ ws → read_rest most c.variables c.clauses done g.read [] ws ≡ whole
  rest_is ws e = ap (read_rest most c.variables c.clauses done g.read []) (sym (words_blank (drop at text) ∙ e)) ∙ g.same

  -- by the next word
  module _ (h : c.clauses ≤ done) {x : Optional Word} (q : x ≡ word_at blank text at) where
    pub reading_end : false ≡ is_some x → (value (record { variables = c.variables; clauses = c.clauses; literals = total; filled = end }) ≡ showing summary whole) × Filled whole old store
    reading_end n =
        let o : whole ≡ value (as_read c.variables c.clauses g.read) = sym (rest_is [] (no_word text at x q n)) ∙ rest_none most c.variables c.clauses done g.read h in
        rw (g.literals, g.filled) (read_accepted old store o g.stored)

    pub reading_more : true ≡ is_some x → (fault 8 ≡ showing summary whole) × Filled whole old store
    reading_more n = let w = a_word text at x q n in read_refused old store (sym (rest_is _ w.2) ∙ rest_some most c.variables c.clauses done g.read h w.0 w.1)

  -- a clause more, read from the rest of the text into the rest of the store
  module _ (h : done < c.clauses) {rest : Bytes} (s : rest ≡ drop at text) {to : ℕ} (m : to ≡ min end (length store)) where
    abbrev read_on : Checked KeptRead
    read_on = first_kept c.variables (most.literals - total) [] (words rest)

    next : (o : Checked KeptRead) → read_on ≡ o → (o >>= λ d. read_rest most c.variables c.clauses (done + 1) (g.read ++ d.kept) [] d.after) ≡ whole
    next o q =
        ap (λ (x : Checked KeptRead). x >>= λ d. read_rest most c.variables c.clauses (done + 1) (g.read ++ d.kept) [] d.after) (sym q ∙ ap (λ (n : ℕ). first_kept c.variables (most.literals - n) [] (words rest)) g.literals)
        ∙ sym (by_clause most c.variables c.clauses done g.read h (omega (arith, g.low, g.literals)) [] (words rest))
        ∙ ap (λ (u : Bytes). read_rest most c.variables c.clauses done g.read [] (words u)) s
        ∙ g.same

    module _ (after : ClauseReader) (new : List ℤ) where
      abbrev stored_on : List ℤ
      stored_on = take to store ++ (new ++ drop (length store - to) (drop to store))

      pub reading_fault : {n : ℕ} → read_on ≡ fault n → (fault n ≡ showing summary whole) × Filled whole old stored_on
      unfolding ◌>>=◌
      reading_fault {n} q = read_refused old stored_on (sym (next (fault n) q))

      pub reading_on : {a : ClauseRead} → Read rest read_on (most.literals - total) (take (length store - to) (drop to store)) new after (done + 1) a →
          Reading most c text old after stored_on (at + a.next) (done + 1) (total + a.literals) (end + a.filled)
      unfolding ◌>>=◌
      reading_on {a} e =
          let f = e.kept in
          let filled_on : stored_on ≡ sets store end (entries f) = sets_capped (entries f) store new end to m e.stored in
          let z : end ≡ 0 + length (entries g.read) = omega (arith, g.filled, entries_numbers g.read) in
          record {
            read = g.read ++ f;
            inside = omega (arith, e.within, ap length s, length-drop at text);
            few = omega arith;
            fewer = rw (length-append g.read f) (omega (arith, e.one, g.fewer));
            literals = omega (arith, literals-++ g.read f, g.literals, e.literals);
            low = omega (arith, e.few, g.low);
            filled = omega (arith, numbers-++ g.read f, g.filled, e.numbers);
            below = e.below;
            stored =
                filled_on
                ∙ ap (λ (x : List ℤ). sets x end (entries f)) g.stored
                ∙ ap (λ (x : ℕ). sets (sets old 0 (entries g.read)) x (entries f)) z
                ∙ sets_then (entries g.read) (entries f) old 0
                ∙ ap (sets old 0) (sym (entries-++ g.read f));
            same = ap (λ (u : Bytes). read_rest most c.variables c.clauses (done + 1) (g.read ++ f) [] (words u)) (sym (ap (drop a.next) s ∙ drop-drop a.next at text)) ∙ next (value (record { kept = f; after = words (drop a.next rest) })) e.is;
          }

-- ---- after the header

module _ (m : Code.Limits) (t : Bytes) where
  pub header_fault : (old new : List ℤ) {n : ℕ} → read_header (limits_of m) t ≡ fault n → (fault n ≡ showing summary (read_formula (limits_of m) t)) × Filled (read_formula (limits_of m) t) old new
  unfolding read_formula ◌>>=◌
  header_fault old new q = read_refused old new (rw q refl)

  module _ {c : Counts} (next : ℕ) (q : read_header (limits_of m) t ≡ value (header_of c (drop next t))) where
    pub header_within : HeaderFew (limits_of m) (header_of c (drop next t))
    header_within = header_few (limits_of m) t _ q

    pub formula_clauses : {rest : Bytes} → rest ≡ drop next t → read_clauses (limits_of m) (header_of c rest) ≡ read_formula (limits_of m) t
    unfolding read_formula ◌>>=◌
    formula_clauses r = rw (q, r) refl
