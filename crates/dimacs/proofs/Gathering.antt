-- Reading a clause: its literals are held as an entry, with marks in a table; or its rest is read over. Assumes nothing.
use mathlib.Core.Path.{◌≡◌, refl, sym, ap, subst, ◌∙◌}
use mathlib.Core.Logic.{◌≢◌}
use mathlib.Core.Bool.{Bool, true, false, cond}
use mathlib.Core.List.Memᴰ
use mathlib.Core.List.{List, [], ◌∷◌, ◌++◌}
use mathlib.Core.Option.{Option, some, none}
use Rattle.std.proofs.Common.{Option as Optional, Some, None}
use Rattle.std.specs.Option.{is_some}
use Prim.Native.Nat.{ℕ, ◌+◌, ◌-◌, ◌≤◌, ◌<◌}
use native.Mathlib.Omega.{arith}
use lib.Dec.{eqb, ltb}
use lib.IntN.{ℤ, pos, neg_ℤ, nat_abs}
use lib.ListN.{length, set, take, drop, length-append}
use lib.Seq.{sets}
use mir.Syntax.{w32}
use mir.Val.{SFits, of_z, to_z}
use borrow.Author.Tests.{ltb-false, eqb-false}
use Rattle.definition.specs.Checked.{Checked, fault, value}
use Rattle.definition.specs.Literals.{Clause, holds, opposed, with_literal}
use Rattle.definition.specs.Text.{Bytes, blank, words, number}
use Rattle.theory_base.specs.Clauses.{Fit, FitAll}
use Rattle.theory_base.proofs.Tests.{of_true, differ}
use Rattle.theory_base.proofs.Members.{holds_mem, mem_holds}
use Rattle.theory_base.proofs.Clauses.{members_with, proper_snoc, opposed_after}
use Rattle.theory_base.proofs.Fitting.{proper_length}
use Rattle.theory_base.proofs.Slices.{sets_then, sets_first, taken_sets}
use Rattle.theory_text.proofs.Runs.{First}
use Rattle.literals.specs.Literal.{header_of}
use Rattle.literals.proofs.Laws.{at_arg, header_small}
use Rattle.text.specs.Words.{word_at}
use Rattle.text.specs.declared.Word.{Word}
use Rattle.text.proofs.Words.{word_answer}
use Rattle.tables.specs.Sizes.{log_reach}
use Rattle.tables.specs.Stamps.{AtMost, Fresh, MarkPost}
use Rattle.tables.specs.declared.Marked.{Marked}
use Rattle.tables.specs.declared.Marked.TheVariants as Mark
use Rattle.tables.proofs.Laws.{marks_start}
use Rattle.dimacs.specs.Entries.{entry}
use Rattle.dimacs.specs.declared.ClauseReader.{ClauseReader}
use Rattle.dimacs.specs.Clause.{number_item, ClauseIsRead, ended, clause_by, first_clause, past_by, past_clause, Holding, HoldPost, Kept, LeftOut}
use Rattle.dimacs.proofs.Clauses.{RestOf, opposed_rest}

-- ---- a word by itself

-- a literal is one of the variables
pub item_fits : (v : ℕ) (o : Option ℤ) (l : ℤ) → value (Some l) ≡ number_item v o → Fit v l
item_fits v none l e = absurd (let z : ◌≡◌ {A = ℕ} 0 1 = cc in omega arith)
item_fits v (some k) l e = go (eqb 0 (nat_abs k)) (ltb v (nat_abs k)) (eqb-false 0 (nat_abs k)) (ltb-false v (nat_abs k)) e
  where
    go : (a b : Bool) → (a ≡ false → 0 ≢ nat_abs k) → (b ≡ false → nat_abs k ≤ v) → value (Some l) ≡ cond a (value None) (cond b (fault 4) (value (Some k))) → Fit v l
    go true b f h q = absurd (let z : ◌≡◌ {A = ℕ} 0 1 = cc in omega arith)
    go false true f h q = absurd (let z : ◌≡◌ {A = ℕ} 0 1 = cc in omega arith)
    go false false f h q = let z : l ≡ k = cc in rw z (λ e. f refl (ap nat_abs (sym e)), h refl)

-- the literal as it is handed on
pub handed_on : {x : Optional ℤ} {o : Checked (Optional ℤ)} (l : ℤ) → SFits w32 l → x ≡ Some l → value x ≡ o → value (Some (to_z w32 (of_z w32 l))) ≡ o
handed_on l f e q = ap value (at_arg (λ (z : ℤ). Some z) l f ∙ sym e) ∙ q

-- ---- the rest of a clause that is left out

-- the words from a place on are still to be read over
pub record Skipping (v : ℕ) (text : Bytes) (from at : ℕ) : Type 0 where
  pub inside : at ≤ length text
  pub same : past_clause v (words (drop at text)) ≡ past_clause v (words (drop from text))

module _ {v : ℕ} {text : Bytes} {from at : ℕ} (g : Skipping v text from at) where
  abbrev skipped : Checked (List Bytes)
  skipped = past_clause v (words (drop from text))

  pub skipping_end : None ≡ word_at blank text at → skipped ≡ fault 7
  unfolding words past_clause
  skipping_end q = sym g.same ∙ rw (word_answer blank text at q) refl

  module _ {w : Word} (q : Some w ≡ word_at blank text at) where
    f : First blank text at w.start w.end
    f = word_answer blank text at q

    -- what the word says
    abbrev item : Checked (Optional ℤ)
    item = number_item v (number (take (w.end - w.start) (drop w.start text)))

    by_word : (i : Checked (Optional ℤ)) → i ≡ item → skipped ≡ past_by (words (drop w.end text)) (past_clause v (words (drop w.end text))) i
    unfolding words past_clause
    by_word i r = sym g.same ∙ rw (f.words, ← r) refl

    pub skipping_fault : {n : ℕ} → fault n ≡ item → skipped ≡ fault n
    skipping_fault {n} r = by_word (fault n) r

    pub skipping_done : {x : Optional ℤ} → value x ≡ item → is_some x ≡ false → (skipped ≡ value (words (drop w.end text))) × (w.end ≤ length text)
    skipping_done {x = None} r h = (by_word (value None) r, f.within)
    skipping_done {x = Some l} r h = absurd (differ {b = true} tt h)

    pub skipping_on : {x : Optional ℤ} → value x ≡ item → is_some x ≡ true → Skipping v text from w.end
    skipping_on {x = None} r h = absurd (differ {b = true} tt (sym h))
    skipping_on {x = Some l} r h = record { inside = f.within; same = sym (by_word (value (Some l)) r) }

-- ---- a literal more, by its mark; x is the literal as it was handed on

module _ {old : List ℤ} {r : ClauseReader} {stamp : ℕ} {here : Clause} {n : ℕ} (g : Holding old r stamp here n) {l x : ℤ} (e : x ≡ l) (after : List ℕ) where
  marked : (a : Marked) → MarkPost here x after stamp a → MarkPost here l after stamp a
  marked a k = subst (λ (y : ℤ). MarkPost here y after stamp a) e k

  pub hold_opposed : MarkPost here x after stamp Mark.Opposed → (opposed (with_literal l here) ≡ true) × AtMost after stamp
  hold_opposed k =
      let q = marked Mark.Opposed k in
      rw q.0 (opposed_after here l [] (holds_mem (neg_ℤ l) here (of_true q.1)), q.2.below)

  pub hold_new : MarkPost here x after stamp Mark.New → Fit log_reach l → {new : List ℤ} → new ≡ set r.held (n + 1) x →
      Holding old (record { seen = after; held = new }) stamp (with_literal l here) (n + 1)
  hold_new k f {new} put =
      let q = marked Mark.New k in
      rw q.0 (record {
        counted = rw (length-append here (l ∷ [])) (omega (arith, g.counted));
        stored = put ∙ rw (e, g.stored, g.counted) (ap (λ (k : ℕ). sets (sets old 1 here) k (l ∷ [])) (omega arith) ∙ sets_then here (l ∷ []) old 1);
        proper = proper_snoc here l g.proper f.0 (λ i. differ (mem_holds l here i) q.0) (λ i. differ (mem_holds (neg_ℤ l) here i) q.1);
        marks = q.2;
      })

with_length : (l : ℤ) (c : Clause) → length (with_literal l c) ≤ length c + 1
with_length l c = go (holds l c)
  where
    go : (b : Bool) → length (cond b c (c ++ (l ∷ []))) ≤ length c + 1
    go true = omega arith
    go false = rw (length-append c (l ∷ [])) (omega arith)

-- ---- the clause

-- the literals read so far are held, and the rest of the words gives the whole; old is what was held before the clause
pub record Going (v stamp : ℕ) (old : List ℤ) (text : Bytes) (r : ClauseReader) (at n : ℕ) : Type 0 where
  pub here : Clause
  pub holding : Holding old r stamp here n
  pub fits : FitAll v here
  pub inside : at ≤ length text
  pub fewer : n ≤ at
  pub same : first_clause v here (words (drop at text)) ≡ first_clause v [] (words text)

pub going_start : (v stamp : ℕ) (text : Bytes) (r : ClauseReader) → Fresh r.seen stamp → Going v stamp r.held text r 0 0
going_start v stamp text r fresh = record {
  here = [];
  holding = record { counted = refl; stored = refl; proper = tt; marks = marks_start r.seen stamp fresh };
  fits = λ x i. absurd (Memᴰ.not-nil i);
  inside = omega arith;
  fewer = omega arith;
  same = refl;
}

module _ {v stamp : ℕ} {old : List ℤ} {text : Bytes} {r : ClauseReader} {at n : ℕ} (g : Going v stamp old text r at n) where
  abbrev whole : Checked ClauseIsRead
  whole = first_clause v [] (words text)

  -- by the next word
  pub going_end : {m : ℕ} → None ≡ word_at blank text at → m ≡ ended n → whole ≡ fault m
  unfolding words first_clause
  going_end q e = sym g.same ∙ rw (word_answer blank text at q, ← g.holding.counted, e) refl

  module _ {w : Word} (q : Some w ≡ word_at blank text at) where
    pub going_word : First blank text at w.start w.end
    going_word = word_answer blank text at q

    abbrev rest : List Bytes
    rest = words (drop w.end text)

    -- what the word says
    abbrev said : Checked (Optional ℤ)
    said = number_item v (number (take (w.end - w.start) (drop w.start text)))

    next : (i : Checked (Optional ℤ)) → i ≡ said → whole ≡ clause_by g.here rest (λ h. first_clause v h rest) i
    unfolding words first_clause
    next i s = sym g.same ∙ rw (going_word.words, ← s) refl

    pub going_fault : {m : ℕ} → fault m ≡ said → whole ≡ fault m
    going_fault {m} s = next (fault m) s

    -- the clause is complete; its header is stored
    pub going_kept : v ≤ log_reach → log_reach < length old → value None ≡ said → {new : List ℤ} → new ≡ set r.held 0 (header_of n) →
        Kept text whole (record { seen = r.seen; held = new }) stamp v w.end n
    going_kept reach long s {new} z =
        let h = g.holding in
        let c = g.here in
        let few : length c ≤ v = proper_length v c (h.proper, λ x i. (g.fits x i).1) in
        let size : n + 1 ≡ 0 + length (entry c) = omega (arith, h.counted) in
        let whole_entry : take (n + 1) (sets old 0 (entry c)) ≡ entry c = ap (λ (k : ℕ). take k (sets old 0 (entry c))) size ∙ taken_sets (entry c) old 0 (omega arith) in
        let e : new ≡ sets old 0 (pos n ∷ c) = z ∙ rw (header_small n (omega (arith, h.counted)), h.stored) (sets_first c old 0 (pos n)) in
        record {
          clause = c;
          is = next (value None) s;
          size = h.counted;
          proper = h.proper;
          few = omega (arith, h.counted);
          within = going_word.within;
          entered = ap (take (n + 1)) (e ∙ ap (λ (k : ℕ). sets old 0 (pos k ∷ c)) h.counted) ∙ whole_entry;
          below = h.marks.below;
        }

    module _ (l : ℤ) (s : value (Some l) ≡ said) where
      pub going_fits : Fit v l
      going_fits = item_fits v (number (take (w.end - w.start) (drop w.start text))) l s

      -- by what holding it says
      module _ (new : ClauseReader) where
        abbrev Told : Optional ℕ → Type 0
        Told h = (old : List ℤ) (here : Clause) → Holding old r stamp here n → HoldPost old new stamp here l h

        pub going_on : {count : ℕ} → Told (Some count) → Going v stamp old text new w.end count
        going_on p =
            let k = p old g.here g.holding in
            record {
              here = with_literal l g.here;
              holding = k;
              fits = members_with (Fit v) l g.here g.fits going_fits;
              inside = going_word.within;
              fewer = omega (arith, k.counted, with_length l g.here, g.holding.counted, g.fewer, going_word.after, going_word.some);
              same = sym (next (value (Some l)) s);
            }

        -- the clause goes on as the rest that is skipped
        module _ (p : Told None) where
          rest_of : (o : Checked (List Bytes)) → past_clause v rest ≡ o → RestOf (first_clause v (with_literal l g.here) rest) o
          rest_of o d =
              subst (RestOf (first_clause v (with_literal l g.here) rest)) d
              (opposed_rest v (with_literal l g.here) rest (p old g.here g.holding).0)

          pub going_refused : {m : ℕ} → past_clause v rest ≡ fault m → whole ≡ fault m
          going_refused {m} y = next (value (Some l)) s ∙ rest_of (fault m) y

          pub going_left_out : {j : ℕ} → (past_clause v rest ≡ value (words (drop j text))) × (j ≤ length text) → LeftOut text whole new stamp j
          going_left_out {j} y =
              let t = rest_of (value (words (drop j text))) y.0 in
              record {
                clause = t.clause;
                is = next (value (Some l)) s ∙ t.is;
                tautology = t.opposes;
                within = y.1;
                below = (p old g.here g.holding).1;
              }
