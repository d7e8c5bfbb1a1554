-- The loop over the words of a line: the literals c are read, marked and stored. A literal that is there already, or its negation, refuses the line.
use Rattle.std.proofs.Common.{◌≡◌, refl, sym, ap, subst, ◌∙◌, true, ◌||◌, ◌⊎◌, inl, inr, List, [], ◌∷◌, ◌++◌, ℕ, ◌+◌, ◌≤◌, max, arith, ℤ, neg_ℤ, nat_abs, length, drop, set, length-append}
use Rattle.std.proofs.Math.Option.{some}
use lib.Seq.{sets}
use Rattle.definition.specs.Checked.{fault, value, ◌>>=◌}
use Rattle.definition.specs.Literals.{Clause, holds, highest}
use Rattle.definition.specs.Text.{Bytes}
use Rattle.definition.specs.LogReading.{allowed_clause}
use Rattle.theory_base.proofs.Tests.{differ}
use Rattle.theory_base.proofs.Members.{mem_holds}
use Rattle.theory_base.specs.Clauses.{Proper}
use Rattle.theory_base.proofs.Clauses.{proper_snoc}
use Rattle.theory_base.proofs.Fitting.{highest_append}
use Rattle.theory_base.proofs.Slices.{sets_then}
use Rattle.theory_text.specs.LogLines.{allowed_at, rest_read}
use Rattle.theory_text.proofs.LineWords.{proper_allowed, rest_taken}
use Rattle.literals.specs.Literal.{header_of}
use Rattle.tables.specs.Stamps.{AtMost, Marks, Fresh, MarkPost}
use Rattle.tables.specs.declared.Marked.{Marked}
use Rattle.tables.specs.declared.Marked.TheVariants as Mark
use Rattle.tables.proofs.Laws.{marks_start}
use Rattle.drat.specs.Loaded.{closed}
use Rattle.drat.specs.Reading.{StoredRead}
use Rattle.drat.proofs.Rest.{Last, More, NoLine}

pub record Reading (t : Bytes) (from stamp at count top : ℕ) (seen : List ℕ) (old : List ℤ) (to : ℕ) (store : List ℤ) : Type 0 where
  pub c : Clause
  pub proper : Proper c
  pub small : top ≤ 70_000
  pub size : count ≡ length c
  pub high : top ≡ highest c
  pub room : count ≤ at
  pub inside : at ≤ length t
  pub place : rest_read at c (drop at t) ≡ rest_read from [] (drop from t)
  pub marks : Marks seen stamp c
  pub stored : store ≡ sets old to c

pub reading_start : (t : Bytes) (from stamp : ℕ) (seen : List ℕ) (old : List ℤ) (to : ℕ) → Fresh seen stamp → from ≤ length t → Reading t from stamp from 0 0 seen old to old
unfolding highest
reading_start t from stamp seen old to f h = record {
  c = [];
  proper = tt;
  small = omega arith;
  size = refl;
  high = refl;
  room = omega arith;
  inside = h;
  place = refl;
  marks = marks_start seen stamp f;
  stored = refl;
}

placed_value : (next : ℕ) (c : Clause) → allowed_clause (some c) ≡ value c → allowed_at next (some c) ≡ value (next, c)
unfolding ◌>>=◌
placed_value next c e = rw e

module _ {t : Bytes} {from stamp at count top : ℕ} {seen : List ℕ} {old : List ℤ} {to : ℕ} {store : List ℤ} (s : Reading t from stamp at count top seen old to store) where
  -- by what the mark of its next literal says
  module _ {next : ℕ} {l : ℤ} (m : More t at next l) (new : List ℕ) (r : Marked) (p : MarkPost s.c l new stamp r) where
    abbrev Told : Marked → Type 0
    Told x = MarkPost s.c l new stamp x

    after_literal : rest_read next (s.c ++ (l ∷ [])) (drop next t) ≡ rest_read from [] (drop from t)
    after_literal = sym (m.rest s.c) ∙ s.place

    taken : (holds l s.c || holds (neg_ℤ l) s.c) ≡ true → rest_read from [] (drop from t) ≡ fault 31
    taken e = sym after_literal ∙ rest_taken next s.c l (drop next t) e

    -- the literal is there already, or its negation is
    pub reading_taken : (r ≡ Mark.Repeated) ⊎ (r ≡ Mark.Opposed) → (rest_read from [] (drop from t) ≡ fault 31) × AtMost new stamp
    reading_taken (inl e) = let k = subst Told e p in (taken (rw k.0 refl), k.1.below)
    reading_taken (inr e) = let k = subst Told e p in (taken (rw (k.0, k.1) refl), k.2.below)

    pub reading_step : r ≡ Mark.New → {v top' : ℕ} {store' : List ℤ} → v ≡ nat_abs l → top' ≡ max top v → store' ≡ set store (to + count) l → Reading t from stamp next (count + 1) top' new old to store'
    unfolding highest
    reading_step e w z d =
        let k = subst Told e p in record {
          c = s.c ++ (l ∷ []);
          proper = proper_snoc s.c l s.proper (λ x. m.literal (ap nat_abs x)) (λ i. differ (mem_holds l s.c i) k.0) (λ i. differ (mem_holds (neg_ℤ l) s.c i) k.1);
          small = omega (arith, s.small, m.small);
          size = omega (arith, s.size, length-append s.c (l ∷ []));
          high = omega (arith, s.high, highest_append s.c (l ∷ []));
          room = omega (arith, s.room, m.after);
          inside = m.within;
          place = after_literal;
          marks = k.2;
          stored = d ∙ ap (λ (y : List ℤ). set y (to + count) l) s.stored ∙ ap (λ (j : ℕ). set (sets old to s.c) (to + j) l) s.size ∙ sets_then s.c (l ∷ []) old to;
        }

  pub reading_last : {next : ℕ} {store' : List ℤ} → Last t at next → store' ≡ set store (to + count) (header_of count) → StoredRead (λ c. c) closed (rest_read from [] (drop from t)) (record { next = next; count = count; highest = top }) old to store'
  reading_last {next} m d = record {
    s = s.c;
    read = sym s.place ∙ m.rest s.c ∙ placed_value next s.c (proper_allowed s.c s.proper (rw s.high at s.small));
    size = s.size;
    high = s.high;
    room = omega (arith, s.room, m.after);
    stored = d ∙ ap (λ (y : List ℤ). set y (to + count) (header_of count)) s.stored ∙ ap (λ (j : ℕ). set (sets old to s.c) (to + j) (header_of j)) s.size ∙ sets_then s.c (header_of (length s.c) ∷ []) old to;
  }

  pub reading_fault : NoLine t at → rest_read from [] (drop from t) ≡ fault 31
  reading_fault m = sym s.place ∙ m.rest s.c
