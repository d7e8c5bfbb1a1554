-- Marking the variables that clash: each unique literal clause taken in puts its literals into the table and marks those of its variables that the table then has with both signs. Assumes nothing.
use mathlib.Core.Path.{◌≡◌, refl, sym, ap, ap₂, ◌∙◌}
use mathlib.Core.Logic.{⊎_elim}
use mathlib.Core.Bool.{Bool, true, false, cond, not, ◌&&◌, ◌||◌, or-false, and-true, and-false}
use mathlib.Core.List.Memᴰ
use mathlib.Core.List.Memᴰ.{head as here}
use mathlib.Core.List.{List, [], ◌∷◌, ◌++◌, append-nil, append_assoc}
use Prim.Native.Nat.{ℕ, ◌+◌, ◌≤◌, ◌<◌}
use native.Mathlib.Numerals.{add-one}
use native.Mathlib.Omega.{arith}
use lib.Dec.{T, eqb, ltb}
use lib.IntN.{ℤ, pos, neg_ℤ, nat_abs}
use lib.ListN.{length, get_or, take, replicate, length-replicate}
use lib.Seq.{take-suc}
use borrow.Author.Tests.{eqb-true}
use Rattle.definition.specs.Lists.{bit, any}
use Rattle.definition.specs.Literals.{Clause, Formula, holds}
use Rattle.definition.specs.Clearing.{unique}
use Rattle.theory_base.specs.Clauses.{ProperAll, FitAll}
use Rattle.theory_base.proofs.Tests.{each_way, or_cases, or_l, or_r}
use Rattle.theory_base.proofs.Members.{any_snoc, natAbs_neg, same_variable, holds_mem, mem_holds}
use Rattle.theory_clearing.specs.Clashing.{in_ulc, mentions}
use Rattle.theory_clearing.proofs.Clashing.{mentions_mem, mem_mentions, clashes_both}
use Rattle.literals.specs.Literal.{signed_of}
use Rattle.literals.proofs.Laws.{signed_small}
use Rattle.marks.specs.Marks.{input_words, marked, WithMark, WithoutMark}
use Rattle.marks.proofs.Laws.{none_in_zeros}
use Rattle.tables.specs.Sizes.{input_reach, input_size}
use Rattle.tables.specs.Entries.{entry_of, with_entries}
use Rattle.tables.specs.Counts.{unique_by}
use Rattle.tables.proofs.Laws.{index_inside, entry_zeros, length_entries, entry_set_all}
use Rattle.tables.proofs.Counting.{unique_is}
use Rattle.store.specs.Store.{stored, Counted}
use Rattle.pass_clashes.specs.Marking.{MarksClashes, both, MarkedBoth, unique_part, TakenIn, Unmarked}

-- ---- the variables of a clause
mentions_one : (l : ℤ) (v : ℕ) → mentions (l ∷ []) v ≡ eqb (nat_abs l) v
unfolding any
mentions_one l v = or-false (eqb (nat_abs l) v)

mentions_next : (c : Clause) (i v : ℕ) → i < length c → mentions (take (i + 1) c) v ≡ (mentions (take i c) v || eqb (nat_abs (get_or c i (pos 0))) v)
mentions_next c i v h = rw (add-one i, take-suc c i (pos 0) h) (any_snoc (λ l. eqb (nat_abs l) v) (take i c) (get_or c i (pos 0)))

-- a clause mentions a variable exactly if it holds the variable or its negation
mentions_holds : (c : Clause) (v : ℕ) → mentions c v ≡ (holds (pos v) c || holds (neg_ℤ (pos v)) c)
mentions_holds c v = each_way to from
  where
    to : T (mentions c v) → T (holds (pos v) c || holds (neg_ℤ (pos v)) c)
    to t =
        let r = mentions_mem c v t in
        ⊎_elim
        (λ e. or_l (holds (pos v) c) _ (mem_holds (pos v) c (Memᴰ.cast (sym e) r.1)))
        (λ e. or_r (holds (pos v) c) _ (mem_holds (neg_ℤ (pos v)) c (Memᴰ.cast (sym e) r.1)))
        (same_variable r.0 (pos v) r.2)

    from : T (holds (pos v) c || holds (neg_ℤ (pos v)) c) → T (mentions c v)
    from t = ⊎_elim
        (λ u. mem_mentions c (pos v) (holds_mem (pos v) c u))
        (λ u. rw natAbs_neg at (mem_mentions c (neg_ℤ (pos v)) (holds_mem (neg_ℤ (pos v)) c u)))
        (or_cases (holds (pos v) c) _ t)

-- ---- the variable of a literal, by the answer r whether the table has it with both signs
module _ (m t : List ℕ) (l : ℤ) {v : ℕ} (n : v ≡ nat_abs l) {r : Bool} (f : r ≡ both t v) where
  one_both : (b : Bool) → r ≡ b → (w : ℕ) → (mentions (l ∷ []) w && both t w) ≡ (eqb v w && b)
  one_both b e w = rw (mentions_one l w, ← n) (go (eqb v w) refl)
    where
      go : (q : Bool) → eqb v w ≡ q → (q && both t w) ≡ (q && b)
      go true k = ap (both t) (sym (eqb-true v w k)) ∙ sym f ∙ e
      go false k = refl

  pub set_both : (new : List ℕ) → r ≡ true → WithMark m v new → MarkedBoth m t (l ∷ []) new
  set_both new e k w = k w ∙ ap (λ (b : Bool). b || marked m w) (sym (one_both true e w ∙ and-true (eqb v w)))

  pub not_both : r ≡ false → MarkedBoth m t (l ∷ []) m
  not_both e w = ap (λ (b : Bool). b || marked m w) (sym (one_both false e w ∙ and-false (eqb v w)))

-- ---- loops over a clause
pub marked_start : (m t : List ℕ) → MarkedBoth m t [] m
unfolding any
marked_start m t v = refl

pub marked_next : (m m₁ new t : List ℕ) (c : Clause) (i : ℕ) → i < length c → MarkedBoth m t (take i c) m₁ → MarkedBoth m₁ t (get_or c i (pos 0) ∷ []) new → MarkedBoth m t (take (i + 1) c) new
marked_next m m₁ new t c i h p q v =
    q v
    ∙ rw (mentions_one (get_or c i (pos 0)) v, p v, mentions_next c i v h) (go (mentions (take i c) v) (eqb (nat_abs (get_or c i (pos 0))) v) (both t v) (marked m v))
  where
    go : (a b x y : Bool) → ((b && x) || ((a && x) || y)) ≡ (((a || b) && x) || y)
    go true true true y = refl
    go true true false y = refl
    go true false x y = refl
    go false b x y = refl

pub neither : (a b y : Bool) → (not b && (not a && y)) ≡ (not (a || b) && y)
neither true true y = refl
neither true false y = refl
neither false b y = refl

pub unmarked_start : (m : List ℕ) → Unmarked m [] m
unfolding any
unmarked_start m v = refl

pub unmarked_next : (m m₁ new : List ℕ) (c : Clause) (i : ℕ) → i < length c → Unmarked m (take i c) m₁ → WithoutMark m₁ (nat_abs (get_or c i (pos 0))) new → Unmarked m (take (i + 1) c) new
unmarked_next m m₁ new c i h p q v =
    q v ∙ rw (p v, mentions_next c i v h) (neither (mentions (take i c) v) (eqb (nat_abs (get_or c i (pos 0))) v) (marked m v))

-- ---- what is taken in

pub part_tested : (counts : List ℕ) (c : Clause) {r b : Bool} → r ≡ unique_by counts c → r ≡ b → unique_part counts c ≡ cond b c []
part_tested counts c f g = rw (sym f ∙ g) refl

pub part_none : {c : Clause} (m t : List ℕ) → c ≡ [] → (t ≡ with_entries t c 1) × MarkedBoth m t c m
unfolding with_entries
part_none m t e = rw e (refl, marked_start m t)

-- ---- the loop over the standing clauses
before_too : (a b x y : Bool) → (((a || x) && (b || y)) || (a && b)) ≡ ((a || x) && (b || y))
before_too true true x y = refl
before_too true false x y = or-false y
before_too false b x y = or-false (x && (b || y))

-- both a and b, where a becomes a || x and b becomes b || y
both_or : (a b x y : Bool) {z : Bool} → (T (x || y) → z ≡ ((a || x) && (b || y))) → (((x || y) && z) || (a && b)) ≡ ((a || x) && (b || y))
both_or a b true y f = rw (f tt) (before_too a b true y)
both_or a b false true f = rw (f tt) (before_too a b false true)
both_or a b false false f = rw (or-false a, or-false b) refl

-- the table has a literal exactly where f does
both_is : (t : List ℕ) (f : ℤ → Bool) → ((l : ℤ) → nat_abs l ≤ input_reach → entry_of t l ≡ bit (f l)) → (v : ℕ) → v ≤ input_reach → both t v ≡ (f (pos v) && f (neg_ℤ (pos v)))
both_is t f e v h = ap₂ (λ (a b : Bool). a && b) (side false (pos v) (signed_small false v (omega arith)) h) (side true (neg_ℤ (pos v)) (signed_small true v (omega arith)) (rw natAbs_neg h))
  where
    positive : (b : Bool) → ltb 0 (bit b) ≡ b
    positive true = refl
    positive false = refl

    side : (b : Bool) (l : ℤ) → signed_of b v ≡ l → nat_abs l ≤ input_reach → ltb 0 (entry_of t (signed_of b v)) ≡ f l
    side b l q k = rw q (rw (e l k) (positive (f l)))

-- the clauses gone through are taken in; the others are left
pub record Marking (F left : Formula) (t m : List ℕ) : Type 0 where
  gone : Formula
  split : F ≡ gone ++ left
  table_size : input_reach + input_reach + 2 ≤ length t
  pub marks_size : length m ≡ input_words
  pub taken : TakenIn F gone t m

pub marking_start : {F left : Formula} {t m : List ℕ} → left ≡ F → m ≡ replicate input_words 0 → t ≡ replicate input_size 0 → Marking F left t m
unfolding any
marking_start {t = t} {m = m} d f g = record {
  gone = [];
  split = sym d;
  table_size = omega (arith, ap length g, length-replicate {A = ℕ} input_size 0);
  marks_size = ap length f ∙ length-replicate {A = ℕ} input_words 0;
  taken = record { table = λ l b. rw g (entry_zeros input_size l); marks = λ v. rw f (none_in_zeros input_words v) };
}

module _ {counts : List ℕ} {s : List ℤ} {left : Formula} {t m : List ℕ} (k : Counted input_reach s counts) (i : Marking (stored s) left t m) {c : Clause} {rest : Formula} (d : left ≡ c ∷ rest) where
  abbrev F : Formula
  F = stored s

  abbrev G : Formula
  G = i.gone

  abbrev G₁ : Formula
  G₁ = G ++ (c ∷ [])

  abbrev part : Clause
  part = unique_part counts c

  clause_fits : FitAll input_reach c
  clause_fits = k.fits c (rw (i.split, d) (Memᴰ.append_right G (here refl)))

  pub part_fits : FitAll input_reach part
  part_fits = go (unique_by counts c) clause_fits
    where
      go : (b : Bool) → FitAll input_reach c → FitAll input_reach (cond b c [])
      go true f = f
      go false f = λ l j. absurd (Memᴰ.not-nil j)

  -- the literals in unique literal clauses: those of the part are new
  in_ulc_next : (l : ℤ) → in_ulc F G₁ l ≡ (in_ulc F G l || holds l part)
  unfolding holds any
  in_ulc_next l =
      rw (any_snoc (λ b. holds l b && unique F b) G c, sym (unique_is input_reach (omega arith) counts F k.table c (λ x j. (clause_fits x j).1)))
      (ap (λ (b : Bool). in_ulc F G l || b) (go (unique_by counts c)))
    where
      go : (b : Bool) → (holds l c && b) ≡ holds l (cond b c [])
      go true = and-true (holds l c)
      go false = and-false (holds l c)

  module _ {t₁ : List ℕ} (e : t₁ ≡ with_entries t part 1) where
    entry_next : (l : ℤ) → nat_abs l ≤ input_reach → entry_of t₁ l ≡ bit (in_ulc F G₁ l)
    entry_next l b =
        ap (λ (x : List ℕ). entry_of x l) e
        ∙ entry_set_all t part 1 l (index_inside input_reach t l i.table_size b)
        ∙ rw (i.taken.table l b, in_ulc_next l) (go (in_ulc F G l) (holds l part))
      where
        go : (a b : Bool) → cond b 1 (bit a) ≡ bit (a || b)
        go true true = refl
        go true false = refl
        go false true = refl
        go false false = refl

    -- a variable of the part is within the table's reach
    both_next : (v : ℕ) → T (holds (pos v) part || holds (neg_ℤ (pos v)) part) → both t₁ v ≡ (in_ulc F G₁ (pos v) && in_ulc F G₁ (neg_ℤ (pos v)))
    both_next v u = both_is t₁ (in_ulc F G₁) entry_next v
        (⊎_elim
        (λ p. (part_fits (pos v) (holds_mem (pos v) part p)).1)
        (λ p. rw natAbs_neg at (part_fits (neg_ℤ (pos v)) (holds_mem (neg_ℤ (pos v)) part p)).1)
        (or_cases (holds (pos v) part) _ u))

    marks_next : (m₁ : List ℕ) → MarkedBoth m t₁ part m₁ → (v : ℕ) → marked m₁ v ≡ (in_ulc F G₁ (pos v) && in_ulc F G₁ (neg_ℤ (pos v)))
    marks_next m₁ q v =
        let g : (in_ulc F G₁ (pos v) && in_ulc F G₁ (neg_ℤ (pos v))) ≡ ((in_ulc F G (pos v) || holds (pos v) part) && (in_ulc F G (neg_ℤ (pos v)) || holds (neg_ℤ (pos v)) part)) = ap₂ (λ (a b : Bool). a && b) (in_ulc_next (pos v)) (in_ulc_next (neg_ℤ (pos v))) in
        q v
        ∙ rw (mentions_holds part v, i.taken.marks v) (both_or (in_ulc F G (pos v)) (in_ulc F G (neg_ℤ (pos v))) (holds (pos v) part) (holds (neg_ℤ (pos v)) part) (λ u. both_next v u ∙ g))
        ∙ sym g

    pub marking_next : {m₁ : List ℕ} → MarkedBoth m t₁ part m₁ → length m₁ ≡ length m → Marking F rest t₁ m₁
    marking_next {m₁} q n = record {
      gone = G₁;
      split = i.split ∙ ap (λ (r : Formula). G ++ r) d ∙ sym (append_assoc G (c ∷ []) rest);
      table_size = omega (arith, i.table_size, ap length e, length_entries t part 1);
      marks_size = n ∙ i.marks_size;
      taken = record { table = entry_next; marks = marks_next m₁ q };
    }

pub marking_end : {F left : Formula} {t m : List ℕ} → Marking F left t m → left ≡ [] → ProperAll F → MarksClashes F m
marking_end {F} {t = t} {m = m} i d p v =
    let all : i.gone ≡ F = sym (append-nil i.gone) ∙ ap (λ (r : Formula). i.gone ++ r) (sym d) ∙ sym i.split in
    i.taken.marks v ∙ rw all (sym (clashes_both F p v))
