-- Deletions one after the other: recorded, and the first clause with the same set taken out; the clauses with each literal in turn. Assumes nothing.
use mathlib.Core.Path.{◌≡◌, refl, sym, ap, ap₂, subst, ◌∙◌}
use mathlib.Core.Bool.{Bool, true, false}
use mathlib.Core.List.{List, [], ◌∷◌, ◌++◌, map, map-append, append_assoc}
use Prim.Native.Nat.{ℕ, suc, ◌+◌, ◌-◌, ◌^◌, ◌≤◌, ◌<◌}
use native.Mathlib.Omega.{arith}
use lib.Dec.{ltb}
use lib.IntN.{ℤ, pos, neg_ℤ, nat_abs}
use lib.ListN.{length, get_or, take}
use borrow.Author.Tests.{lt-ltb, le-ltb}
use mir.Syntax.{w32}
use mir.Val.{SFits, of_z, to_z}
use mir.ValLaws.{to_z-of_z}
use Rattle.definition.specs.Lists.{only_if, for_from}
use Rattle.definition.specs.Literals.{Clause, Formula}
use Rattle.definition.specs.Text.{Bytes}
use Rattle.definition.specs.Standing.{deletion}
use Rattle.theory_base.proofs.Members.{natAbs_neg}
use Rattle.theory_base.proofs.Loops.{for_from_snoc, getD_mem, for_from_around}
use Rattle.definition.specs.Events.{choice_of}
use Rattle.definition.specs.Counter.{size, lit, new}
use Rattle.definition.specs.Order.{previous, negated_new, deletions_of}
use Rattle.literals.specs.Literal.{signed_of, negation}
use Rattle.literals.proofs.Laws.{signed_small, negation_small}
use Rattle.theory_soundness.proofs.Removals.{take_all-++}
use Rattle.theory_soundness.specs.Removals.{take_all}
use Rattle.store.specs.Store.{stored}
use Rattle.index.specs.Index.{Indexed}
use Rattle.lookup.specs.Lookup.{DeletedBy}
use Rattle.progress.specs.declared.Progress.{Progress}
use Rattle.progress.specs.Progress.{Written}
use Rattle.progress.proofs.Laws.{written_none, written_then, written_length, room_first, room_rest}
use Rattle.pass_order.specs.Order.{first_deletion, Deletable, Deletes}
use Rattle.tables.specs.Sizes.{log_reach}
use Rattle.tables.specs.Places.{Small}

pub deletes_none : {work : List ℤ} {newest : List ℕ} (log : Bytes) (p : Progress) → Indexed work p.end newest → Deletes [] work newest log p work log p
deletes_none log p i = record { size = refl; end = refl; indexed = i; stands = refl; written = written_none log p p refl refl }

deletable_first : (A B : List Clause) {work : List ℤ} {newest : List ℕ} {p : Progress} → Deletable (A ++ B) work newest p → Deletable A work newest p
deletable_first A B d = record { indexed = d.indexed; room = room_first (map deletion A) (map deletion B) (rw (map-append deletion A B) at d.room) }

module _ (A B : List Clause) {s s1 : List ℤ} {m : List ℕ} {x y : Bytes} {p q : Progress} where
  deletable_rest : Deletable (A ++ B) s m p → Deletes A s m x p s1 y q → Deletable B s1 m q
  deletable_rest d e = record { indexed = e.indexed; room = room_rest (map deletion A) (map deletion B) (rw (map-append deletion A B) at d.room) e.written }

  deletes_then : {s2 : List ℤ} {z : Bytes} {r : Progress} → Deletes A s m x p s1 y q → Deletes B s1 m y q s2 z r → Deletes (A ++ B) s m x p s2 z r
  deletes_then d e = record {
    size = e.size ∙ d.size;
    end = e.end ∙ d.end;
    indexed = e.indexed;
    stands = e.stands ∙ ap (λ (F : Formula). take_all F B) d.stands ∙ sym (take_all-++ (stored (take p.end s)) A B);
    written = rw (map-append deletion A B) (written_then d.written e.written);
  }

-- ---- for i = 1, 2, ..

-- those up to place i - 1 are done
pub record Deleting (f : ℕ → List Clause) (n : ℕ) (old : List ℤ) (newest : List ℕ) (old_log : Bytes) (p : Progress) (i : ℕ) (s : List ℤ) (log : Bytes) (q : Progress) : Type 0 where
  pub from : 1 ≤ i
  pub within : i ≤ n + 1
  pub log_size : length log ≡ length old_log
  pub done : Deletes (for_from 1 (i - 1) f) old newest old_log p s log q

pub deleting_start : (f : ℕ → List Clause) (n : ℕ) (s : List ℤ) {newest : List ℕ} (log : Bytes) (p : Progress) → Indexed s p.end newest → Deleting f n s newest log p 1 s log p
unfolding for_from
deleting_start f n s log p g = record { from = omega arith; within = omega arith; log_size = refl; done = deletes_none log p g }

module _ {f : ℕ → List Clause} {n : ℕ} {old : List ℤ} {m : List ℕ} {x : Bytes} {p : Progress} {i : ℕ} {s : List ℤ} {y : Bytes} {q : Progress} (d : Deleting f n old m x p i s y q) (h : i ≤ n) where
  split : for_from 1 n f ≡ for_from 1 (i - 1) f ++ (f i ++ for_from (suc i) (n - i) f)
  split =
      let e : 1 + n - suc i ≡ n - i = omega arith in
      for_from_around 1 n i f d.from (omega arith) ∙ ap (λ (j : ℕ). for_from 1 (i - 1) f ++ (f i ++ for_from (suc i) j f)) e

  pub deleting_room : Deletable (for_from 1 n f) old m p → Deletable (f i) s m q
  deleting_room r =
      deletable_first (f i) (for_from (suc i) (n - i) f)
      (deletable_rest (for_from 1 (i - 1) f) (f i ++ for_from (suc i) (n - i) f) (rw split at r) d.done)

  pub deleting_step : {t : List ℤ} {z : Bytes} {r : Progress} → Deletes (f i) s m y q t z r → Deleting f n old m x p (i + 1) t z r
  deleting_step {t} {z} {r} e =
      let g : i + 1 - 1 ≡ suc (i - 1) = omega (arith, d.from) in
      let j : 1 + (i - 1) ≡ i = omega (arith, d.from) in
      let k : for_from 1 (i + 1 - 1) f ≡ for_from 1 (i - 1) f ++ f i = ap (λ (m : ℕ). for_from 1 m f) g ∙ for_from_snoc 1 (i - 1) f ∙ ap (λ (m : ℕ). for_from 1 (i - 1) f ++ f m) j in
      record {
        from = omega arith;
        within = omega arith;
        log_size = written_length e.written ∙ d.log_size;
        done = subst (λ (D : List Clause). Deletes D old m x p t z r) (sym k) (deletes_then (for_from 1 (i - 1) f) (f i) d.done e);
      }

pub deleting_end : {f : ℕ → List Clause} {n : ℕ} {old : List ℤ} {m : List ℕ} {x : Bytes} {p : Progress} {i : ℕ} {s : List ℤ} {y : Bytes} {q : Progress} → Deleting f n old m x p i s y q → n < i → Deletes (for_from 1 n f) old m x p s y q
deleting_end {f} {n} {old} {m} {x} {p} {i} {s} {y} {q} d h =
    let e : i - 1 ≡ n = omega (arith, d.within) in
    subst (λ (k : ℕ). Deletes (for_from 1 k f) old m x p s y q) e d.done

-- ---- the clauses with one literal

-- with the literal itself, as the code makes it
module _ (l : ℤ) (i n below : ℕ) (f : SFits w32 l) (h : below + i < 2 ^ 31) {z y : ℤ} (p : SFits w32 z) (q : SFits w32 y) (o : z ≡ signed_of true (below + i)) (u : y ≡ signed_of false (below + (i - 1)))
    {b c : Bool} (j : ltb i n ≡ b) (k : ltb 1 i ≡ c) where
  abbrev made : Clause
  made = (to_z w32 (of_z w32 l) ∷ only_if b (to_z w32 (of_z w32 z) ∷ [])) ++ only_if c (to_z w32 (of_z w32 y) ∷ [])

  made_is : made ≡ first_deletion l i n below
  made_is =
      let a : to_z w32 (of_z w32 z) ≡ neg_ℤ (pos (below + i)) = to_z-of_z w32 z p ∙ o ∙ signed_small true (below + i) h in
      let e : to_z w32 (of_z w32 y) ≡ pos (below + (i - 1)) = to_z-of_z w32 y q ∙ u ∙ signed_small false (below + (i - 1)) (omega arith) in
      rw (j, k, to_z-of_z w32 l f, a, e) refl

  pub first_deletes : {w v : List ℤ} {m : List ℕ} {x t : Bytes} {r s : Progress} →
      Deletes (((to_z w32 (of_z w32 l) ∷ only_if b (to_z w32 (of_z w32 z) ∷ [])) ++ only_if c (to_z w32 (of_z w32 y) ∷ [])) ∷ []) w m x r v t s → Deletes (first_deletion l i n below ∷ []) w m x r v t s
  first_deletes d = rw made_is at d

-- with its negation: -li, si and -li, -s(i-1), where each exists
abbrev pub second : Clause → ℕ → ℕ → List Clause
second l below i = only_if (ltb i (length l)) ((neg_ℤ (get_or l (i - 1) (pos 0)) ∷ pos (below + i) ∷ []) ∷ [])

abbrev pub third : Clause → ℕ → ℕ → List Clause
third l below i = only_if (ltb 1 i) ((neg_ℤ (get_or l (i - 1) (pos 0)) ∷ neg_ℤ (pos (below + (i - 1))) ∷ []) ∷ [])

module _ (l : Clause) (below i : ℕ) (h : 1 ≤ i) (b : i ≤ length l) (u : Small l below) (s : SFits w32 (get_or l (i - 1) (pos 0)))
    {store : List ℤ} {newest : List ℕ} {p : Progress} (r : Deletable (deletions_of (choice_of l below) i) store newest p) where
  abbrev x : ℤ
  x = get_or l (i - 1) (pos 0)

  abbrev D1 : List Clause
  D1 = first_deletion (to_z w32 (of_z w32 x)) i (length l) below ∷ []

  abbrev Y : List Clause
  Y = second l below i

  abbrev Z : List Clause
  Z = third l below i

  small_literal : nat_abs x ≤ log_reach
  small_literal = omega (arith, (u.old x (getD_mem l (i - 1) (pos 0) (omega arith))).1)

  pub literal_reach : nat_abs (to_z w32 (of_z w32 (get_or l (i - 1) (pos 0)))) ≤ log_reach
  literal_reach = subst (λ (z : ℤ). nat_abs z ≤ log_reach) (sym (to_z-of_z w32 x s)) small_literal

  are : deletions_of (choice_of l below) i ≡ D1 ++ (Y ++ Z)
  unfolding deletions_of negated_new previous new size lit
  are = append_assoc (first_deletion x i (length l) below ∷ []) Y Z ∙ ap (λ (m : ℤ). (first_deletion m i (length l) below ∷ []) ++ (Y ++ Z)) (sym (to_z-of_z w32 x s))

  all_deletable : Deletable (D1 ++ (Y ++ Z)) store newest p
  all_deletable = subst (λ (D : List Clause). Deletable D store newest p) are r

  pub first_deletable : Deletable (first_deletion (to_z w32 (of_z w32 (get_or l (i - 1) (pos 0)))) i (length l) below ∷ []) store newest p
  first_deletable = deletable_first D1 (Y ++ Z) all_deletable

  module _ {m : ℤ} (fm : SFits w32 m) (em : m ≡ negation (get_or l (i - 1) (pos 0))) where
    negated_is : to_z w32 (of_z w32 m) ≡ neg_ℤ x
    negated_is = to_z-of_z w32 m fm ∙ em ∙ negation_small x (omega (arith, small_literal))

    pub negated_reach : nat_abs (to_z w32 (of_z w32 m)) ≤ log_reach
    negated_reach = subst (λ (z : ℤ). nat_abs z ≤ log_reach) (sym negated_is) (rw natAbs_neg small_literal)

    -- as the code makes them, where they exist
    second_is : i < length l → {a : ℤ} → SFits w32 a → a ≡ signed_of false (below + i) → (to_z w32 (of_z w32 m) ∷ to_z w32 (of_z w32 a) ∷ []) ∷ [] ≡ Y
    unfolding only_if
    second_is k {a} fa ea =
        ap₂ (λ (v w : ℤ). (v ∷ w ∷ []) ∷ []) negated_is (to_z-of_z w32 a fa ∙ ea ∙ signed_small false (below + i) (omega (arith, u.new, u.few)))
        ∙ sym (rw (lt-ltb i (length l) k) refl)

    third_is : 1 < i → {e : ℤ} → SFits w32 e → e ≡ signed_of true (below + (i - 1)) → (to_z w32 (of_z w32 m) ∷ to_z w32 (of_z w32 e) ∷ []) ∷ [] ≡ Z
    unfolding only_if
    third_is k {e} fe ee =
        ap₂ (λ (v w : ℤ). (v ∷ w ∷ []) ∷ []) negated_is (to_z-of_z w32 e fe ∙ ee ∙ signed_small true (below + (i - 1)) (omega (arith, u.new, u.few)))
        ∙ sym (rw (lt-ltb 1 i k) refl)

    module _ {x0 y1 : Bytes} {s1 : List ℤ} {q : Progress} (d1 : Deletes (first_deletion (to_z w32 (of_z w32 (get_or l (i - 1) (pos 0)))) i (length l) below ∷ []) store newest x0 p s1 y1 q) where
      rest_deletable : Deletable (Y ++ Z) s1 newest q
      rest_deletable = deletable_rest D1 (Y ++ Z) all_deletable d1

      module _ (k : i < length l) {a : ℤ} (fa : SFits w32 a) (ea : a ≡ signed_of false (below + i)) where
        pub second_deletable : Deletable ((to_z w32 (of_z w32 m) ∷ to_z w32 (of_z w32 a) ∷ []) ∷ []) s1 newest q
        second_deletable = rw (second_is k fa ea) (deletable_first Y Z rest_deletable)

        pub second_deletes : {s2 : List ℤ} {y2 : Bytes} {q2 : Progress} → Deletes ((to_z w32 (of_z w32 m) ∷ to_z w32 (of_z w32 a) ∷ []) ∷ []) s1 newest y1 q s2 y2 q2 → Deletes (second l below i) s1 newest y1 q s2 y2 q2
        second_deletes d = rw (second_is k fa ea) at d

      pub second_none : length l ≤ i → Deletes (second l below i) s1 newest y1 q s1 y1 q
      unfolding only_if
      second_none k = rw (le-ltb i (length l) k) (deletes_none y1 q rest_deletable.indexed)

      module _ {y2 : Bytes} {s2 : List ℤ} {q2 : Progress} (d2 : Deletes (second l below i) s1 newest y1 q s2 y2 q2) where
        all_deletes : {y3 : Bytes} {s3 : List ℤ} {q3 : Progress} → Deletes Z s2 newest y2 q2 s3 y3 q3 → Deletes (deletions_of (choice_of l below) i) store newest x0 p s3 y3 q3
        all_deletes {y3} {s3} {q3} d3 =
            subst (λ (D : List Clause). Deletes D store newest x0 p s3 y3 q3) (sym are) (deletes_then D1 (Y ++ Z) d1 (deletes_then Y Z d2 d3))

        module _ (k : 1 < i) {e : ℤ} (fe : SFits w32 e) (ee : e ≡ signed_of true (below + (i - 1))) where
          pub third_deletable : Deletable ((to_z w32 (of_z w32 m) ∷ to_z w32 (of_z w32 e) ∷ []) ∷ []) s2 newest q2
          third_deletable = rw (third_is k fe ee) (deletable_rest Y Z rest_deletable d2)

          pub third_deletes : {y3 : Bytes} {s3 : List ℤ} {q3 : Progress} → Deletes ((to_z w32 (of_z w32 m) ∷ to_z w32 (of_z w32 e) ∷ []) ∷ []) s2 newest y2 q2 s3 y3 q3 → Deletes (deletions_of (choice_of l below) i) store newest x0 p s3 y3 q3
          third_deletes d = all_deletes (rw (third_is k fe ee) at d)

        pub third_none : i ≤ 1 → Deletes (deletions_of (choice_of l below) i) store newest x0 p s2 y2 q2
        unfolding only_if
        third_none k = all_deletes (rw (le-ltb 1 i k) (deletes_none y2 q2 d2.indexed))
