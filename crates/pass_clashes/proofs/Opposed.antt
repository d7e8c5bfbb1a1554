-- The test by a table of the one clause says whether the resolvent is opposed: both clauses are proper, so opposed literals come one from each. Assumes nothing.
use mathlib.Core.Path.{◌≡◌, refl, sym, ap, ◌∙◌}
use mathlib.Core.Logic.{◌⊎◌, inl, inr, ⊎_elim}
use mathlib.Core.Bool.{Bool, true, false, not}
use mathlib.Core.List.Memᴰ
use mathlib.Core.List.{List, [], ◌∷◌, ◌++◌, Memᴰ}
use Prim.Native.Nat.{ℕ, ◌+◌, ◌≤◌}
use native.Mathlib.Omega.{arith}
use lib.Dec.{T, eqb}
use lib.IntN.{ℤ, pos, neg_ℤ, neg_ℤ-neg_ℤ, nat_abs}
use mir.Syntax.{w32}
use mir.Val.{SFits, of_z, to_z}
use lib.ListN.{replicate}
use Rattle.definition.specs.Lists.{bit, any}
use Rattle.definition.specs.Literals.{Clause, same, holds, without, opposed}
use Rattle.theory_base.proofs.Tests.{of_true, to_true, not_true, of_false, and_l, and_r, and_i, each_way}
use Rattle.theory_base.proofs.Members.{any_mem, mem_any, unlike, unlike_false, holds_mem, mem_holds, opposes_mem, mem_opposes, proper_unopposed, natAbs_neg}
use Rattle.theory_base.specs.Clauses.{Proper}
use Rattle.definition.specs.Clearing.{resolvent}
use Rattle.literals.specs.Literal.{signed_of}
use borrow.Author.Tests.{eq-eqb, ne_eqb}
use Rattle.literals.proofs.Bits.{same_bits}
use Rattle.literals.proofs.Laws.{signed_small, negation_small, at_arg}
use Rattle.store.specs.Store.{clause_at}
use Rattle.theory_soundness.proofs.Times.{times_nil, times_cons}
use Rattle.theory_soundness.proofs.Without.{without_mem, mem_without}
use Rattle.tables.specs.Entries.{entry_of, tallied, tallied_all}
use Rattle.tables.specs.Counts.{Counts, pure_in}
use Rattle.tables.specs.Sizes.{input_reach, input_size}
use Rattle.tables.proofs.Counting.{counted_table}
use Rattle.pass_clashes.specs.Clashes.{clash_there}
use Rattle.pass_clashes.specs.Resolving.{opposite_in, Parents}

module _ (A B : Clause) (v : ℤ) (p : Proper A) (q : Proper B) (f : (x : ℤ) → Memᴰ x B → nat_abs x ≤ input_reach) where
  abbrev t : List ℕ
  t = tallied (replicate input_size 0) A

  table : Counts input_reach t (A ∷ [])
  unfolding tallied_all
  table = counted_table input_reach (A ∷ []) (λ d i. ProperOf d (Memᴰ.eq_of_singleton i)) (omega arith)
    where
      ProperOf : (d : Clause) → d ≡ A → Proper d
      ProperOf d e = rw e p

  counted : (l : ℤ) → nat_abs l ≤ input_reach → not (pure_in t l) ≡ holds (neg_ℤ l) A
  counted l b =
      ap (λ (n : ℕ). not (eqb n 0)) (ap (λ (z : ℤ). entry_of t z) (negation_small l (omega arith)) ∙ table (neg_ℤ l) (rw natAbs_neg b) ∙ times_cons (neg_ℤ l) A [] ∙ ap (λ (n : ℕ). bit (holds (neg_ℤ l) A) + n) (times_nil (neg_ℤ l)))
      ∙ go (holds (neg_ℤ l) A)
    where
      go : (r : Bool) → not (eqb (bit r + 0) 0) ≡ r
      go true = refl
      go false = refl

  abbrev joint : Clause
  joint = without v A ++ without (neg_ℤ v) B

  -- a literal of B other than -v whose negation is in A
  opposite_mem : (l : ℤ) → Memᴰ l B → T (opposite_in t (neg_ℤ v) l) → T (opposed joint)
  unfolding opposed
  opposite_mem l i u =
      let apart = unlike (neg_ℤ v) l (not_true (and_l (not (same (neg_ℤ v) l)) (not (pure_in t l)) u)) in
      let there = holds_mem (neg_ℤ l) A (of_true (sym (counted l (f l i)) ∙ to_true (and_r (not (same (neg_ℤ v) l)) (not (pure_in t l)) u))) in
      mem_opposes joint joint l
      (Memᴰ.append_right (without v A) (⊎_elim (λ e. absurd (apart (sym e))) (λ j. j) (mem_without (neg_ℤ v) B l i)))
      (Memᴰ.append_left (without (neg_ℤ v) B) (⊎_elim (λ e. absurd (apart (sym (sym (neg_ℤ-neg_ℤ l) ∙ ap neg_ℤ e)))) (λ j. j) (mem_without v A (neg_ℤ l) there)))

  mem_opposite : (l : ℤ) → Memᴰ l (without (neg_ℤ v) B) → Memᴰ (neg_ℤ l) (without v A) → T (any (opposite_in t (neg_ℤ v)) B)
  mem_opposite l i j =
      let m = without_mem (neg_ℤ v) B l i in
      let n = without_mem v A (neg_ℤ l) j in
      mem_any (opposite_in t (neg_ℤ v)) B l m.0
      (and_i (not (same (neg_ℤ v) l)) (not (pure_in t l)) (of_false (unlike_false (neg_ℤ v) l (λ e. m.1 (sym e)))) (of_true (counted l (f l m.0) ∙ to_true (mem_holds (neg_ℤ l) A n.0))))

  opposed_mem : (x : ℤ) → Memᴰ x (without v A) ⊎ Memᴰ x (without (neg_ℤ v) B) → Memᴰ (neg_ℤ x) (without v A) ⊎ Memᴰ (neg_ℤ x) (without (neg_ℤ v) B) → T (any (opposite_in t (neg_ℤ v)) B)
  opposed_mem x (inl i) (inl j) = absurd (proper_unopposed A p x (without_mem v A x i).0 (without_mem v A (neg_ℤ x) j).0)
  opposed_mem x (inr i) (inr j) = absurd (proper_unopposed B q x (without_mem (neg_ℤ v) B x i).0 (without_mem (neg_ℤ v) B (neg_ℤ x) j).0)
  opposed_mem x (inl i) (inr j) = mem_opposite (neg_ℤ x) j (Memᴰ.cast (neg_ℤ-neg_ℤ x) i)
  opposed_mem x (inr i) (inl j) = mem_opposite x i j

  pub opposed_is : any (opposite_in t (neg_ℤ v)) B ≡ opposed joint
  unfolding opposed
  opposed_is =
      each_way {a = any (opposite_in t (neg_ℤ v)) B} {b = opposed joint}
      (λ u. let r = any_mem (opposite_in t (neg_ℤ v)) B u in opposite_mem r.0 r.1 r.2)
      (λ u. let r = opposes_mem joint joint u in opposed_mem r.0 (Memᴰ.append_cases (without v A) r.1) (Memᴰ.append_cases (without v A) r.2))

-- ---- the clauses at two places
pub parts_opposed : {s : List ℤ} {v x y : ℕ} {one other : Clause} {t : Bool} → Parents s v x y → one ≡ clause_at s x → other ≡ clause_at s y →
    t ≡ any (opposite_in (tallied (replicate input_size 0) one) (signed_of true v)) other → t ≡ opposed (resolvent (clash_there s v x y))
unfolding resolvent
parts_opposed {s} {v} {x} {y} p i j h =
    h ∙ rw (i, j, signed_small true v (omega (arith, p.small))) (opposed_is (clause_at s x) (clause_at s y) (pos v) p.one_proper p.other_proper (λ z m. (p.other_fits z m).1))

-- ---- one literal, by the comparison of bits
module _ (t : List ℕ) (out l : ℤ) (a : SFits w32 out) (b : SFits w32 l) where
  pub opposite_gone : of_z w32 out ≡ of_z w32 l → false ≡ opposite_in t out l
  opposite_gone k = let d : same out l ≡ true = sym (same_bits out l a b) ∙ eq-eqb _ _ k in rw d refl

  pub opposite_kept : {q : Bool} → (of_z w32 out ≡ of_z w32 l → ⊥) → q ≡ pure_in t (to_z w32 (of_z w32 l)) → not q ≡ opposite_in t out l
  opposite_kept k f = let d : same out l ≡ false = sym (same_bits out l a b) ∙ ne_eqb _ _ k in rw d (ap not (f ∙ at_arg (pure_in t) l b))
