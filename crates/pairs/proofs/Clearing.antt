-- A pair of a choice of k literals has a slot below k * 64: so there is no count from there on, and zeros before it make a table of zeros. Assumes nothing.
use mathlib.Core.Path.{◌≡◌, refl, ap, ap₂, ◌∙◌}
use mathlib.Core.List.{List, [], ◌∷◌, ◌++◌}
use Prim.Native.Nat.{ℕ, ◌+◌, ◌-◌, ◌*◌, ◌≤◌, ◌<◌}
use native.Mathlib.Omega.{arith}
use lib.Dec.{ltb}
use lib.IntN.{ℤ}
use lib.ListN.{length, drop, length-drop, replicate, replicate-append-replicate, get_or-eq_default}
use lib.Seq.{get_or-drop}
use borrow.Author.Tests.{ltb-true, ltb-false, ne_eqb}
use Rattle.definition.specs.Lists.{count}
use Rattle.definition.specs.Literals.{Clause, Formula}
use Rattle.theory_base.proofs.Tests.{by_test}
use Rattle.tables.specs.Places.{Places}
use Rattle.tables.proofs.Laws.{zeros_by_entry}
use Rattle.pairs.specs.Pairs.{slots, slot_of, in_slot, PairsTaken, PairCounts}
use Rattle.pairs.proofs.Slots.{slotted}

module _ {t : List ℕ} {l : Clause} (q : Places t l) (few : length l ≤ 64) where
  not_past : (n : ℕ) → length l * 64 ≤ n → n < slots → (d : Clause) → slot_of t d ≡ n → ⊥
  not_past n a b d e = let s = slotted q d (omega arith) in omega (arith, s.is, s.less, s.within)

  no_count_past : (n : ℕ) → length l * 64 ≤ n → n < slots → (F : Formula) → count (in_slot t n) F ≡ 0
  unfolding count
  no_count_past n a b [] = refl
  no_count_past n a b (d ∷ F) = rw (ne_eqb (slot_of t d) n (not_past n a b d)) (omega (arith, no_count_past n a b F))

  pub pair_counts : {F : Formula} {s : List ℤ} {counts : List ℕ} → PairsTaken t F s counts → length counts ≡ slots → PairCounts counts (length l)
  pair_counts {F} {counts = counts} w e = record {
    size = e;
    none = λ n a. by_test (ltb n slots)
        (λ f. let b = ltb-true n slots f in w.counted n b ∙ no_count_past n a b F)
        (λ f. get_or-eq_default counts 0 (omega (arith, ltb-false n slots f)));
  }

-- the first counts made zero
pub counts_cleared : {counts : List ℕ} {k : ℕ} → PairCounts counts k → k ≤ 64 → {first : List ℕ} → first ≡ replicate (k * 64) 0 → first ++ drop (k * 64) counts ≡ replicate slots 0
counts_cleared {counts} {k} w h e =
    let n : k * 64 + (slots - k * 64) ≡ slots = omega arith in
    ap₂ (λ (x y : List ℕ). x ++ y) e
    (zeros_by_entry (drop (k * 64) counts) (slots - k * 64) (omega (arith, length-drop (k * 64) counts, w.size)) (λ i. get_or-drop (k * 64) counts i 0 ∙ w.none (k * 64 + i) (omega arith)))
    ∙ replicate-append-replicate (k * 64) (slots - k * 64) 0
    ∙ ap (λ (m : ℕ). replicate m 0) n
