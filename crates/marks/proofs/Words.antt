-- A mark by the digits of its word: one digit of one word is changed; the lowest digit of the first word that is not 0 is the lowest mark. Assumes nothing.
use mathlib.Core.Path.{◌≡◌, refl, sym, ap, ◌∙◌}
use mathlib.Core.Bool.{Bool, true, false, not, ◌&&◌, ◌||◌}
use mathlib.Core.List.{List}
use Prim.Native.Nat.{ℕ, ◌+◌, ◌-◌, ◌*◌, ◌/◌, ◌%◌, ◌^◌, ◌≤◌, ◌<◌, min, max}
use native.Mathlib.Nat.{mod-lt}
use native.Mathlib.Omega.{arith}
use lib.Bits.{bit_and, bit_or}
use lib.Dec.{eqb, ltb}
use lib.ListN.{length, get_or, set}
use lib.Pow.{pow-lt}
use lib.Seq.{get_or-set_same, get_or-set_other}
use borrow.Author.Tests.{eq-eqb, ne_eqb, eqb-true, eqb-false, ltb-true, ltb-false}
use Rattle.definition.specs.Lists.{bit}
use Rattle.theory_base.proofs.Tests.{by_test}
use Rattle.marks.specs.Marks.{digit, marked, WithMark, WithoutMark, lowest_from}
use Rattle.std.proofs.Common.{Some, None}
use Rattle.marks.proofs.Digits.{digit_or, digit_and, digit_power, digit_complement}
use Rattle.marks.proofs.Laws.{none_in_zero, none_past, lowest_marked}

-- ---- one digit of one word is changed

-- p true gives the digit of v's mark in x from that in v's word, p false each other digit
abbrev Changes : (Bool → Bool → Bool) → List ℕ → ℕ → ℕ → Type 0
Changes p m v x = (j : ℕ) → j < 32 → eqb (digit j x) 1 ≡ p (eqb (v % 32) j) (eqb (digit j (get_or m (v / 32) 0)) 1)

same_digit : (v n : ℕ) → v / 32 ≡ n / 32 → eqb (v % 32) (n % 32) ≡ eqb v n
same_digit v n e = by_test (eqb v n)
    (λ t. eq-eqb _ _ (ap (λ (i : ℕ). i % 32) (eqb-true v n t)) ∙ sym t)
    (λ t. ne_eqb (v % 32) (n % 32) (λ r. eqb-false v n t (omega arith)) ∙ sym t)

module _ (p : Bool → Bool → Bool) (keeps : (b : Bool) → p false b ≡ b) where
  changed : (m : List ℕ) (v x : ℕ) → v / 32 < length m → Changes p m v x → (n : ℕ) → marked (set m (v / 32) x) n ≡ p (eqb v n) (marked m n)
  changed m v x h f n = by_test (eqb (v / 32) (n / 32)) (λ t. in_word (eqb-true _ _ t)) (λ t. elsewhere (eqb-false _ _ t))
    where
      in_word : v / 32 ≡ n / 32 → marked (set m (v / 32) x) n ≡ p (eqb v n) (marked m n)
      in_word e =
          rw (← e, get_or-set_same m (v / 32) x 0 h, ← same_digit v n e) (f (n % 32) (mod-lt n (omega arith)))

      elsewhere : (v / 32 ≡ n / 32 → ⊥) → marked (set m (v / 32) x) n ≡ p (eqb v n) (marked m n)
      elsewhere d =
          rw (get_or-set_other m (v / 32) (n / 32) x 0 (λ e. d (sym e)), ne_eqb v n (λ e. d (ap (λ (i : ℕ). i / 32) e))) (sym (keeps (marked m n)))

or_bit : (b : Bool) (d : ℕ) → d < 2 → eqb (max d (bit b)) 1 ≡ (b || eqb d 1)
or_bit true d h = eq-eqb (max d 1) 1 (omega arith)
or_bit false d h = let e : max d 0 ≡ d = omega arith in ap (λ (x : ℕ). eqb x 1) e

and_bit : (b : Bool) (d : ℕ) → d < 2 → eqb (min d (1 - bit b)) 1 ≡ (not b && eqb d 1)
and_bit true d h = let e : min d 0 ≡ 0 = omega arith in ap (λ (x : ℕ). eqb x 1) e
and_bit false d h = let e : min d 1 ≡ d = omega arith in ap (λ (x : ℕ). eqb x 1) e

with_digit : (i j a : ℕ) → eqb (digit j (bit_or a (2 ^ i))) 1 ≡ (eqb i j || eqb (digit j a) 1)
with_digit i j a = rw (digit_or j a (2 ^ i), digit_power i j) (or_bit (eqb i j) (digit j a) (omega arith))

without_digit : (i j a : ℕ) → i < 32 → j < 32 → eqb (digit j (bit_and a (4294967295 - 2 ^ i))) 1 ≡ (not (eqb i j) && eqb (digit j a) 1)
without_digit i j a h l =
    rw (digit_and j a (4294967295 - 2 ^ i), digit_complement 32 j (2 ^ i) (pow-lt h) l, digit_power i j) (and_bit (eqb i j) (digit j a) (omega arith))

module _ (m : List ℕ) (v w k : ℕ) (at : w ≡ v / 32) (mark : k ≡ 2 ^ (v % 32)) (h : w < length m) where
  pub or_with_mark : WithMark m v (set m w (bit_or (get_or m w 0) k))
  or_with_mark = rw (mark, at) (changed ◌||◌ (λ b. refl) m v _ (omega arith) (λ j l. with_digit (v % 32) j _))

  pub and_without_mark : WithoutMark m v (set m w (bit_and (get_or m w 0) (4294967295 - k)))
  and_without_mark = rw (mark, at) (changed (λ b d. not b && d) (λ b. refl) m v _ (omega arith) (λ j l. without_digit (v % 32) j _ (omega arith) l))

-- a variable of no word has no mark to clear
pub past_without_mark : (m : List ℕ) (v w : ℕ) → w ≡ v / 32 → length m ≤ w → WithoutMark m v m
past_without_mark m v w at h n = by_test (eqb v n) (λ t. rw t (none_past m n (omega (arith, eqb-true v n t)))) (λ t. rw t refl)

-- ---- the lowest digit of the first word that is not 0
module _ (m : List ℕ) (from w : ℕ) (inside : from ≤ w) (before : (i : ℕ) → from ≤ i → i < w → get_or m i 0 ≡ 0) where
  none_before : (k : ℕ) → 32 * from ≤ k → k / 32 < w → marked m k ≡ false
  none_before k a b = none_in_zero m k (before (k / 32) (omega arith) b)

  pub lowest_nothing : length m ≤ w → None ≡ lowest_from m (32 * from)
  lowest_nothing h = sym ((lowest_marked m (32 * from)).none_found
      (λ k a. by_test (ltb (k / 32) w) (λ t. none_before k a (ltb-true _ _ t)) (λ t. none_past m k (omega (arith, ltb-false (k / 32) w t)))))

  pub lowest_at : (t : ℕ) → t < 32 → digit t (get_or m w 0) ≡ 1 → ((j : ℕ) → j < t → digit j (get_or m w 0) ≡ 0) → Some (w * 32 + t) ≡ lowest_from m (32 * from)
  lowest_at t h one zeros = sym ((lowest_marked m (32 * from)).finds (w * 32 + t) (omega arith) here below)
    where
      here : marked m (w * 32 + t) ≡ true
      here =
          let d : (w * 32 + t) / 32 ≡ w = omega arith in
          let r : (w * 32 + t) % 32 ≡ t = omega arith in
          rw (d, r, one) refl

      below : (k : ℕ) → 32 * from ≤ k → k < w * 32 + t → marked m k ≡ false
      below k a b = by_test (ltb (k / 32) w) (λ l. none_before k a (ltb-true _ _ l))
          (λ l. let d : k / 32 ≡ w = omega (arith, ltb-false (k / 32) w l) in rw (d, zeros (k % 32) (omega arith)) refl)
