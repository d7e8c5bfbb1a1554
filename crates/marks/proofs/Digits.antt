-- Digits of a number by induction on their place: digit 0 is the remainder by 2, digit j + 1 is digit j of the half. Assumes nothing.
use mathlib.Core.Path.{◌≡◌, refl, sym, ap, ◌∙◌}
use Prim.Native.Nat.{ℕ, zero, suc, ◌-◌, ◌/◌, ◌%◌, ◌^◌, ◌<◌, min, max}
use native.Mathlib.Nat.{zero-div, div-one, pow-suc}
use native.Mathlib.Numerals.{one-add}
use native.Mathlib.Omega.{arith}
use lib.Bits.{bit_and, bit_or, and_step, or_step, and_shr, or_shr}
use lib.Count.{count_trailing_zeros, under}
use lib.Dec.{eqb, eqb-zero-suc, eqb-suc-zero, eqb-suc-suc}
use lib.Pow.{shr-shr}
use Rattle.definition.specs.Lists.{bit}
use Rattle.marks.specs.Marks.{digit}

digit_first : (n : ℕ) → digit 0 n ≡ n % 2
digit_first n = ap (λ (x : ℕ). x % 2) (div-one n)

digit_next : (j n : ℕ) → digit (suc j) n ≡ digit j (n / 2)
digit_next j n = ap (λ (x : ℕ). x % 2) (ap (λ (i : ℕ). n / 2 ^ i) (sym (one-add j)) ∙ sym (shr-shr n 1 j))

pub digit_of_zero : (j : ℕ) → digit j 0 ≡ 0
digit_of_zero j = ap (λ (x : ℕ). x % 2) (zero-div (2 ^ j))

pub digit_or : (j a b : ℕ) → digit j (bit_or a b) ≡ max (digit j a) (digit j b)
digit_or j a b = rw (or_shr a b j) (omega (arith, or_step (a / 2 ^ j) (b / 2 ^ j)))

pub digit_and : (j a b : ℕ) → digit j (bit_and a b) ≡ min (digit j a) (digit j b)
digit_and j a b = rw (and_shr a b j) (omega (arith, and_step (a / 2 ^ j) (b / 2 ^ j)))

-- a power of two has one digit that is 1
pub digit_power : (i j : ℕ) → digit j (2 ^ i) ≡ bit (eqb i j)
digit_power zero zero = refl
digit_power zero (suc j) = digit_next j 1 ∙ digit_of_zero j ∙ ap bit (sym (eqb-zero-suc j))
digit_power (suc i) zero = digit_first (2 ^ suc i) ∙ omega (arith, pow-suc 2 i) ∙ ap bit (sym (eqb-suc-zero i))
digit_power (suc i) (suc j) =
    let half : 2 ^ suc i / 2 ≡ 2 ^ i = omega (arith, pow-suc 2 i) in
    digit_next j (2 ^ suc i) ∙ ap (digit j) half ∙ digit_power i j ∙ ap bit (sym (eqb-suc-suc i j))

-- the complement has the other digits
pub digit_complement : (k j a : ℕ) → a < 2 ^ k → j < k → digit j (2 ^ k - 1 - a) ≡ 1 - digit j a
digit_complement zero j a h l = absurd (omega arith)
digit_complement (suc k) zero a h l =
    let r : (2 ^ suc k - 1 - a) % 2 ≡ 1 - a % 2 = omega (arith, pow-suc 2 k) in
    digit_first (2 ^ suc k - 1 - a) ∙ r ∙ ap (λ (x : ℕ). 1 - x) (sym (digit_first a))
digit_complement (suc k) (suc j) a h l =
    let half : (2 ^ suc k - 1 - a) / 2 ≡ 2 ^ k - 1 - a / 2 = omega (arith, pow-suc 2 k) in
    digit_next j (2 ^ suc k - 1 - a) ∙ ap (digit j) half ∙ digit_complement k j (a / 2) (omega (arith, pow-suc 2 k)) (omega arith)
    ∙ ap (λ (x : ℕ). 1 - x) (sym (digit_next j a))

-- the digit t of n is 1, and none below it
abbrev LowestDigit : ℕ → ℕ → ℕ → Type 0
LowestDigit k n t = (t < k) × (digit t n ≡ 1) × ((j : ℕ) → j < t → digit j n ≡ 0)

pub trailing_lowest : (k n : ℕ) → n < 2 ^ k → 0 < n → LowestDigit k n (count_trailing_zeros k n)
unfolding count_trailing_zeros
trailing_lowest zero n h p = absurd (omega arith)
trailing_lowest (suc k) n h p = go (n % 2) refl (trailing_lowest k (n / 2) (omega (arith, pow-suc 2 k)))
  where
    go : (d : ℕ) → n % 2 ≡ d → (0 < n / 2 → LowestDigit k (n / 2) (count_trailing_zeros k (n / 2))) → LowestDigit (suc k) n (under d (count_trailing_zeros k (n / 2)))
    go zero e ih = let r = ih (omega arith) in (omega (arith, r.0), digit_next _ n ∙ r.1, below r)
      where
        below : LowestDigit k (n / 2) (count_trailing_zeros k (n / 2)) → (j : ℕ) → j < suc (count_trailing_zeros k (n / 2)) → digit j n ≡ 0
        below r zero l = digit_first n ∙ e
        below r (suc j) l = digit_next j n ∙ r.2 j (omega arith)
    go (suc d) e ih = (omega arith, omega (arith, digit_first n), λ j l. absurd (omega arith))
