-- The decimal digits of a number, without the bound on their count. Assumes nothing.
use mathlib.Core.Path.{◌≡◌, refl, ap, ◌∙◌}
use mathlib.Core.Bool.{Bool, true, false}
use mathlib.Core.List.{[], ◌∷◌, ◌++◌}
use Prim.Native.Nat.{ℕ, zero, suc, ◌+◌, ◌*◌, ◌/◌, ◌%◌, ◌^◌, ◌≤◌, ◌<◌}
use Prim.Native.Char.{code}
use native.Mathlib.Nat.{pow-suc}
use native.Mathlib.Omega.{arith}
use lib.Dec.{ltb}
use lib.ListN.{length, length-append}
use borrow.Author.Tests.{ltb-true, ltb-false, lt-ltb, le-ltb}
use Rattle.definition.specs.Text.{digits_next, digits_up_to, digits}
use Rattle.theory_base.proofs.Tests.{by_test}

pub tenth_less : (n d : ℕ) → 10 ≤ n → n < suc d → n / 10 < d
tenth_less n d h f = omega arith

fuel_enough : (d e n : ℕ) → n < d → n < e → digits_up_to d n ≡ digits_up_to e n
unfolding digits_up_to digits_next
fuel_enough zero e n f g = absurd (omega arith)
fuel_enough (suc d) zero n f g = absurd (omega arith)
fuel_enough (suc d) (suc e) n f g = go (ltb n 10) refl (fuel_enough d e (n / 10))
  where
    go : (b : Bool) → ltb n 10 ≡ b → (n / 10 < d → n / 10 < e → digits_up_to d (n / 10) ≡ digits_up_to e (n / 10)) → digits_next (digits_up_to d) n b ≡ digits_next (digits_up_to e) n b
    go true q ih = refl
    go false q ih = rw (ih (tenth_less n d (ltb-false n 10 q) f) (tenth_less n e (ltb-false n 10 q) g))

digits_enough : (d n : ℕ) → n < d → digits_up_to d n ≡ digits n
unfolding digits
digits_enough d n h = fuel_enough d (suc n) n h (omega arith)

pub digits_one : (n : ℕ) → n < 10 → digits n ≡ (code "0" + n) ∷ []
unfolding digits digits_up_to digits_next
digits_one n h = rw (lt-ltb n 10 h)

pub digits_more : (n : ℕ) → 10 ≤ n → digits n ≡ digits (n / 10) ++ ((code "0" + n % 10) ∷ [])
unfolding digits digits_up_to digits_next
digits_more n h =
    rw (le-ltb n 10 h) (rw (digits_enough n (n / 10) (tenth_less n n h (omega arith))))

-- how many they are
pub count_one : (n : ℕ) → n < 10 → length (digits n) ≡ 1
count_one n h = ap length (digits_one n h)

pub count_more : (n : ℕ) → 10 ≤ n → length (digits n) ≡ length (digits (n / 10)) + 1
count_more n h = ap length (digits_more n h) ∙ length-append (digits (n / 10)) _

tenth_above : (x n : ℕ) → x * 10 ≤ n → x ≤ n / 10
tenth_above x n h = omega arith

one_least : (k : ℕ) → 1 ≤ 10 ^ k
one_least zero = omega arith
one_least (suc k) = let h = one_least k in rw (pow-suc 10 k) (omega arith)

tenth_below : (x n : ℕ) → n < x * 10 → n / 10 < x
tenth_below x n h = omega arith

pub digits_within : (k n : ℕ) → n < 10 ^ suc k → length (digits n) ≤ suc k
digits_within zero n h = omega (arith, count_one n h)
digits_within (suc k) n h = by_test (ltb n 10)
    (λ e. omega (arith, count_one n (ltb-true n 10 e)))
    (λ e. omega (arith, count_more n (ltb-false n 10 e), digits_within k (n / 10) (tenth_below (10 ^ suc k) n (rw (pow-suc 10 (suc k)) at h))))

pub count_exact : (k n : ℕ) → 10 ^ k ≤ n → n < 10 ^ suc k → length (digits n) ≡ suc k
count_exact zero n l h = count_one n h
count_exact (suc k) n l h =
    let low = rw (pow-suc 10 k) at l in
    let rest = count_exact k (n / 10) (tenth_above (10 ^ k) n low) (tenth_below (10 ^ suc k) n (rw (pow-suc 10 (suc k)) at h)) in
    omega (arith, count_more n (omega (arith, low, one_least k)), rest)
