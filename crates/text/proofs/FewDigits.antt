-- How many digits a number has, by the power of ten that it reaches.
use mathlib.Core.Path.{◌≡◌, sym}
use Prim.Native.Nat.{ℕ, suc, ◌+◌, ◌*◌, ◌^◌, ◌<◌, ◌≤◌}
use native.Mathlib.Nat.{pow-suc}
use native.Mathlib.Omega.{arith}
use lib.ListN.{length}
use Rattle.definition.specs.Text.{digits}
use Rattle.theory_base.proofs.Digits.{count_one, count_exact}

pub one_digit : (n : ℕ) → n < 10 → 1 ≡ length (digits n)
one_digit n h = sym (count_one n h)

pub two_digits : (n : ℕ) → 10 ≤ n → n < 100 → 2 ≡ length (digits n)
two_digits n l h = sym (count_exact 1 n l h)

pub three_digits : (n : ℕ) → 100 ≤ n → n < 1000 → 3 ≡ length (digits n)
three_digits n l h = sym (count_exact 2 n l h)

pub four_digits : (n : ℕ) → 1000 ≤ n → n < 10000 → 4 ≡ length (digits n)
four_digits n l h = sym (count_exact 3 n l h)

pub five_digits : (n : ℕ) → 10000 ≤ n → n < 100000 → 5 ≡ length (digits n)
five_digits n l h = sym (count_exact 4 n l h)

pub digits_by_power : (k n : ℕ) → 10 ^ k ≤ n → n < 10 * 10 ^ k → k + 1 ≡ length (digits n)
digits_by_power k n l h = let e : 10 ^ suc k ≡ 10 * 10 ^ k = omega (arith, pow-suc 10 k) in omega (arith, count_exact k n l (rw e h))
