-- The decimal digits of a number are read as that number; their bytes.
use Rattle.theory_base.proofs.Digits.{tenth_less, digits_one, digits_more}
use mathlib.Core.Path.{◌≡◌, refl, ap}
use mathlib.Core.Bool.{Bool, true, false}
use mathlib.Core.List.{[], ◌∷◌, ◌++◌}
use mathlib.Core.Option.{some}
use Prim.Native.Nat.{ℕ, zero, suc, ◌+◌, ◌*◌, ◌/◌, ◌%◌, ◌≤◌, ◌<◌}
use Prim.Native.Char.{code}
use native.Mathlib.Omega.{arith}
use lib.Dec.{ltb}
use lib.IntN.{ℤ, pos, negsuc}
use lib.ListN.{length}
use borrow.Author.Tests.{ltb-true, ltb-false, le-leb, ne_eqb}
use Rattle.definition.specs.Lists.{all}
use Rattle.definition.specs.Text.{Bytes, is, digit, digit_value, value_from, natural, negated, not_negated, number, digits, literal_text}

-- every byte is from a to z
abbrev pub Between : ℕ → ℕ → Bytes → Type 0
Between a z [] = Unit {0}
Between a z (b ∷ t) = (a ≤ b) × (b ≤ z) × Between a z t

between-++ : (a z : ℕ) (s t : Bytes) → Between a z s → Between a z t → Between a z (s ++ t)
between-++ a z [] t f g = g
between-++ a z (b ∷ s) t f g = (f.0, f.1, between-++ a z s t f.2 g)

-- ---- digits are read as their number
value-++ : (n : ℕ) (s t : Bytes) → value_from n (s ++ t) ≡ value_from (value_from n s) t
unfolding value_from
value-++ n [] t = refl
value-++ n (b ∷ s) t = value-++ (n * 10 + digit_value b) s t

-- the digits of n; the first is `0` only where n is 0
abbrev Numeral : ℕ → Bytes → Type 0
Numeral n [] = ⊥
Numeral n (b ∷ t) = Between 48 57 (b ∷ t) × (value_from 0 (b ∷ t) ≡ n) × (1 ≤ n → 49 ≤ b) × (1 ≤ length t → 1 ≤ n)

numeral_one : (n : ℕ) → n < 10 → Numeral n ((code "0" + n) ∷ [])
unfolding value_from digit_value
numeral_one n h = ((omega arith, omega arith, tt), omega arith, λ p. omega arith, λ p. absurd (omega arith))

numeral_more : (m k : ℕ) (t : Bytes) → 1 ≤ m → k < 10 → Numeral m t → Numeral (m * 10 + k) (t ++ ((code "0" + k) ∷ []))
unfolding value_from digit_value
numeral_more m k (b ∷ t) h l f = (
  between-++ 48 57 (b ∷ t) ((code "0" + k) ∷ []) f.0 (omega arith, omega arith, tt),
  rw (value-++ 0 (b ∷ t) ((code "0" + k) ∷ []), f.1) (omega arith),
  λ p. f.2 h,
  λ p. omega arith,
)
numeral_more m k [] h l f = elim f [ ]

numeral_up_to : (d n : ℕ) → n < d → Numeral n (digits n)
numeral_up_to zero n h = absurd (omega arith)
numeral_up_to (suc d) n h = go (ltb n 10) refl (numeral_up_to d (n / 10))
  where
    go : (b : Bool) → ltb n 10 ≡ b → (n / 10 < d → Numeral (n / 10) (digits (n / 10))) → Numeral n (digits n)
    go true q ih = rw (digits_one n (ltb-true n 10 q)) (numeral_one n (ltb-true n 10 q))
    go false q ih =
        let l = ltb-false n 10 q in
        let e : n / 10 * 10 + n % 10 ≡ n = omega arith in
        rw (digits_more n l) (rw e at (numeral_more (n / 10) (n % 10) (digits (n / 10)) (omega arith) (omega arith) (ih (tenth_less n d l h))))

numeral_digits : (n : ℕ) → Numeral n (digits n)
numeral_digits n = numeral_up_to (suc n) n (omega arith)

is_digit : (b : ℕ) → 48 ≤ b → b ≤ 57 → digit b ≡ true
unfolding digit
is_digit b f g = rw (le-leb 48 b f, le-leb b 57 g)

all_digits : (t : Bytes) → Between 48 57 t → all digit t ≡ true
unfolding all
all_digits [] f = refl
all_digits (b ∷ t) f = rw (is_digit b f.0 f.1, all_digits t f.2)

natural_numeral : (n : ℕ) (t : Bytes) → Numeral n t → natural t ≡ some n
unfolding natural is value_from digit_value
natural_numeral n (b ∷ []) f = rw (is_digit b f.0.0 f.0.1) (ap some (omega (arith, f.1)))
natural_numeral n (b ∷ c ∷ t) f =
    let h : 1 ≤ n = f.3 (omega arith) in
    let g : 49 ≤ b = f.2 h in
    rw (is_digit b f.0.0 f.0.1, ne_eqb b 48 (λ e. omega arith), all_digits (c ∷ t) f.0.2) (ap some f.1)
natural_numeral n [] f = elim f [ ]

pub natural_digits : (n : ℕ) → natural (digits n) ≡ some n
natural_digits n = natural_numeral n (digits n) (numeral_digits n)

number_numeral : (n : ℕ) (t : Bytes) → Numeral n t → number t ≡ some (pos n)
unfolding number is not_negated
number_numeral n (b ∷ t) f = rw (ne_eqb b 45 (λ e. omega (arith, f.0.0)), natural_numeral n (b ∷ t) f)
number_numeral n [] f = elim f [ ]

pub number_literal : (l : ℤ) → number (literal_text l) ≡ some l
unfolding literal_text number is negated
number_literal (pos n) = number_numeral n (digits n) (numeral_digits n)
number_literal (negsuc n) = rw (natural_digits (suc n))

-- ---- the bytes of a number: digits, `-` before them, at least one byte
between_digits : (n : ℕ) (t : Bytes) → Numeral n t → Between 48 57 t
between_digits n (b ∷ t) f = f.0
between_digits n [] f = elim f [ ]

between_wider : (t : Bytes) → Between 48 57 t → Between 45 57 t
between_wider [] f = tt
between_wider (b ∷ t) f = (omega (arith, f.0), f.1, between_wider t f.2)

digits_between : (n : ℕ) → Between 48 57 (digits n)
digits_between n = between_digits n (digits n) (numeral_digits n)

pub literal_between : (l : ℤ) → Between 45 57 (literal_text l)
unfolding literal_text
literal_between (pos n) = between_wider (digits n) (digits_between n)
literal_between (negsuc n) = (omega arith, omega arith, between_wider (digits (suc n)) (digits_between (suc n)))

numeral_some : (n : ℕ) (t : Bytes) → Numeral n t → 1 ≤ length t
numeral_some n (b ∷ t) f = omega arith
numeral_some n [] f = elim f [ ]

digits_some : (n : ℕ) → 1 ≤ length (digits n)
digits_some n = numeral_some n (digits n) (numeral_digits n)

pub literal_some : (l : ℤ) → 1 ≤ length (literal_text l)
unfolding literal_text
literal_some (pos n) = digits_some n
literal_some (negsuc n) = omega arith
