-- Laws of reading numbers. Assumes nothing.
use mathlib.Core.Path.{◌≡◌, refl, ap, ◌∙◌}
use mathlib.Core.Bool.{Bool, true, false, cond, not, ◌&&◌}
use mathlib.Core.List.{[], ◌∷◌}
use mathlib.Core.Option.{Option, some, none}
use Prim.Native.Nat.{ℕ, zero, suc, ◌+◌, ◌-◌, ◌*◌, ◌≤◌, ◌<◌, min}
use native.Mathlib.Omega.{arith}
use native.Mathlib.Numerals.{add-one}
use lib.Dec.{leb}
use lib.IntN.{ℤ, nat_abs}
use lib.ListN.{length, get_or, take, drop, drop_of_length-le}
use lib.Seq.{drop-cons}
use borrow.Author.Tests.{leb-true, leb-false, le-leb, lt-leb, ne_eqb}
use Rattle.definition.specs.Lists.{all}
use Rattle.definition.specs.Text.{Bytes, is, digit, digit_value, value_from, natural, negated, not_negated, number}
use Rattle.theory_base.proofs.Slices.{rest_is}
use Rattle.theory_base.proofs.Tests.{by_test, and_l, to_true, of_true}
use Rattle.literals.proofs.Laws.{signed_small}
use Rattle.std.proofs.Common.{Result, Ok, Err}
use Rattle.text.specs.declared.NumberError.{NumberError}
use Rattle.text.specs.declared.NumberError.TheVariants.{TooLarge, NotANumber}
use Rattle.text.specs.Numbers.{all_digits, natural_class, number_class, with_sign}
use Rattle.tables.specs.Sizes.{log_reach}

-- ---- digits only

all_digits_cons : (n b : ℕ) (t : Bytes) → all_digits n (b ∷ t) ≡ cond (digit b) (all_digits (n * 10 + (b - 48)) t) none
unfolding all_digits all value_from digit_value
all_digits_cons n b t = go (digit b)
  where
    go : (d : Bool) → cond (d && all digit t) (some (value_from (n * 10 + (b - 48)) t)) none ≡ cond d (cond (all digit t) (some (value_from (n * 10 + (b - 48)) t)) none) none
    go true = refl
    go false = refl

all_digits_none : (n : ℕ) → all_digits n [] ≡ some n
unfolding all_digits all value_from
all_digits_none n = refl

module _ (most : ℕ) (m : most ≤ 1_000_000) where
  some_cut : (a b : ℕ) → min a 1_000_001 ≡ min b 1_000_001 → natural_class most (some a) ≡ natural_class most (some b)
  some_cut a b h = by_test (leb a most)
      (λ e. let k : a ≡ b = omega (arith, leb-true a most e) in ap (λ (n : ℕ). natural_class most (some n)) k)
      (λ e. rw (e, lt-leb b most (omega (arith, leb-false a most e))) refl)

  -- only the value cut off counts
  cut : (t : Bytes) (a b : ℕ) → min a 1_000_001 ≡ min b 1_000_001 → natural_class most (all_digits a t) ≡ natural_class most (all_digits b t)
  cut [] a b h = rw (all_digits_none a, all_digits_none b) (some_cut a b h)
  cut (d ∷ t) a b h = rw (all_digits_cons a d t, all_digits_cons b d t) (go (digit d) (cut t (a * 10 + (d - 48)) (b * 10 + (d - 48)) (omega arith)))
    where
      go : (x : Bool) → natural_class most (all_digits (a * 10 + (d - 48)) t) ≡ natural_class most (all_digits (b * 10 + (d - 48)) t) →
          natural_class most (cond x (all_digits (a * 10 + (d - 48)) t) none) ≡ natural_class most (cond x (all_digits (b * 10 + (d - 48)) t) none)
      go true e = e
      go false e = refl

  module _ (s : Bytes) (i v : ℕ) where
    pub digits_step : i < length s → digit (get_or s i 0) ≡ true → natural_class most (all_digits (min (v * 10 + (get_or s i 0 - 48)) 1_000_001) (drop (i + 1) s)) ≡ natural_class most (all_digits v (drop i s))
    digits_step h e = rw (drop-cons s i 0 h, all_digits_cons v (get_or s i 0) (drop (suc i) s), e, add-one i) (cut (drop (suc i) s) _ _ (omega arith))

    pub digits_stop : i < length s → digit (get_or s i 0) ≡ false → Err NotANumber ≡ natural_class most (all_digits v (drop i s))
    digits_stop h e = rw (drop-cons s i 0 h, all_digits_cons v (get_or s i 0) (drop (suc i) s), e) refl

    pub digits_end : length s ≤ i → v ≤ most → Ok v ≡ natural_class most (all_digits v (drop i s))
    digits_end h l = rw (drop_of_length-le s h, all_digits_none v, le-leb v most l) refl

    pub digits_large : length s ≤ i → most < v → Err TooLarge ≡ natural_class most (all_digits v (drop i s))
    digits_large h l = rw (drop_of_length-le s h, all_digits_none v, lt-leb v most l) refl

pub digit_least : (b : ℕ) → digit b ≡ true → 48 ≤ b
unfolding digit
digit_least b e = leb-true 48 b (to_true (and_l (leb 48 b) (leb b 57) (of_true e)))

-- ---- 0, or digits that begin with 1 to 9

module _ (most : ℕ) where
  pub natural_none : (s : Bytes) → length s ≡ 0 → Err NotANumber ≡ natural_class most (natural s)
  unfolding natural
  natural_none [] h = refl
  natural_none (b ∷ s) h = absurd (omega arith)

  pub natural_zeros : (s : Bytes) → 2 ≤ length s → get_or s 0 0 ≡ 48 → Err NotANumber ≡ natural_class most (natural s)
  unfolding natural digit digit_value is
  natural_zeros [] h e = absurd (omega arith)
  natural_zeros (b ∷ []) h e = absurd (omega arith)
  natural_zeros (b ∷ c ∷ s) h e = rw e refl

pub natural_digits : (s : Bytes) → 1 ≤ length s → (2 ≤ length s → get_or s 0 0 ≡ 48 → ⊥) → all_digits 0 s ≡ natural s
unfolding natural is digit_value all_digits all value_from
natural_digits [] h n = absurd (omega arith)
natural_digits (b ∷ []) h n =
    let k : 0 * 10 + (b - 48) ≡ b - 48 = omega arith in
    all_digits_cons 0 b [] ∙ ap (λ (n : ℕ). cond (digit b) (some n) none) k
natural_digits (b ∷ c ∷ s) h n = rw (ne_eqb b 48 (n (omega arith))) (go (digit b) (all digit (c ∷ s)) (some (value_from 0 (b ∷ c ∷ s))))
  where
    go : (d x : Bool) (o : Option ℕ) → cond (d && x) o none ≡ cond (d && not false && x) o none
    go true x o = refl
    go false x o = refl

-- ---- a sign

sign_plain : (o : Option ℕ) → with_sign false (natural_class log_reach o) ≡ number_class (not_negated o)
unfolding not_negated
sign_plain none = refl
sign_plain (some n) = by_test (leb n log_reach)
    (λ e. rw e (ap Ok (signed_small false n (omega (arith, leb-true n log_reach e)))))
    (λ e. rw e refl)

sign_minus : (o : Option ℕ) → with_sign true (natural_class log_reach o) ≡ number_class (negated o)
unfolding negated
sign_minus none = refl
sign_minus (some zero) = refl
sign_minus (some (suc n)) = by_test (leb (suc n) log_reach)
    (λ e. rw e (ap Ok (signed_small true (suc n) (omega (arith, leb-true (suc n) log_reach e)))))
    (λ e. rw e refl)

number_minus : (s : Bytes) → 1 ≤ length s → get_or s 0 0 ≡ 45 → negated (natural (drop 1 s)) ≡ number s
unfolding number is
number_minus [] h e = absurd (omega arith)
number_minus (b ∷ s) h e = rw e refl

number_plain : (s : Bytes) → (1 ≤ length s → get_or s 0 0 ≡ 45 → ⊥) → not_negated (natural s) ≡ number s
unfolding number natural not_negated is
number_plain [] n = refl
number_plain (b ∷ s) n = rw (ne_eqb b 45 (n (omega arith))) refl

module _ (s : Bytes) where
  pub minus_read : 1 ≤ length s → get_or s 0 0 ≡ 45 → with_sign true (natural_class log_reach (natural (take (length s - 1) (drop 1 s)))) ≡ number_class (number s)
  minus_read h e =
      ap (λ (t : Bytes). with_sign true (natural_class log_reach (natural t))) (rest_is s 1) ∙ sign_minus (natural (drop 1 s)) ∙ ap number_class (number_minus s h e)

  pub plain_read : (1 ≤ length s → get_or s 0 0 ≡ 45 → ⊥) → with_sign false (natural_class log_reach (natural s)) ≡ number_class (number s)
  plain_read n = sign_plain (natural s) ∙ ap number_class (number_plain s n)

-- ---- what the answers say of the definition's number

abbrev pub NumberSays : Option ℤ → Result ℤ NumberError → Type 0
NumberSays o (Ok z) = (o ≡ some z) × (nat_abs z ≤ log_reach)
NumberSays o (Err TooLarge) = (z : ℤ) × (o ≡ some z) × (log_reach < nat_abs z)
NumberSays o (Err NotANumber) = o ≡ none

number_says : (o : Option ℤ) → NumberSays o (number_class o)
number_says none = refl
number_says (some z) = by_test (leb (nat_abs z) log_reach)
    (λ e. rw e (refl, leb-true (nat_abs z) log_reach e))
    (λ e. rw e (z, refl, leb-false (nat_abs z) log_reach e))

pub number_answer : (o : Option ℤ) {r : Result ℤ NumberError} → r ≡ number_class o → NumberSays o r
number_answer o e = rw e (number_says o)
