-- What the readers of numbers answer: the definition's number, or that there is none, or that it is too large to matter.
use Rattle.std.specs.Prelude.{◌≡◌, refl, Bool, true, false, cond, ℕ, zero, suc, leb, ℤ, negsuc, nat_abs, Result, Ok, Err}
use Rattle.std.proofs.Math.Option.{Option, some, none}
use Rattle.definition.specs.Lists.{all}
use Rattle.definition.specs.Lists as Lists
use Rattle.definition.specs.Text.{Bytes, bytes, digit, value_from, natural, number}
use Rattle.definition.specs.Text as Text
use Rattle.literals.specs.Literal.{signed_of}
use Rattle.tables.specs.Sizes.{log_reach}
use Rattle.text.specs.declared.NumberError.{NumberError}
use Rattle.text.specs.declared.NumberError.TheVariants.{TooLarge, NotANumber}

-- the value of digits only, after digits of the value n
unfoldable pub all_digits : ℕ → Bytes → Option ℕ
all_digits n t = cond (all digit t) (some (value_from n t)) none

abbrev pub natural_class : ℕ → Option ℕ → Result ℕ NumberError
natural_class most none = Err NotANumber
natural_class most (some n) = cond (leb n most) (Ok n) (Err TooLarge)

abbrev pub number_class : Option ℤ → Result ℤ NumberError
number_class none = Err NotANumber
number_class (some z) = cond (leb (nat_abs z) log_reach) (Ok z) (Err TooLarge)

-- a sign before a number; 0 takes none
abbrev pub sign_value : Bool → ℕ → Result ℤ NumberError
sign_value true zero = Err NotANumber
sign_value true (suc n) = Ok (signed_of true (suc n))
sign_value false n = Ok (signed_of false n)

abbrev pub with_sign : Bool → Result ℕ NumberError → Result ℤ NumberError
with_sign negative (Ok n) = sign_value negative n
with_sign negative (Err e) = Err e

examples : (number_class (number (bytes "-12")) ≡ Ok (negsuc 11)) × (number_class (number (bytes "99999999999999999999")) ≡ Err TooLarge) × (number_class (number (bytes "-0")) ≡ Err NotANumber) × (natural_class 1_000_000 (natural (bytes "01")) ≡ Err NotANumber)
unfolding Text.computing Lists.computing
examples = (refl, refl, refl, refl)
