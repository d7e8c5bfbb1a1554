-- Literals as i32. An i32's value in a contract is a whole number; the functions are total, so those that count up to 2^31 saturate.
use Rattle.std.specs.Prelude.{◌≡◌, refl, Bool, true, false, not, ℕ, suc, ◌+◌, min, ℤ, pos, negsuc, neg_ℤ, nat_abs}
use Rattle.std.specs.Int.Signed.{mag}

-- the largest i32, 2^31 - 1
abbrev pub largest : ℕ
largest = 2147483647

-- l is a negated variable
abbrev pub negative : ℤ → Bool
negative (pos n) = false
negative (negsuc n) = true

-- the literal of a sign and a variable
abbrev pub with_sign : Bool → ℕ → ℤ
with_sign true n = neg_ℤ (pos n)
with_sign false n = pos n

-- the same, cut off at the largest i32
abbrev pub signed_of : Bool → ℕ → ℤ
signed_of negated n = with_sign negated (min n largest)

-- The negation of l. The lowest i32, -2^31, has none among the i32: there it is the largest, 2^31 - 1.
abbrev pub negation : ℤ → ℤ
negation l = signed_of (not (negative l)) (nat_abs l)

-- the place of a literal in a table with two entries for each variable: 2v for v, 2v + 1 for -v
abbrev pub index_of : ℤ → ℕ
index_of (pos n) = n + n
index_of (negsuc n) = suc n + suc n + 1

-- A clause in a store is its header and its literals. The header of n literals is n where the clause stands and -1 - n where it is deleted.
abbrev pub header_of : ℕ → ℤ
header_of n = pos (min n largest)

abbrev pub flip : ℤ → ℤ
flip (pos n) = negsuc n
flip (negsuc n) = pos n

abbrev pub header_literals : ℤ → ℕ
header_literals h = mag h

examples : (index_of (negsuc 6) ≡ 15) × (negation (negsuc 2147483647) ≡ pos 2147483647) × (flip (header_of 3) ≡ negsuc 3) × (header_literals (flip (header_of 3)) ≡ 3)
examples = (refl, refl, refl, refl)
