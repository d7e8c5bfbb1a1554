-- Laws for the callers: a signed argument, the negation, the place in a table, headers. Assumes nothing.
use mathlib.Core.Path.{◌≡◌, refl, sym, ap, ◌∙◌}
use mathlib.Core.Bool.{Bool, true, false, not}
use Prim.Native.Nat.{ℕ, suc, ◌+◌, ◌^◌, ◌<◌, min}
use native.Mathlib.Omega.{arith}
use lib.IntN.{ℤ, pos, negsuc, neg_ℤ, nat_abs}
use mir.Syntax.{w32}
use mir.Val.{SFits, of_z, to_z}
use mir.ValLaws.{to_z-of_z}
use Rattle.literals.specs.Literal.{largest, negative, with_sign, signed_of, negation, index_of, header_of, flip, header_literals}

-- ---- a signed argument of a call: the callee's clauses speak of the number read back from its bits

pub at_arg {ℓ} : {X : Type ℓ} (g : ℤ → X) (l : ℤ) → SFits w32 l → g (to_z w32 (of_z w32 l)) ≡ g l
at_arg g l f = ap g (to_z-of_z w32 l f)

pub at_arg2 {ℓ} : {X : Type ℓ} (g : ℤ → ℤ → X) (a b : ℤ) → SFits w32 a → SFits w32 b → g (to_z w32 (of_z w32 a)) (to_z w32 (of_z w32 b)) ≡ g a b
at_arg2 g a b f h = at_arg (λ (z : ℤ). g z (to_z w32 (of_z w32 b))) a f ∙ at_arg (g a) b h

-- what a call of g answers at a signed argument, and what is known of g where the answer was t
pub answer {ℓ} : {X : Type ℓ} (g : ℤ → X) (l : ℤ) → SFits w32 l → {r : X} → r ≡ g (to_z w32 (of_z w32 l)) → r ≡ g l
answer g l f e = e ∙ at_arg g l f

pub answered {ℓ} : {X : Type ℓ} (g : ℤ → X) (l : ℤ) → SFits w32 l → {r t : X} → r ≡ g (to_z w32 (of_z w32 l)) → r ≡ t → g l ≡ t
answered g l f e k = sym (answer g l f e) ∙ k

-- the same of a call at what `negated` answered
pub answer_negated {ℓ} : {X : Type ℓ} (g : ℤ → X) (l : ℤ) → SFits w32 l → {n : ℤ} → SFits w32 n → n ≡ negation (to_z w32 (of_z w32 l)) → {r : X} → r ≡ g (to_z w32 (of_z w32 n)) → r ≡ g (negation l)
answer_negated g l f {n} h e k = answer g n h k ∙ ap g (answer negation l f e)

-- ---- the sign

pub signed_small : (s : Bool) (n : ℕ) → n < 2 ^ 31 → signed_of s n ≡ with_sign s n
signed_small s n h = let e : min n largest ≡ n = omega arith in ap (with_sign s) e

-- below the lowest i32 nothing is cut off
pub negation_small : (l : ℤ) → nat_abs l < 2 ^ 31 → negation l ≡ neg_ℤ l
negation_small (pos n) h = signed_small true n h
negation_small (negsuc n) h = signed_small false (suc n) h

-- ---- the place in a table

pub index_within : (l : ℤ) → index_of l < nat_abs l + nat_abs l + 2
index_within (pos n) = omega arith
index_within (negsuc n) = omega arith

pub index_injective : (a b : ℤ) → index_of a ≡ index_of b → a ≡ b
index_injective (pos m) (pos n) e = let k : m ≡ n = omega arith in ap pos k
index_injective (pos m) (negsuc n) e = absurd (odd e)
  where
    odd : m + m ≡ suc n + suc n + 1 → ⊥
    odd h = omega arith
index_injective (negsuc m) (pos n) e = absurd (odd e)
  where
    odd : suc m + suc m + 1 ≡ n + n → ⊥
    odd h = omega arith
index_injective (negsuc m) (negsuc n) e = let k : m ≡ n = omega arith in ap negsuc k

-- ---- headers

pub header_small : (n : ℕ) → n < 2 ^ 31 → header_of n ≡ pos n
header_small n h = signed_small false n h

pub literals_header : (n : ℕ) → n < 2 ^ 31 → header_literals (header_of n) ≡ n
literals_header n h = omega arith

pub flip_negative : (h : ℤ) → negative (flip h) ≡ not (negative h)
flip_negative (pos n) = refl
flip_negative (negsuc n) = refl

pub literals_flip : (h : ℤ) → header_literals (flip h) ≡ header_literals h
literals_flip (pos n) = refl
literals_flip (negsuc n) = refl

pub literals_within : (h : ℤ) → SFits w32 h → header_literals h < 2 ^ 31
literals_within (pos n) f = omega arith
literals_within (negsuc n) f = omega arith
