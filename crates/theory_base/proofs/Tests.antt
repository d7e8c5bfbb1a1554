-- Tests as facts. Assumes nothing.
use mathlib.Core.Path.{◌≡◌, refl, sym}
use mathlib.Core.Logic.{◌⊎◌, inl, inr}
use mathlib.Core.Bool.{Bool, true, false, not, ◌&&◌, ◌||◌}
use Prim.Native.Nat.{◌≤◌, ◌+◌}
use native.Mathlib.Omega.{arith}
use lib.Dec.{T}
use Rattle.definition.specs.Lists.{bit}

pub to_true : {b : Bool} → T b → b ≡ true
to_true {b = true} t = refl
to_true {b = false} t = elim t [ ]

pub of_true : {b : Bool} → b ≡ true → T b
of_true e = rw e tt

-- true is not false
pub differ : {P : Type 0} {b : Bool} → T b → b ≡ false → P
differ t e = absurd (rw e at t)

pub to_false : {b : Bool} → (T b → ⊥) → b ≡ false
to_false {b = true} n = absurd (n tt)
to_false {b = false} n = refl

pub not_true : {b : Bool} → T (not b) → b ≡ false
not_true {b = false} t = refl
not_true {b = true} t = elim t [ ]

pub of_false : {b : Bool} → b ≡ false → T (not b)
of_false {b = true} e = differ {b = true} tt e
of_false {b = false} e = tt

pub and_l : (a b : Bool) → T (a && b) → T a
and_l true b t = tt
and_l false b t = t

pub and_r : (a b : Bool) → T (a && b) → T b
and_r true b t = t
and_r false b t = elim t [ ]

pub and_i : (a b : Bool) → T a → T b → T (a && b)
and_i true b s t = t
and_i false b s t = s

pub or_cases : (a b : Bool) → T (a || b) → T a ⊎ T b
or_cases true b t = inl t
or_cases false b t = inr t

pub or_l : (a b : Bool) → T a → T (a || b)
or_l true b t = tt
or_l false b t = elim t [ ]

pub or_r : (a b : Bool) → T b → T (a || b)
or_r true b t = tt
or_r false b t = t

-- each gives the other
pub each_way : {a b : Bool} → (T a → T b) → (T b → T a) → a ≡ b
each_way {a = true} f g = sym (to_true (f tt))
each_way {a = false} f g = sym (to_false g)

-- neither holds
pub or_false_both : (a b : Bool) → (a || b) ≡ false → (a ≡ false) × (b ≡ false)
or_false_both true b e = differ {b = true} tt e
or_false_both false b e = (refl, e)

-- by a test and its outcome
pub by_test : {P : Type 0} (b : Bool) → (b ≡ true → P) → (b ≡ false → P) → P
by_test true t f = t refl
by_test false t f = f refl

pub bit≤1 : (b : Bool) → bit b ≤ 1
bit≤1 true = omega arith
bit≤1 false = omega arith

pub bit_not : (b : Bool) → bit (not b) + bit b ≡ 1
bit_not true = refl
bit_not false = refl

-- a conjunction, by its second part
pub second_holds : (a b : Bool) → b ≡ true → a ≡ (a && b)
second_holds true b e = sym e
second_holds false b e = refl

pub second_fails : (a b : Bool) → b ≡ false → false ≡ (a && b)
second_fails true b e = sym e
second_fails false b e = refl
