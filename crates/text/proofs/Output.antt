-- Laws of writing at a place that may lie past the buffer's end. Assumes nothing.
use mathlib.Core.Path.{◌≡◌, refl, sym, ap, ◌∙◌}
use mathlib.Core.List.{[], ◌∷◌, ◌++◌, append-nil, append_assoc}
use Prim.Native.Nat.{ℕ, suc, ◌+◌, ◌-◌, ◌/◌, ◌%◌, ◌^◌, ◌≤◌, ◌<◌}
use native.Mathlib.Omega.{arith}
use lib.IntN.{ℤ, pos, negsuc, nat_abs}
use lib.ListN.{length, set, take, drop, length-append}
use lib.Seq.{sets, sets-eq, length-sets}
use mir.Syntax.{w32}
use mir.Val.{SFits}
use Rattle.definition.specs.Text.{Bytes, digits, literal_text}
use Rattle.theory_base.proofs.Tests.{differ, by_test}
use borrow.Author.Tests.{ltb-true, ltb-false}
use lib.Dec.{ltb}
use Rattle.literals.specs.Literal.{negative}
use mathlib.Core.Bool.{true, false}
use Rattle.text.specs.Output.{Put}
use Rattle.theory_base.proofs.Slices.{sets_then, sets_first, sets_past}
use Rattle.theory_base.proofs.Digits.{digits_one, digits_more, count_one, count_more, digits_within}

-- ---- nothing, one byte, one text after another

pub put_none : (l : Bytes) (at : ℕ) → Put l at [] at l
put_none l at = record { next = omega arith; kept = refl }

pub put_then : {l m n : Bytes} {at r q : ℕ} {xs ys : Bytes} → Put l at xs r m → Put m r ys q n → Put l at (xs ++ ys) q n
put_then {l} {m} {n} {at} {r} {q} {xs} {ys} p s = record {
  next = omega (arith, length-append xs ys);
  kept = s.kept ∙ ap (λ (x : Bytes). sets x r ys) p.kept ∙ ap (λ (k : ℕ). sets (sets l at xs) k ys) p.next ∙ sets_then xs ys l at;
}

-- past the buffer's end nothing is stored
pub put_past : (l : Bytes) (at : ℕ) (xs : Bytes) {r : ℕ} → length l ≤ at → r ≡ at + length xs → Put l at xs r l
put_past l at xs h e = record { next = e; kept = sym (sets_past xs l at h) }

-- the bytes are the same
pub put_same : {l n : Bytes} {at r : ℕ} {xs ys : Bytes} → Put l at xs r n → xs ≡ ys → Put l at ys r n
put_same p e = rw e at p

-- ---- what the buffer holds then

module _ {l n xs : Bytes} {at r : ℕ} (p : Put l at xs r n) where
  pub put_length : length n ≡ length l
  put_length = ap length p.kept ∙ length-sets l at xs

  -- where all fits, the text stands there
  pub put_fits : r ≤ length l → n ≡ take at l ++ xs ++ drop r l
  put_fits h =
      p.kept ∙ sets-eq xs l at (omega (arith, p.next)) ∙ ap (λ (k : ℕ). take at l ++ xs ++ drop k l) (sym p.next)

-- ---- a number, its last digit first

digits_some : (n : ℕ) → 1 ≤ length (digits n)
digits_some n = by_test (ltb n 10) (λ e. omega (arith, count_one n (ltb-true n 10 e))) (λ e. omega (arith, count_more n (ltb-false n 10 e)))

-- the digits of m are still to be written, before the place k
pub record Writing (old : Bytes) (at n k m : ℕ) (new : Bytes) : Type 0 where
  tail : Bytes
  pub split : digits n ≡ digits m ++ tail
  pub place : k ≡ at + length (digits m)
  pub stored : new ≡ sets old k tail

pub writing_start : (l : Bytes) (at n : ℕ) → Writing l at n (at + length (digits n)) n l
writing_start l at n = record { tail = []; split = sym (append-nil (digits n)); place = refl; stored = refl }

-- while k is past the place after at, m has more than one digit
writing_more : {l x : Bytes} {at n k m : ℕ} → Writing l at n k m x → at + 1 < k → 10 ≤ m
writing_more {m = m} w h = by_test (ltb m 10)
    (λ e. absurd (omega (arith, w.place, count_one m (ltb-true m 10 e))))
    (λ e. ltb-false m 10 e)

pub writing_last : {l x : Bytes} {at n k m : ℕ} → Writing l at n k m x → k ≤ at + 1 → m < 10
writing_last {m = m} w h = by_test (ltb m 10)
    (λ e. ltb-true m 10 e)
    (λ e. absurd (omega (arith, w.place, count_more m (ltb-false m 10 e), digits_some (m / 10))))

pub writing_step : {l x : Bytes} {at n k m : ℕ} → Writing l at n k m x → at + 1 < k → Writing l at n (k - 1) (m / 10) (set x (k - 1) (48 + m % 10))
writing_step {l} {x} {at} {n} {k} {m} w g = let h = writing_more w g in record {
  tail = (48 + m % 10) ∷ w.tail;
  split = w.split ∙ ap (λ (d : Bytes). d ++ w.tail) (digits_more m h) ∙ append_assoc (digits (m / 10)) _ w.tail;
  place = omega (arith, w.place, count_more m h);
  stored = ap (λ (d : Bytes). set d (k - 1) (48 + m % 10)) (w.stored ∙ ap (λ (j : ℕ). sets l j w.tail) (later w.place (count_more m h))) ∙ sets_first w.tail l (k - 1) (48 + m % 10);
}
  where
    later : k ≡ at + length (digits m) → length (digits m) ≡ length (digits (m / 10)) + 1 → k ≡ suc (k - 1)
    later p q = omega arith

pub writing_end : {l x : Bytes} {at n k m : ℕ} → Writing l at n k m x → k ≤ at + 1 → Put l at (digits n) (at + length (digits n)) (set x at (48 + m))
writing_end {l} {x} {at} {n} {k} {m} w g = let h = writing_last w g in record {
  next = refl;
  kept = ap (λ (d : Bytes). set d at (48 + m)) (w.stored ∙ ap (λ (j : ℕ). sets l j w.tail) (first w.place (count_one m h))) ∙ sets_first w.tail l at (48 + m) ∙ ap (sets l at) (sym (w.split ∙ ap (λ (d : Bytes). d ++ w.tail) (digits_one m h)));
}
  where
    first : k ≡ at + length (digits m) → length (digits m) ≡ 1 → k ≡ suc at
    first p q = omega arith

-- ---- a literal

pub negative_text : (l : ℤ) → negative l ≡ true → (45 ∷ []) ++ digits (nat_abs l) ≡ literal_text l
unfolding literal_text
negative_text (pos n) e = differ {b = true} tt (sym e)
negative_text (negsuc n) e = refl

pub positive_text : (l : ℤ) → negative l ≡ false → digits (nat_abs l) ≡ literal_text l
unfolding literal_text
positive_text (pos n) e = refl
positive_text (negsuc n) e = differ {b = true} tt e

-- how long the texts are that the functions write
pub number_length : (n : ℕ) → n < 2 ^ 32 → length (digits n) ≤ 10
number_length n h = digits_within 9 n (omega arith)

pub literal_length : (l : ℤ) → SFits w32 l → length (literal_text l) ≤ 11
unfolding literal_text
literal_length (pos n) f = omega (arith, number_length n (omega arith))
literal_length (negsuc n) f = omega (arith, number_length (suc n) (omega arith))
