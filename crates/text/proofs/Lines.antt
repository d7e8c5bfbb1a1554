-- Where a line ends, by the place of the first LF. Assumes nothing.
use Rattle.std.proofs.Common.{◌≡◌, refl, sym, ◌∙◌, Bool, true, false, not, cond, [], ◌∷◌, Option, Some, None, ℕ, suc, ◌+◌, ◌-◌, ◌≤◌, ◌<◌, length, get_or, take, drop, arith, length-drop, get_or-drop}
use Rattle.std.specs.List.{position, position_or_len}
use lib.Dec.{eqb, ltb}
use borrow.Author.Tests.{eqb-true, ltb-true, ltb-false}
use Rattle.definition.specs.Text.{Bytes, is}
use Rattle.theory_base.proofs.Slices.{rest_is}
use Rattle.theory_base.proofs.Tests.{by_test}
use Rattle.theory_text.specs.Words.{Free}
use Rattle.theory_text.specs.TextLines.{LineEnd}

abbrev pub lf : ℕ → Bool
lf b = eqb b 10

-- the bytes before place n have no LF, and one stands there or nothing
record FirstLf (s : Bytes) (n : ℕ) : Type 0 where
  free : Free (is "\n") (take n s)
  within : n ≤ length s
  stops : n < length s → get_or s n 0 ≡ 10

first_lf : (s : Bytes) → FirstLf s (position_or_len lf s)
unfolding is
first_lf [] = record { free = tt; within = omega arith; stops = λ h. absurd (omega arith) }
first_lf (b ∷ s) = let e : 1 + position_or_len lf s ≡ suc (position_or_len lf s) = omega arith in rw e (go (eqb b 10) refl (first_lf s))
  where
    go : (x : Bool) → eqb b 10 ≡ x → FirstLf s (position_or_len lf s) → FirstLf (b ∷ s) (cond (not x) (suc (position_or_len lf s)) 0)
    go true e r = record { free = tt; within = omega arith; stops = λ h. eqb-true b 10 e }
    go false e r = record { free = (e, r.free); within = omega (arith, r.within); stops = λ h. r.stops (omega arith) }

module _ (t : Bytes) (at : ℕ) (h : at ≤ length t) where
  abbrev n : ℕ
  n = position_or_len lf (drop at t)

  line_end : LineEnd t at (at + n)
  line_end =
      let r = first_lf (drop at t) in
      let e : at + n - at ≡ n = omega arith in
      record {
        after = omega arith;
        within = omega (arith, r.within, length-drop at t);
        no_newline = rw e r.free;
        stops = λ k. sym (get_or-drop at t n 0) ∙ r.stops (omega (arith, length-drop at t));
      }

  -- by what the search for it gives
  pub lf_found : {o : Option ℕ} {i : ℕ} → o ≡ Some i → o ≡ position lf (take (length t - at) (drop at t)) → LineEnd t at (at + i) × (at + i < length t)
  lf_found {o} {i} e f = by_test (ltb n (length (drop at t)))
      (λ x. let q = rw (rest_is t at, x) at f in let k : n ≡ i = cc in let r = rw k at line_end in (r, omega (arith, ltb-true n (length (drop at t)) x, length-drop at t)))
      (λ x. let q = rw (rest_is t at, x) at f in cc)

  pub lf_none : {o : Option ℕ} → o ≡ None → o ≡ position lf (take (length t - at) (drop at t)) → LineEnd t at (length t)
  lf_none {o} e f = by_test (ltb n (length (drop at t)))
      (λ x. let q = rw (rest_is t at, x) at f in cc)
      (λ x. let q : at + n ≡ length t = omega (arith, ltb-false n (length (drop at t)) x, line_end.within, length-drop at t) in rw q at line_end)
