-- Why a workspace of 4(N + G) + 4X + 64 entries holds the formula and the lines, with room for a replay behind them.
use mathlib.Core.Path.{◌≡◌, sym, ap, ◌∙◌}
use mathlib.Core.List.{List, ◌++◌}
use Prim.Native.Nat.{ℕ, ◌+◌, ◌≤◌}
use native.Mathlib.Nat.{zero-add}
use native.Mathlib.Omega.{arith}
use lib.IntN.{ℤ}
use lib.ListN.{length, take, drop, length-append}
use lib.Seq.{sets, take-take, take_at, drop_at}
use Rattle.theory_base.specs.Slices.{between}
use Rattle.theory_base.proofs.Slices.{sets_then, taken_sets}
use Rattle.theory_base.proofs.Parts.{drop_take}

-- ---- its parts: two runs written from its start

pub runs_joined : (xs ys old mid new : List ℤ) (n : ℕ) → mid ≡ sets old 0 xs → n ≡ length xs → new ≡ sets mid n ys → new ≡ sets old 0 (xs ++ ys)
runs_joined xs ys old mid new n e p q = q ∙ rw (e, p, ← zero-add (length xs)) (sets_then xs ys old 0)

module _ (xs ys old new : List ℤ) (n m : ℕ) (e : new ≡ sets old 0 (xs ++ ys)) (p : n ≡ length xs) (q : m ≡ n + length ys) (room : m ≤ length old) where
  both : take m new ≡ xs ++ ys
  both =
      let z : m ≡ 0 + length (xs ++ ys) = omega (arith, length-append xs ys) in
      ap (take m) e ∙ ap (λ (k : ℕ). take k (sets old 0 (xs ++ ys))) z ∙ taken_sets (xs ++ ys) old 0 (omega (arith, length-append xs ys))

  pub first_run : take n new ≡ xs
  first_run = sym (take-take n m new (omega arith)) ∙ ap (take n) both ∙ take_at xs ys n (sym p)

  pub second_run : between n m new ≡ ys
  second_run = sym (drop_take n m new) ∙ ap (drop n) both ∙ drop_at xs ys n (sym p)
