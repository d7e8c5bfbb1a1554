-- The place of a literal in a clause, as the order form looks it up. Assumes nothing.
use mathlib.Core.Path.{◌≡◌, refl, sym, ◌∙◌, ap}
use mathlib.Core.Bool.{Bool, true, false, cond}
use mathlib.Core.List.Memᴰ
use mathlib.Core.List.{[], ◌∷◌}
use mathlib.Core.Option.{some, none-ne-some}
use Prim.Native.Nat.{ℕ, zero, suc, ◌+◌, ◌<◌}
use native.Mathlib.Omega.{arith}
use lib.IntN.{ℤ, pos}
use lib.ListN.{length, get_or}
use Rattle.definition.specs.Literals.{Clause, same}
use Rattle.definition.specs.Order.{place_from}
use Rattle.theory_base.specs.Clauses.{Proper}
use Rattle.theory_base.proofs.Tests.{to_true, of_true}
use Rattle.theory_base.proofs.Loops.{getD_mem}
use Rattle.theory_base.proofs.Members.{same_eq, same_refl, unlike_false}

-- the literal at a place that was found
pub place_of : (i : ℕ) (m : ℤ) (c : Clause) (p : ℕ) → place_from i m c ≡ some p → (j : ℕ) × (p ≡ i + j) × (j < length c) × (get_or c j (pos 0) ≡ m)
unfolding place_from
place_of i m [] p e = absurd (none-ne-some p e)
place_of i m (a ∷ c) p e = go (same m a) refl e (place_of (suc i) m c p)
  where
    go : (b : Bool) → same m a ≡ b → cond b (some i) (place_from (suc i) m c) ≡ some p →
        (place_from (suc i) m c ≡ some p → (j : ℕ) × (p ≡ suc i + j) × (j < length c) × (get_or c j (pos 0) ≡ m)) →
        (j : ℕ) × (p ≡ i + j) × (j < length (a ∷ c)) × (get_or (a ∷ c) j (pos 0) ≡ m)
    go true t e ih = let q : i ≡ p = cc in (0, omega arith, omega arith, sym (same_eq m a (of_true t)))
    go false t e ih = let r = ih e in let s = r.1 in let l = r.2 in (suc r.0, omega arith, omega arith, r.3)

-- in a clause that repeats no literal each is found at its place
pub place_at : (i : ℕ) (c : Clause) → Proper c → (j : ℕ) → j < length c → place_from i (get_or c j (pos 0)) c ≡ some (i + j)
unfolding place_from
place_at i [] a j b = absurd (omega arith)
place_at i (l ∷ c) a zero b = let e : i ≡ i + 0 = omega arith in rw (to_true {b = same l l} (same_refl l)) (ap some e)
place_at i (l ∷ c) a (suc j) b =
    let e : suc i + j ≡ i + suc j = omega arith in
    rw (unlike_false (get_or c j (pos 0)) l (λ q. a.1 (Memᴰ.cast (sym q) (getD_mem c j (pos 0) (omega arith))))) (place_at (suc i) c a.3 j (omega arith) ∙ ap some e)
