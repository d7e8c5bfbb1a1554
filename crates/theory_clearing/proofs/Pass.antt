-- Where no clash is left, the pure literals may all be looked for in the formula at the start.
use mathlib.Core.Path.{◌≡◌, refl, ap}
use mathlib.Core.Bool.{Bool, true, false, not, cond}
use mathlib.Core.List.Memᴰ
use mathlib.Core.List.Memᴰ.{head as here}
use mathlib.Core.List.{List, [], ◌∷◌, ◌++◌, append_assoc, Memᴰ}
use mathlib.Core.Option.{Option, some, none}
use native.Mathlib.Omega.{arith}
use lib.Dec.{T, eqb}
use lib.IntN.{ℤ, neg_ℤ}
use Rattle.definition.specs.Lists.{bit, first, for_each}
use Rattle.definition.specs.Literals.{Clause, Formula, with_first}
use Rattle.definition.specs.Events.{Event, pure_deleted}
use Rattle.definition.specs.Clearing.{times, unique, pure, choice_size, deletable, pure_literal, pure_next, clear_pure_from, clear_pure}
use Rattle.theory_base.proofs.Tests.{of_true, and_l}
use Rattle.theory_base.proofs.Members.{all_same, first_agree, holds_false}
use Rattle.theory_base.proofs.Removal.{mem_removed}
use Rattle.theory_soundness.proofs.Times.{times_removed}
use Rattle.theory_soundness.proofs.Without.{first_same}
use Rattle.theory_clearing.specs.Clashes.{ClashFree}
use Rattle.theory_clearing.proofs.Pure.{Eliminates, no_more, next, eliminates_mem, eliminates_times, eliminates_unique, unique_after, pure_some, pure_removed}

-- a clause's pure literal depends only on how often its literals and their negations stand
pure_agree : (F G : Formula) (c : Clause) → ((x : ℤ) → Memᴰ x c → times x F ≡ times x G) → (T (unique F c) → (x : ℤ) → Memᴰ x c → times (neg_ℤ x) F ≡ times (neg_ℤ x) G) →
    pure_literal F c ≡ pure_literal G c
unfolding pure_literal deletable unique pure
pure_agree F G c h n = go (deletable F c) refl
  where
    same_test : deletable F c ≡ deletable G c
    same_test = rw (all_same (λ l. eqb (times l F) 1) (λ l. eqb (times l G) 1) c (λ x i. rw (h x i)))

    go : (b : Bool) → deletable F c ≡ b → cond (deletable F c) (first (pure F) c) none ≡ cond (deletable G c) (first (pure G) c) none
    go true e = rw (← same_test, e) (first_agree (pure F) (pure G) c (λ x i. rw (n (and_l (unique F c) (not (choice_size c)) (of_true e)) x i)))
    go false e = rw (← same_test, e)

-- ---- deletions for pure literals take no literal away whose negation stands in another unique literal clause
pub eliminates_free : {F G : Formula} {es : List Event} → ClashFree F → Eliminates F es G → ClashFree G
eliminates_free n s c k i j t u = n c k (eliminates_mem s c i) (eliminates_mem s k j) (eliminates_unique s c i t) (eliminates_unique s k j u)

eliminates_negation : {F G : Formula} {es : List Event} → ClashFree F → Eliminates F es G → (c : Clause) → Memᴰ c G → T (unique F c) → (x : ℤ) → Memᴰ x c → times (neg_ℤ x) F ≡ times (neg_ℤ x) G
eliminates_negation n no_more c i t x j = refl
eliminates_negation {F} n (next {E = E} {d = d} {l = l} q r s) c i t x j =
    let k = eliminates_mem s c i in
    let one = next q r no_more in
    omega (
      arith,
      times_removed (neg_ℤ x) r,
      ap bit (holds_false (neg_ℤ x) (with_first l d) (λ m. n c d (mem_removed r k) q.stands t q.alone x j ((first_same l d q.literal).0 (neg_ℤ x) m))),
      eliminates_negation (eliminates_free n one) s c i (unique_after one c k t) x j,
    )

eliminates_join : {F E G : Formula} {es fs : List Event} → Eliminates F es E → Eliminates E fs G → Eliminates F (es ++ fs) G
eliminates_join no_more t = t
eliminates_join (next q r s) t = next q r (eliminates_join s t)

-- ---- the pass
from_at_start : {F : Formula} {es : List Event} → ClashFree F → (X R : Formula) → Eliminates F es (X ++ R) → clear_pure_from X R ≡ for_each R (λ c. pure_next c [] [] (pure_literal F c))
unfolding clear_pure_from pure_next for_each
from_at_start n X [] s = refl
from_at_start {F} {es} n X (c ∷ R) s =
    rw (pure_agree F (X ++ (c ∷ R)) c (λ x j. eliminates_times s x c c_stands j) (λ t x j. eliminates_negation n s c c_stands t x j))
    (go (pure_literal (X ++ (c ∷ R)) c) refl (from_at_start n (X ++ (c ∷ [])) R) (λ es r. from_at_start {es = es} n X R r))
  where
    c_stands : Memᴰ c (X ++ (c ∷ R))
    c_stands = Memᴰ.append_right X (here refl)

    go : (o : Option ℤ) → pure_literal (X ++ (c ∷ R)) c ≡ o →
        (Eliminates F es ((X ++ (c ∷ [])) ++ R) → clear_pure_from (X ++ (c ∷ [])) R ≡ for_each R (λ c. pure_next c [] [] (pure_literal F c))) →
        ((es : List Event) → Eliminates F es (X ++ R) → clear_pure_from X R ≡ for_each R (λ c. pure_next c [] [] (pure_literal F c))) →
        pure_next c (clear_pure_from (X ++ (c ∷ [])) R) (clear_pure_from X R) o ≡ pure_next c [] [] o ++ for_each R (λ c. pure_next c [] [] (pure_literal F c))
    go none e left deleted = left (rw append_assoc s)
    go (some l) e left deleted =
        let q = pure_some (X ++ (c ∷ R)) c l c_stands e in
        rw (deleted (es ++ (pure_deleted l c ∷ [])) (eliminates_join s (next q (pure_removed X R c l q) no_more)))

pub pure_at_start : (F : Formula) → ClashFree F → clear_pure F ≡ for_each F (λ c. pure_next c [] [] (pure_literal F c))
unfolding clear_pure
pure_at_start F n = from_at_start n [] F no_more
