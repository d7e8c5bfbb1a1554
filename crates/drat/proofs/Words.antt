-- The start and the words of a line as slices compare them.
use Rattle.std.proofs.Common.{◌≡◌, arith, refl, ap, ◌&&◌, [], ◌∷◌, eqb}
use Rattle.std.proofs.lemmas.Bool.Decides.{nat_tests}
use Rattle.std.specs.List.{starts_with}
use Rattle.std.specs.Cmp.Lexicographic.{pointwise}
use Rattle.definition.specs.Text.{Bytes, bytes, is, same_bytes}
use Rattle.theory_base.proofs.Tests.{by_test}
use Rattle.theory_text.specs.LogLines.{begins_deletion}

pub same_pointwise : (s t : Bytes) → pointwise eqb s t ≡ same_bytes s t
unfolding same_bytes
same_pointwise [] [] = refl
same_pointwise [] (c ∷ u) = refl
same_pointwise (b ∷ s) [] = refl
same_pointwise (b ∷ s) (c ∷ u) = ap (λ r. eqb b c && r) (same_pointwise s u)

pub zero_word : (w : Bytes) → pointwise eqb w (48 ∷ []) ≡ same_bytes w (bytes "0")
unfolding bytes
zero_word w = same_pointwise w (48 ∷ [])

pub deletion_start : (t : Bytes) → starts_with eqb t (100 ∷ 32 ∷ []) ≡ begins_deletion t
unfolding begins_deletion is
deletion_start [] = refl
deletion_start (b ∷ []) = by_test (eqb 100 b) (λ e. rw e) (λ e. rw e)
deletion_start (b ∷ c ∷ t) = grind (arith, nat_tests)
