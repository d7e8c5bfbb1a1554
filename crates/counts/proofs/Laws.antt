-- Counts stored from the start on, one by one or as one part: those that fit, then what lay past them.
use Rattle.std.proofs.Common.{◌≡◌, refl, sym, ap, ◌∙◌, List, [], ◌∷◌, ◌++◌, ℕ, zero, suc, ◌≤◌, min, length, take, drop, drop_of_length-le, arith}
use Rattle.std.proofs.lemmas.List.Edits.{sets}
use Rattle.counts.specs.Counts.{overwritten}

sets_none : (ns : List ℕ) (i : ℕ) → sets [] i ns ≡ []
sets_none [] i = refl
sets_none (n ∷ ns) i = sets_none ns (suc i)

sets_behind : (ns t : List ℕ) (i b : ℕ) → sets (b ∷ t) (suc i) ns ≡ b ∷ sets t i ns
sets_behind [] t i b = refl
sets_behind (n ∷ ns) t i b = sets_behind ns _ (suc i) b

pub overwritten_sets : (ns t : List ℕ) → sets t 0 ns ≡ overwritten ns t
unfolding overwritten
overwritten_sets [] t = refl
overwritten_sets (n ∷ ns) [] = sets_none ns 1
overwritten_sets (n ∷ ns) (b ∷ bs) = sets_behind ns bs 0 n ∙ ap (λ (l : List ℕ). n ∷ l) (overwritten_sets ns bs)

-- all are stored
pub overwritten_end : (ns t u : List ℕ) (i : ℕ) → sets t i (drop i ns) ≡ sets u 0 ns → length ns ≤ i → t ≡ overwritten ns u
overwritten_end ns t u i e h = sym (ap (sets t i) (drop_of_length-le ns {i = i} h)) ∙ e ∙ overwritten_sets ns u

-- stored as one part, as long as the shorter of the two
pub overwritten_is : {n : ℕ} (ns t : List ℕ) → n ≡ min (length t) (length ns) → take n ns ++ drop n t ≡ overwritten ns t
unfolding overwritten
overwritten_is {n = zero} [] t e = refl
overwritten_is {n = suc n} [] t e = absurd (omega arith)
overwritten_is {n = zero} (x ∷ ns) [] e = refl
overwritten_is {n = suc n} (x ∷ ns) [] e = absurd (omega arith)
overwritten_is {n = zero} (x ∷ ns) (b ∷ bs) e = absurd (omega arith)
overwritten_is {n = suc n} (x ∷ ns) (b ∷ bs) e = ap (λ (l : List ℕ). x ∷ l) (overwritten_is {n = n} ns bs (omega arith))
