-- Marks at the places of a clause's negated choice literals: set one by one, and what a mark tells. Assumes nothing.
use mathlib.Core.Path.{◌≡◌, refl, sym, ap, ◌∙◌}
use mathlib.Core.Bool.{Bool, true, false, ◌||◌, or-false}
use mathlib.Core.List.{List, [], ◌∷◌}
use Prim.Native.Nat.{ℕ, ◌+◌, ◌≤◌, ◌<◌}
use lib.Dec.{eqb}
use lib.IntN.{pos}
use lib.ListN.{length, get_or, set, drop, length-set, replicate, get_or-replicate}
use lib.Seq.{get_or-set_same, get_or-set_other}
use borrow.Author.Tests.{eqb-true, eqb-false}
use Rattle.definition.specs.Lists.{any}
use Rattle.definition.specs.Literals.{Clause}
use Rattle.theory_base.proofs.Tests.{by_test}
use Rattle.theory_base.proofs.Slices.{drop_step, drop_end}
use Rattle.tables.specs.Places.{place_in}
use Rattle.replacement.specs.Replaced.{with_place_marks}

pub place_marks_step : (t : List ℕ) (w : List Bool) (s : Clause) (i : ℕ) → i < length s → with_place_marks t (set w (place_in t (get_or s i (pos 0))) true) (drop (i + 1) s) ≡ with_place_marks t w (drop i s)
unfolding with_place_marks
place_marks_step t w s i h = rw (drop_step s i (pos 0) h) refl

pub place_marks_end : (t : List ℕ) (w : List Bool) (s : Clause) (i : ℕ) → length s ≤ i → w ≡ with_place_marks t w (drop i s)
unfolding with_place_marks
place_marks_end t w s i h = rw (drop_end s i h) refl

-- ---- what a mark tells

marked_place : (t : List ℕ) (p : ℕ) (d : Clause) (w : List Bool) → p < length w → get_or (with_place_marks t w d) p false ≡ (any (λ m. eqb (place_in t m) p) d || get_or w p false)
unfolding with_place_marks any
marked_place t p [] w h = refl
marked_place t p (m ∷ d) w h = marked_place t p d (set w (place_in t m) true) (rw (length-set w (place_in t m) true) h) ∙ by_test (eqb (place_in t m) p) yes no
  where
    rest : Bool
    rest = any (λ m. eqb (place_in t m) p) d

    either : (b : Bool) → (b || true) ≡ true
    either true = refl
    either false = refl

    yes : eqb (place_in t m) p ≡ true → (rest || get_or (set w (place_in t m) true) p false) ≡ ((eqb (place_in t m) p || rest) || get_or w p false)
    yes e =
        let q : place_in t m ≡ p = eqb-true (place_in t m) p e in
        rw e (rw q (rw (get_or-set_same w p true false h) (either rest)))

    no : eqb (place_in t m) p ≡ false → (rest || get_or (set w (place_in t m) true) p false) ≡ ((eqb (place_in t m) p || rest) || get_or w p false)
    no e = rw e (ap (λ (b : Bool). rest || b) (get_or-set_other w (place_in t m) p true false (λ q. eqb-false (place_in t m) p e (sym q))))

pub mark_tells : (t : List ℕ) (p : ℕ) (d : Clause) → p < 66 → get_or (with_place_marks t (replicate 66 false) d) p false ≡ any (λ m. eqb (place_in t m) p) d
mark_tells t p d h = marked_place t p d (replicate 66 false) h ∙ ap (λ (b : Bool). any (λ m. eqb (place_in t m) p) d || b) (get_or-replicate 66 p false false h) ∙ or-false (any (λ m. eqb (place_in t m) p) d)
