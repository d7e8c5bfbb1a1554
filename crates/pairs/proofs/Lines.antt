-- Loops that record lines, turn by turn; and the deletions of a pair as the code makes them. Assumes nothing.
use mathlib.Core.Path.{◌≡◌, refl, sym, ap₂, ◌∙◌}
use mathlib.Core.List.{List, [], ◌∷◌, ◌++◌}
use Prim.Native.Nat.{ℕ, suc, ◌+◌, ◌-◌, ◌*◌, ◌≤◌, ◌<◌}
use native.Mathlib.Omega.{arith}
use lib.IntN.{ℤ}
use lib.ListN.{get_or, replicate, replicate-append-replicate}
use mir.Syntax.{w32}
use mir.Val.{SFits, of_z, to_z}
use mir.ValLaws.{to_z-of_z}
use Rattle.definition.specs.Lists.{for_from}
use Rattle.definition.specs.Literals.{Clause}
use Rattle.definition.specs.Text.{Bytes}
use Rattle.definition.specs.Standing.{Line, deletion}
use Rattle.theory_base.proofs.Loops.{for_from_around, for_from_next}
use Rattle.literals.specs.Literal.{negation}
use Rattle.literals.proofs.Laws.{answer}
use Rattle.progress.specs.declared.Progress.{Progress}
use Rattle.progress.specs.Progress.{Written, LogRoom}
use Rattle.progress.proofs.Laws.{written_none, written_then, room_first, room_rest}
use Rattle.pairs.specs.Pairs.{literal_at, cell_lines}

pub written_as : {ks ls : List Line} {x y : Bytes} {p q : Progress} → Written ks x p y q → ks ≡ ls → Written ls x p y q
written_as w e = rw e at w

pub room_as : {ks ls : List Line} {p : Progress} → LogRoom ks p → ks ≡ ls → LogRoom ls p
room_as r e = rw e at r

-- ---- the lines f j for each j from k on

pub written_start : (k j : ℕ) (f : ℕ → List Line) (x : Bytes) (p : Progress) → j ≤ k → Written (for_from k (j - k) f) x p x p
unfolding for_from
written_start k j f x p h = let e : j - k ≡ 0 = omega arith in rw e (written_none x p p refl refl)

pub room_turn : {x y : Bytes} {p q : Progress} (k n j : ℕ) (f : ℕ → List Line) → k ≤ j → j < k + n → LogRoom (for_from k n f) p → Written (for_from k (j - k) f) x p y q → LogRoom (f j) q
room_turn k n j f a b r w =
    room_first (f j) (for_from (suc j) (k + n - suc j) f) (room_rest (for_from k (j - k) f) (f j ++ for_from (suc j) (k + n - suc j) f) (rw (for_from_around k n j f a b) at r) w)

pub written_turn : {x y z : Bytes} {p q r : Progress} (k j : ℕ) (f : ℕ → List Line) → k ≤ j → Written (for_from k (j - k) f) x p y q → Written (f j) y q z r → Written (for_from k (j + 1 - k) f) x p z r
written_turn k j f a v w = rw (for_from_next k j f a) (written_then v w)

-- ---- a line some times

pub room_again : {x y : Bytes} {p q : Progress} (i n : ℕ) (l : Line) → i < n → LogRoom (replicate n l) p → Written (replicate i l) x p y q → LogRoom (l ∷ []) q
room_again i n l h r w =
    let e : i + suc (n - suc i) ≡ n = omega arith in
    room_first (l ∷ []) (replicate (n - suc i) l) (room_rest (replicate i l) (replicate (suc (n - suc i)) l) (rw (replicate-append-replicate i (suc (n - suc i)) l, e) r) w)

pub written_again : {x y z : Bytes} {p q r : Progress} (i : ℕ) (l : Line) → Written (replicate i l) x p y q → Written (l ∷ []) y q z r → Written (replicate (i + 1) l) x p z r
written_again i l v w = rw (replicate-append-replicate i 1 l) at (written_then v w)

-- ---- the deletions of a pair as the code makes them

pub cell_is : (counts : List ℕ) (l : Clause) (i j : ℕ) {n : ℕ} {x y : ℤ} → n ≡ get_or counts (i * 64 + j) 0 → SFits w32 (literal_at l i) → SFits w32 (literal_at l j) → SFits w32 x → SFits w32 y →
    x ≡ negation (to_z w32 (of_z w32 (literal_at l i))) → y ≡ negation (to_z w32 (of_z w32 (literal_at l j))) → replicate n (deletion (to_z w32 (of_z w32 x) ∷ to_z w32 (of_z w32 y) ∷ [])) ≡ cell_lines counts l i j
cell_is counts l i j {x = x} {y = y} e f g fx gy d h =
    ap₂ (λ (k : ℕ) (p : Clause). replicate k (deletion p)) e
    (ap₂ (λ (u v : ℤ). u ∷ v ∷ []) (to_z-of_z w32 x fx ∙ answer negation (literal_at l i) f d) (to_z-of_z w32 y gy ∙ answer negation (literal_at l j) g h))

-- a pair that is not counted has no lines
pub no_cell : (counts : List ℕ) (l : Clause) (i j : ℕ) → 0 ≡ get_or counts (i * 64 + j) 0 → (x : Bytes) (p : Progress) → Written (cell_lines counts l i j) x p x p
no_cell counts l i j e x p = rw (sym e) (written_none x p p refl refl)
