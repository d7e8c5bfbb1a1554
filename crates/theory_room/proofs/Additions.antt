-- How much one event adds, counted in cells: one for each added clause, and three for each of its literals. Assumes that the lines are proper.
use mathlib.Core.Path.{◌≡◌, refl}
use mathlib.Core.Bool.{Bool, true, false, not}
use mathlib.Core.List.Memᴰ.{head as here}
use mathlib.Core.List.{List, [], ◌∷◌, ◌++◌, map}
use Prim.Native.Nat.{ℕ, suc, ◌-◌, ◌*◌, ◌≤◌}
use native.Mathlib.Omega.{arith}
use lib.IntN.{ℤ, neg_ℤ}
use Rattle.definition.specs.Lists.{sum_of, only_if}
use Rattle.definition.specs.Literals.{Clause, Formula, with_first, opposed}
use Rattle.definition.specs.Standing.{addition, deletion, literals}
use Rattle.definition.specs.Events.{Choice, Event}
use Rattle.definition.specs.Clearing.{resolvent, clash_lines, pure_lines}
use Rattle.definition.specs.Counter.{size, counter, take_choice}
use Rattle.definition.specs.Reencoding.{lines_of}
use Rattle.definition.specs.Calls.{numbers_of}
use Rattle.theory_base.specs.Cells.{cells_of}
use Rattle.theory_base.proofs.Sums.{sum-≤, sum_most}
use Rattle.theory_base.proofs.Fitting.{ProperTo, proper_length}
use Rattle.theory_base.proofs.Replay.{AllLines}
use Rattle.theory_room.proofs.Weights.{weight, added, added_deletions}
use Rattle.theory_room.proofs.Replaced.{Weighs}
use Rattle.theory_room.proofs.Cleared.{Clearing, clash, pure_clause}
use Rattle.theory_room.proofs.Runs.{weight_most, weight_least}
use Rattle.theory_room.proofs.Rises.{taken_changes, counter_weight}

-- the cells of a clause
abbrev pub cells : Clause → ℕ
cells = weight 1 (λ _. 3)

-- and of several
pub cells_sum : (f : Formula) → cells_of f ≡ sum_of cells f
unfolding numbers_of
cells_sum f = omega (arith, weight_least 1 3 (λ _. 3) (λ _. omega arith) f, weight_most 1 3 (λ _. 3) (λ _. omega arith) f)

proper_cells : (h : ℕ) (c : Clause) → ProperTo h c → cells c ≤ suc (3 * h)
unfolding weight
proper_cells h c p = omega (arith, sum_most 3 (λ _. 3) (λ _. omega arith) c, proper_length h c p)

-- an optional addition, and then deletions
one_addition : (h : ℕ) (b : Bool) (c : Clause) (ds : List Clause) → AllLines (ProperTo h) (only_if b (addition c ∷ []) ++ map deletion ds) → added cells (only_if b (addition c ∷ []) ++ map deletion ds) ≤ suc (3 * h)
unfolding only_if sum_of literals
one_addition h true c ds p = omega (arith, proper_cells h c (p (addition c) (here refl)), added_deletions cells ds)
one_addition h false c ds p = omega (arith, added_deletions cells ds)

pub clearing_adds : (h : ℕ) (e : Event) → Clearing e → AllLines (ProperTo h) (lines_of e) → added cells (lines_of e) ≤ suc (3 * h)
unfolding lines_of clash_lines pure_lines
clearing_adds h e (clash c) p = one_addition h (not (opposed (resolvent c))) (resolvent c) (with_first c.v c.one ∷ with_first (neg_ℤ c.v) c.other ∷ []) p
clearing_adds h e (pure_clause l c) p = omega (arith, added_deletions cells (with_first l c ∷ []))

-- ---- the events of a choice
-- a weight of at least 3 for each literal
pub cells_least : (w : ℤ → ℕ) → ((x : ℤ) → 3 ≤ w x) → (c : Clause) → cells c ≤ weight 1 w c
unfolding weight
cells_least w l c = omega (arith, sum-≤ (λ _. 3) w c (λ x _. l x))

pub taken_adds : (w : ℤ → ℕ) → ((x : ℤ) → 3 ≤ w x) → (b : Clause) (c : Choice) → Weighs 3 w c → 2 ≤ size c → (f : Formula) → added cells (lines_of (take_choice f b c)) ≤ (size c - 1) * 40
taken_adds w l b c q s f =
    omega (arith, (taken_changes cells b c f).0, sum-≤ cells (weight 1 w) (counter c) (λ d _. cells_least w l d), counter_weight 1 3 w c q s)
