-- What stands while the formula is cleared fits into the workspace, and leaves room for a step. Assumes what a run keeps (`Run`).
use mathlib.Core.Path.{◌≡◌, refl, ◌∙◌, ap}
use mathlib.Core.Bool.{not}
use mathlib.Core.List.Memᴰ.{head as here}
use mathlib.Core.List.{List, [], ◌∷◌, ◌++◌, append_assoc, Memᴰ}
use Prim.Native.Nat.{ℕ, ◌+◌, ◌≤◌}
use native.Mathlib.Omega.{arith}
use lib.IntN.{ℤ, neg_ℤ}
use lib.ListN.{length, take, length-append}
use Rattle.definition.specs.Lists.{sum_of}
use Rattle.definition.specs.Literals.{Clause, literals_of, same, without}
use Rattle.definition.specs.Standing.{after}
use Rattle.definition.specs.Reading.{Input}
use Rattle.definition.specs.Events.{Clash, Event, clash_cleared}
use Rattle.definition.specs.Clearing.{resolvent, clear_clashes, clear_pure}
use Rattle.definition.specs.Reencoding.{lines_of, lines, Settings, unclashed}
use Rattle.definition.specs.Calls.{workspace_need, numbers_of}
use Rattle.theory_base.specs.Cells.{cells_of}
use Rattle.theory_base.proofs.Loops.{mem_for_each}
use Rattle.theory_base.proofs.Sums.{sum_at, sum_those, count_length}
use Rattle.theory_room.proofs.Weights.{at_each_event}
use Rattle.theory_room.specs.Choices.{clearing}
use Rattle.theory_room.specs.Step.{step_of}
use Rattle.theory_room.proofs.Cleared.{clash_stands, clearing_event, clearing_lines_to}
use Rattle.theory_room.proofs.Additions.{cells, cells_sum, clearing_adds}
use Rattle.theory_room.proofs.Runs.{Run, clearing_weight, weight_most, weight_least}

shorter : (x : ℤ) (c : Clause) → length (without x c) ≤ length c
unfolding without
shorter x c = let d = without x c in omega (arith, sum_those (λ _. 1) (λ y. not (same x y)) c, count_length d, count_length c)

module _ (s : Settings) (i : Input) (h : Run s i) where
  -- ---- the clearing
  -- what stands after some of its events, and a step
  pub clearing_room : (xs ys : List Event) → clearing i.formula ≡ xs ++ ys → cells_of (after i.formula (lines xs)) + step_of i ≤ workspace_need i
  unfolding workspace_need
  clearing_room xs ys e =
      let f = i.formula in
      omega (
        arith,
        cells_sum (after f (lines xs)),
        clearing_weight s i h 1 (λ _. 3) xs ys e,
        weight_most 1 3 (λ _. 3) (λ _. omega arith) f,
        h.formula_few,
      )

  -- a resolvent has no more literals than its two parents
  pub resolvent_step : (xs ys : List Event) (c : Clash) → clear_clashes i.formula ≡ xs ++ (clash_cleared c ∷ ys) → cells_of (resolvent c ∷ []) ≤ step_of i
  unfolding resolvent without numbers_of literals_of sum_of clearing
  resolvent_step xs ys c e =
      let f = i.formula in
      let F = after f (lines xs) in
      let t = clash_stands f xs ys c e in
      let rest = clear_pure (unclashed f) in
      let one : ℤ → ℕ = λ _. 1 in
      omega (
        arith,
        length-append (without c.v c.one) (without (neg_ℤ c.v) c.other),
        shorter c.v c.one,
        shorter (neg_ℤ c.v) c.other,
        sum_at length t.one_stands,
        sum_at length t.other_stands,
        clearing_weight s i h 0 one xs (clash_cleared c ∷ ys ++ rest) (ap (λ (zs : List Event). zs ++ rest) e ∙ append_assoc xs (clash_cleared c ∷ ys) rest),
        weight_least 0 1 one (λ _. omega arith) F,
        weight_most 0 1 one (λ _. omega arith) f,
      )

  -- at every line
  pub clearing_lines_room : (j : ℕ) → sum_of cells (after i.formula (take j (lines (clearing i.formula)))) ≤ workspace_need i
  unfolding workspace_need lines
  clearing_lines_room =
      let f = i.formula in
      at_each_event cells (workspace_need i) (clearing f) f (omega (arith, weight_most 1 3 (λ _. 3) (λ _. omega arith) f, h.formula_few))
      (λ xs ys e q.
      let m : Memᴰ e (clearing f) = rw q (mathlib.Core.List.Memᴰ.append_right xs (here refl)) in
      omega (
        arith,
        clearing_weight s i h 1 (λ _. 3) xs (e ∷ ys) q,
        weight_most 1 3 (λ _. 3) (λ _. omega arith) f,
        clearing_adds i.highest e (clearing_event f e m) (λ x k. clearing_lines_to i.highest f h.proper h.fits x (mem_for_each (clearing f) lines_of e x m k)),
        h.formula_few,
      ))
