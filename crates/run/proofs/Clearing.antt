-- Clashes, then pure literals: what stands after the clashes is proper and free of clashes, which is what the pure pass asks for.
use mathlib.Core.Path.{◌≡◌}
use mathlib.Core.List.{List}
use Prim.Native.Nat.{ℕ}
use lib.IntN.{ℤ}
use Rattle.definition.specs.Literals.{Clause, Formula}
use Rattle.definition.specs.Text.{Bytes}
use Rattle.definition.specs.Clearing.{clear_clashes, clear_pure}
use Rattle.definition.specs.Reencoding.{unclashed}
use Rattle.theory_clearing.specs.Clashes.{ClashFree}
use Rattle.theory_clearing.proofs.Clashes.{unclashed_proper, lowest_none, no_clash_left}
use Rattle.theory_clearing.proofs.Pure.{eliminates_mem, pure_eliminates}
use Rattle.theory_room.specs.Choices.{clearing}
use Rattle.tables.specs.Sizes.{input_reach}
use Rattle.progress.specs.declared.Progress.{Progress}
use Rattle.progress.specs.Progress.{standing, Good, Runs}
use Rattle.progress.proofs.Laws.{good_first, good_rest, runs_join}
use Rattle.pass_clashes.specs.Scan.{ClashReady}
use Rattle.pass_clashes.specs.Weights.{Weighed}
use Rattle.run.specs.Run.{ClearReady}

module _ {step : ℕ} {work : List ℤ} {p : Progress} (r : ClearReady step work p) where
  abbrev F : Formula
  F = standing work p

  pub clash_ready : ClashReady step (clear_clashes F) work p
  unfolding clearing
  clash_ready = record { good = good_first (clear_clashes F) (clear_pure (unclashed F)) r.good; space = r.space; cells = λ xs ys c e _. r.cells xs ys c e }

  module _ {mid : List ℤ} {x y : Bytes} {q : Progress} (a : Runs (clear_clashes F) work x p mid y q) where
    unclashed_here : standing mid q ≡ unclashed F
    unfolding unclashed
    unclashed_here = a.stands

    pub pure_ready : Good input_reach (clear_pure (standing mid q)) mid q × ClashFree (standing mid q)
    unfolding clearing unclashed
    pure_ready =
        let u = unclashed_proper r.good.proper r.good.fits in
        let g = good_rest (clear_clashes F) (clear_pure (unclashed F)) r.good a u.0 u.1 in
        rw unclashed_here (g, lowest_none (unclashed F) u.0 (no_clash_left F r.good.proper))

    pub cleared_runs : {new : List ℤ} {z : Bytes} {t : Progress} → Runs (clear_pure (standing mid q)) mid y q new z t → Runs (clearing F) work x p new z t
    unfolding clearing
    cleared_runs b = runs_join a (rw unclashed_here at b)

    -- the weights count the input clauses of what is left too
    pub weighed_left : {new : List ℤ} {z : Bytes} {t : Progress} {count : Clause → ℕ} {most : ℕ} {w : List ℕ} → Runs (clear_pure (standing mid q)) mid y q new z t → Weighed count most (standing mid q) w → Weighed count most (standing new t) w
    weighed_left b u = record { counts = λ d m. u.counts d (eliminates_mem (pure_eliminates (standing mid q)) d (rw b.stands at m)); few = u.few }
