-- What stands when clashes and pure literals are cleared, and the lines that clear them.
use mathlib.Core.Logic.{⊎_elim}
use mathlib.Core.List.Memᴰ
use mathlib.Core.List.{◌++◌, Memᴰ}
use Prim.Native.Nat.{ℕ}
use Rattle.definition.specs.Literals.{Formula}
use Rattle.definition.specs.Standing.{Line}
use Rattle.definition.specs.Clearing.{clear_clashes, clear_pure}
use Rattle.definition.specs.Reencoding.{lines, unclashed, cleared}
use Rattle.theory_base.specs.Clauses.{ProperAll, Fits}
use Rattle.theory_base.proofs.Fitting.{LineFits}
use Rattle.theory_clearing.proofs.Clashes.{lowest_none, clears_lines_fit, clashes_clear, unclashed_proper, no_clash_left}
use Rattle.theory_clearing.specs.Clashes.{ClashFree}
use Rattle.theory_clearing.proofs.Pure.{Eliminates, eliminates_mem, eliminates_lines_fit, pure_eliminates}
use Rattle.theory_clearing.proofs.Pass.{eliminates_free}

pub cleared_eliminates : (F : Formula) → Eliminates (unclashed F) (clear_pure (unclashed F)) (cleared F)
unfolding cleared
cleared_eliminates F = pure_eliminates (unclashed F)

pub cleared_facts : {h : ℕ} {F : Formula} → ProperAll F → Fits h F → ProperAll (cleared F) × Fits h (cleared F) × ClashFree (cleared F)
cleared_facts {F = F} p f =
    let r = unclashed_proper p f in
    let s = cleared_eliminates F in (
      λ d i. r.0 d (eliminates_mem s d i),
      λ d i. r.1 d (eliminates_mem s d i),
      eliminates_free (lowest_none (unclashed F) r.0 (no_clash_left F p)) s,
    )

pub clearing_lines_proper : {h : ℕ} {F : Formula} → ProperAll F → Fits h F → (x : Line) → Memᴰ x (lines (clear_clashes F) ++ lines (clear_pure (unclashed F))) → LineFits h x
clearing_lines_proper {F = F} p f x i =
    let r = unclashed_proper p f in
    ⊎_elim (clears_lines_fit p f (clashes_clear F) x) (eliminates_lines_fit r.0 r.1 (cleared_eliminates F) x) (Memᴰ.append_cases (lines (clear_clashes F)) i)
