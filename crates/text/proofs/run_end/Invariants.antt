use Rattle.std.proofs.Common.{◌≡◌, ℕ, Bool, ◌≤◌, max, length}
use Rattle.theory_text.specs.Runs.{run_end}
use Rattle.text.specs.Words.{Tests}
use Rattle.text.proofs.run_end.Given as goal

abbrev pub invariant-loop-i : goal.invariant-loop-i
invariant-loop-i g l = (l.i ≤ max (length l.text) l.at)
    × ((p : ℕ → Bool) → Tests (goal.S-post g) l.separates p → run_end p l.parting l.text l.i ≡ run_end p l.parting l.text l.at)
