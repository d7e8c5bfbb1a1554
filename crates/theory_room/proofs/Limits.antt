-- Within the limits of reading, the log and the new formula are within the limits of reading back. Assumes what a run keeps (`Run`).
use mathlib.Core.List.{Memᴰ}
use Prim.Native.Nat.{ℕ, ◌≤◌}
use native.Mathlib.Omega.{arith}
use lib.ListN.{length}
use Rattle.definition.specs.Literals.{literals_of, highest}
use Rattle.definition.specs.Standing.{Line, literals}
use Rattle.definition.specs.Reading.{Input}
use Rattle.definition.specs.Reencoding.{Settings, log, result, highest_used}
use Rattle.theory_base.specs.Clauses.{Proper, ProperAll, Fits}
use Rattle.theory_base.proofs.Fitting.{highest_in_at, after_fits}
use Rattle.theory_base.proofs.Replay.{all_after}
use Rattle.theory_room.proofs.Runs.{Run, log_proper, few_new_variables, result_size}

-- ---- what stands at the end
module _ (s : Settings) (i : Input) (h : Run s i) where
  pub result_proper : ProperAll (result s i)
  unfolding result
  result_proper = all_after Proper i.formula (log s i) h.proper (log_proper s i h)

  pub result_fits : Fits (highest_used s i) (result s i)
  unfolding result highest_used
  result_fits = after_fits i.highest i.formula (log s i) h.fits (log_proper s i h)

  pub log_line_limit : (b : ℕ) → highest_used s i ≤ b → (x : Line) → Memᴰ x (log s i) → highest (literals x) ≤ b
  unfolding highest_used
  log_line_limit b l x m = omega (arith, highest_in_at (log s i) x m)

  -- ---- the limits
  module _ (variables : i.highest ≤ 8_000) (clauses : length i.formula ≤ 20_000) (literal_count : literals_of i.formula ≤ 60_000) where
    pub clauses_limit : length (result s i) ≤ 300_000
    clauses_limit = omega (arith, result_size s i h 1 0, few_new_variables s i h)

    pub literals_limit : literals_of (result s i) ≤ 1_000_000
    literals_limit = omega (arith, result_size s i h 0 1, few_new_variables s i h)
