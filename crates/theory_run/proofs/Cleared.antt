-- Clearing clashes leaves no more clauses. Assumes that the formula was accepted.
use mathlib.Core.Path.{refl}
use Prim.Native.Nat.{◌≤◌}
use native.Mathlib.Omega.{arith}
use lib.ListN.{length}
use Rattle.definition.specs.Reading.{Input, input_limits}
use Rattle.definition.specs.Clearing.{clear_clashes, clear_pure}
use Rattle.definition.specs.Reencoding.{counter_form, Settings, unclashed}
use Rattle.definition.specs.Alignment.{as_listed}
use Rattle.theory_text.specs.Accepted.{Accepted}
use Rattle.theory_room.specs.Choices.{clearing}
use Rattle.theory_room.proofs.Runs.{clearing_weight, weight_most, weight_least}
use Rattle.theory_run.proofs.LogSound.{accepted_run}

module _ (i : Input) (a : Accepted input_limits i) where
  -- in any settings
  any_settings : Settings
  any_settings = record { form = counter_form; arrangement = as_listed; step = 1 }

  pub unclashed_shorter : length (unclashed i.formula) ≤ length i.formula
  unfolding unclashed clearing
  unclashed_shorter =
      let f = i.formula in
      omega (
        arith,
        clearing_weight any_settings i (accepted_run any_settings i a) 1 (λ _. 0) (clear_clashes f) (clear_pure (unclashed f)) refl,
        weight_most 1 0 (λ _. 0) (λ _. omega arith) f,
        weight_least 1 0 (λ _. 0) (λ _. omega arith) (unclashed f),
      )
