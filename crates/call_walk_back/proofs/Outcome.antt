-- The call's outcome, by what the code does once the texts are read.
use mathlib.Core.Path.{◌≡◌, refl}
use Prim.Native.Nat.{ℕ}
use Rattle.definition.specs.Text.{Bytes}
use Rattle.definition.specs.Calls.{carry_answer, walk_back}
use Rattle.carry.specs.declared.Direction.TheVariants.{Back}
use Rattle.carry.specs.Carried.{tested_text, carried_answer, replayed_text}
use Rattle.log_texts.proofs.Called.{after_texts}

pub walk_back_is : (size room kept : ℕ) (formula log answer : Bytes) → walk_back size room kept formula log answer ≡ after_texts Back size kept formula log answer (replayed_text Back room)
unfolding walk_back carry_answer replayed_text carried_answer tested_text after_texts
walk_back_is size room kept formula log answer = refl
