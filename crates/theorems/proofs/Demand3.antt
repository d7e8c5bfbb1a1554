-- Demand 3 holds: our own log is sound, so an assignment can be carried back and forward over its kept lines.
use mathlib.Core.Path.{◌≡◌}
use mathlib.Core.List.{[]}
use Prim.Native.Nat.{ℕ}
use lib.Dec.{T}
use lib.ListN.{take}
use Rattle.definition.specs.Checked.{value}
use Rattle.definition.specs.Reading.{Input}
use Rattle.definition.specs.Text.{Bytes}
use Rattle.definition.specs.Assignments.{Assignment, satisfies, ExactlyOne, carried_back, carried_forward}
use Rattle.definition.specs.Reencoding.{Settings, events, log, result}
use Rattle.definition.specs.Calls.{read_input}
use Rattle.theory_base.proofs.Trues.{sat_satisfies, satisfies_sat}
use Rattle.theory_base.proofs.Replay.{leads_cut, leads_replay}
use Rattle.theory_soundness.proofs.Sound.{into_none, Sound, sound_leads, cut, exactly_one}
use Rattle.theory_text.proofs.Accepted.{input_accepted}
use Rattle.theorems.specs.Demand3.{standing, Demand3Holds}
use Rattle.theory_run.proofs.LogSound.{log_sound}

module _ (t : Bytes) (i : Input) (e : read_input t ≡ value i) (s : Settings) where
  sound : Sound i.formula (events s i) (log s i) (result s i) []
  sound = let a = input_accepted t i e in log_sound s i a.proper a.fits

  carries_back : (j : ℕ) (a : Assignment) → T (satisfies a (standing s i j)) → T (satisfies (carried_back a (take j (log s i))) i.formula)
  unfolding standing
  carries_back j a q = sat_satisfies (carried_back a (take j (log s i))) i.formula ((cut sound j).back a (satisfies_sat a _ q))

  -- M-121: the same the other way
  pub carries_forward : (j : ℕ) (a : Assignment) → T (satisfies a i.formula) → T (satisfies (carried_forward a (take j (log s i))) (standing s i j))
  unfolding standing
  carries_forward j a q = sat_satisfies (carried_forward a (take j (log s i))) _ ((cut sound j).forward a (satisfies_sat a i.formula q))

pub demand_3 : Demand3Holds
unfolding Demand3Holds standing ExactlyOne
demand_3 t i e s = record {
  found = λ j. leads_replay (leads_cut j (sound_leads (sound t i e s)));
  equisatisfiable = λ j. (
    λ q. record { by = carried_back q.by (take j (log s i)); holds = carries_back t i e s j q.by q.holds },
    λ q. record { by = carried_forward q.by (take j (log s i)); holds = carries_forward t i e s j q.by q.holds },
  );
  back = carries_back t i e s;
  exactly_one = λ a q c m k g. exactly_one (sound t i e s) a (satisfies_sat a (result s i) q) (λ d o. absurd (into_none o)) c (record { choice = k; goes = g });
}
