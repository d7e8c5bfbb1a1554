-- What a result says of the definition's outcome, case by case.
use Rattle.std.proofs.Common.{◌≡◌, refl, Ok, Err, Result}
use Rattle.definition.specs.Checked.{Checked, fault, value}
use Rattle.refusals.specs.declared.Refusal.{Refusal}
use Rattle.refusals.specs.Numbers.{number}
use Rattle.refusals.specs.Outcomes.{outcome, showing}

-- the value behind an `Ok`
pub record Shown {A B : Type 0} (f : A → B) (o : Checked A) (b : B) : Type 0 where
  pub it : A
  pub is : o ≡ value it
  pub shows : b ≡ f it

pub ok_shows : {A B : Type 0} (f : A → B) (o : Checked A) {r : Result B Refusal} {b : B} → r ≡ Ok b → outcome r ≡ showing f o → Shown f o b
ok_shows f (fault n) e h = cc
ok_shows f (value a) e h = record { it = a; is = refl; shows = cc }

pub err_faults : {A B : Type 0} (f : A → B) (o : Checked A) {r : Result B Refusal} {e : Refusal} → r ≡ Err e → outcome r ≡ showing f o → o ≡ fault (number e)
err_faults f (fault n) e h = cc
err_faults f (value a) e h = cc
