-- Number and tally from the outcome of a call.
use Rattle.std.proofs.Common.{◌≡◌, refl, List, ℕ}
use Rattle.definition.specs.Checked.{Checked, fault, value}
use Rattle.refusals.specs.Outcomes.{showing}
use Rattle.exports.specs.Numbers.{number_of}
use Rattle.exports.specs.Counts.{tally_after}

-- what is shown of an outcome has its number and, of its value, the counts
module _ {A B : Type 0} (f : A → B) (counts : B → List ℕ) (o : Checked A) {told : Checked B} {counted : Checked (List ℕ)} (e : counted ≡ showing counts told) (k : told ≡ showing f o) where
  pub number_shown : number_of counted ≡ number_of o
  unfolding number_of
  number_shown = rw (e, k) (go o)
    where
      go : (p : Checked A) → number_of (showing counts (showing f p)) ≡ number_of p
      go (fault n) = refl
      go (value a) = refl

  pub tally_shown : (before : List ℕ) → tally_after counted (λ c. c) before ≡ tally_after o (λ a. counts (f a)) before
  unfolding tally_after
  tally_shown before = rw (e, k) (go o)
    where
      go : (p : Checked A) → tally_after (showing counts (showing f p)) (λ c. c) before ≡ tally_after p (λ a. counts (f a)) before
      go (fault n) = refl
      go (value a) = refl
