-- An assignment written, before that an answer tested and carried back or a plan carried forward, and after it the buffer.
use mathlib.Core.Path.{◌≡◌, refl, sym, ap, ◌∙◌}
use mathlib.Core.Bool.{true, false}
use mathlib.Core.List.{List, ◌++◌}
use Prim.Native.Nat.{ℕ, ◌≤◌, ◌<◌}
use native.Mathlib.Omega.{arith}
use lib.ListN.{length, drop, replicate}
use borrow.Author.Tests.{lt-ltb, le-ltb}
use Rattle.std.specs.Prelude.{Result, Ok, Err}
use Rattle.std.specs.Result.{is_err}
use Rattle.theory_base.proofs.Tests.{differ}
use Rattle.definition.specs.Checked.{Checked, fault, value, refuse_if}
use Rattle.definition.specs.Literals.{Formula}
use Rattle.definition.specs.Text.{Bytes}
use Rattle.definition.specs.Standing.{Line}
use Rattle.definition.specs.Assignments.{Assignment, satisfies, carried_back, carried_forward}
use Rattle.definition.specs.Calls.{answer_text, fitting_line, buffer_after}
use Rattle.refusals.specs.declared.Refusal.{Refusal}
use Rattle.refusals.specs.Outcomes.{outcome, showing}
use Rattle.text.specs.Output.{Put}
use Rattle.text.proofs.Output.{put_fits}
use Rattle.carry.specs.Carried.{tested_text, carried_answer, carried_plan, Carries, CarriesBy}

-- ---- written, where the line fits
module _ (old new : Bytes) (v n : ℕ) (a : Assignment) (p : Put old 0 (answer_text v a) n new) where
  pub line_long : length old < n → fitting_line (length old) v a ≡ fault 14
  unfolding fitting_line refuse_if
  line_long h = rw (lt-ltb (length old) (length (answer_text v a)) (omega (arith, p.next))) refl

  pub line_written : n ≤ length old → Carries (fitting_line (length old) v a) old (Ok n) new
  unfolding fitting_line refuse_if
  line_written h = (answer_text v a, rw (le-ltb (length old) (length (answer_text v a)) (omega (arith, p.next))) refl, p, h)

-- ---- an answer: tested against what stands, and carried back
module _ (room v : ℕ) (f : Formula) (ss : List Line) (standing : Formula) (a : Assignment) where
  pub answer_fails : false ≡ satisfies a standing → carried_answer room v f ss standing a ≡ fault 44
  unfolding carried_answer refuse_if
  answer_fails e = rw (sym e) refl

  module _ (h : true ≡ satisfies a standing) (b : Assignment) (d : b ≡ carried_back a ss) where
    pub back_fails : false ≡ satisfies b f → carried_answer room v f ss standing a ≡ fault 33
    unfolding carried_answer tested_text refuse_if
    back_fails e = rw (sym h, sym d, sym e) refl

    pub answer_carried : true ≡ satisfies b f → carried_answer room v f ss standing a ≡ fitting_line room v b
    unfolding carried_answer tested_text refuse_if
    answer_carried e = rw (sym h, sym d, sym e) refl

-- ---- a plan: carried forward
module _ (room x : ℕ) (ss : List Line) (standing : Formula) (a b : Assignment) (d : b ≡ carried_forward a ss) where
  pub forward_fails : false ≡ satisfies b standing → carried_plan room x ss standing a ≡ fault 46
  unfolding carried_plan tested_text refuse_if
  forward_fails e = rw (sym d, sym e) refl

  pub plan_carried : true ≡ satisfies b standing → carried_plan room x ss standing a ≡ fitting_line room x b
  unfolding carried_plan tested_text refuse_if
  plan_carried e = rw (sym d, sym e) refl

-- ---- the outcome and the buffer, by what is answered
pub carried_outcome : (r : Result ℕ Refusal) (o : Checked Bytes) (old new : Bytes) → Carries o old r new → outcome r ≡ showing (λ t. length t) o
carried_outcome (Ok n) o old new z =
    let size : n ≡ length z.0 = omega (arith, z.2.next) in
    rw z.1 (ap (λ (k : ℕ). value k) size)
carried_outcome (Err x) o old new z = rw z refl

module _ {E : Type 0} (f : E → ℕ) where
  pub ok_settled : (r : Result ℕ E) (o : Checked Bytes) (old new : Bytes) → is_err r ≡ false → CarriesBy f o old r new → new ≡ buffer_after 0 o (λ t. t) old
  unfolding buffer_after
  ok_settled (Ok n) o old new e z =
      let size : n ≡ length z.0 = omega (arith, z.2.next) in
      rw z.1 (put_fits z.2 z.3 ∙ ap (λ (k : ℕ). z.0 ++ drop k old) size)
  ok_settled (Err x) o old new e z = absurd (differ {b = true} tt e)

  pub err_settled : (r : Result ℕ E) (o : Checked Bytes) (old new zeros : Bytes) → is_err r ≡ true → CarriesBy f o old r new → length new ≡ length old → zeros ≡ replicate (length new) 0 → zeros ≡ buffer_after 0 o (λ t. t) old
  unfolding buffer_after
  err_settled (Ok n) o old new zeros e s l z = absurd (differ {b = true} tt (sym e))
  err_settled (Err x) o old new zeros e s l z = rw s (z ∙ ap (λ (k : ℕ). replicate k 0) l)
