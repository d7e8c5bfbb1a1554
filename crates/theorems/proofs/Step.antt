-- The step: the first new variable, the step 1, a record for each choice, and no skipped number in a clause.
use mathlib.Core.Path.{◌≡◌, refl, ◌∙◌, ap}
use mathlib.Core.Logic.{inl, inr}
use mathlib.Core.List.Memᴰ
use mathlib.Core.List.{List, [], ◌∷◌, ◌++◌}
use Prim.Native.Nat.{ℕ, zero, suc, ◌+◌, ◌-◌, ◌*◌, ◌/◌, ◌%◌, ◌≤◌, ◌<◌}
use native.Mathlib.Omega.{arith}
use native.Mathlib.Nat.{mod-lt, mod_self, mod-one, mod-eq_of_lt, div-add-mod', mul-le-mul_right}
use lib.Dec.{leb}
use lib.ListN.{take, drop, take-append-drop}
use borrow.Author.Tests.{leb-true, leb-false}
use Rattle.theory_base.proofs.Tests.{by_test}
use Rattle.definition.specs.Literals.{Clause, Formula}
use Rattle.definition.specs.Standing.{after}
use Rattle.definition.specs.Events.{Event, choice_of}
use Rattle.definition.specs.Clearing.{clear_clashes, clear_pure}
use Rattle.definition.specs.Counter.{below_new, last_new}
use Rattle.definition.specs.Reencoding.{Form, Settings, lines, choice_events, choices_events, unclashed, cleared, events, chosen, log}
use Rattle.definition.specs.Reading.{Input}
use Rattle.theory_counter.proofs.NewVariables.{below_new_least}
use Rattle.theory_room.specs.Choices.{order_of}
use Rattle.theory_base.proofs.Replay.{AllLines, all_after}
use Rattle.theory_text.proofs.Accepted.{input_accepted}
use Rattle.theory_room.proofs.Runs.{Run}
use Rattle.theory_room.proofs.Used.{Used}
use Rattle.theory_run.proofs.LogSound.{accepted_run}
use Rattle.theory_run.proofs.Table.{table_length}
use Rattle.theory_run.proofs.Used.{log_used}
use Rattle.theorems.specs.Demand3.{standing}
use Rattle.theorems.specs.Step.{FirstNew, unstepped, SteppingHolds, NotSkipped, NoneSkipped, NoneSkippedHolds}

-- ---- the first new variable: a multiple of g is n itself, where the remainder is 0, or the next

-- the next multiple is g - r further, where r is the remainder
next_multiple : (g n r : ℕ) → 1 ≤ g → n % g ≡ r → (q : ℕ) × (below_new g n ≡ q * g) × (q * g < n + g) × (n ≤ q * g)
unfolding below_new
next_multiple g n zero h e =
    let w : g - 0 ≡ g = omega arith in
    (n / g, omega (arith, div-add-mod' n g, ap (λ (x : ℕ). x % g) w, mod_self g, ap (λ (r : ℕ). (g - r) % g) e), omega (arith, div-add-mod' n g), omega (arith, div-add-mod' n g))
next_multiple g n (suc r) h e =
    let l : n % g < g = mod-lt n {m = g} (omega arith) in
    let m : (g - suc r) % g ≡ g - suc r = mod-eq_of_lt (omega arith) in
    let t : suc (n / g) * g ≡ n / g * g + g = omega arith in
    (suc (n / g), omega (arith, div-add-mod' n g, ap (λ (r : ℕ). (g - r) % g) e), omega (arith, div-add-mod' n g), omega (arith, div-add-mod' n g))

-- no multiple lies between
no_multiple_between : (g n p q : ℕ) → q * g < n + g → n ≤ p * g → q * g ≤ p * g
no_multiple_between g n p q h k = by_test (leb q p) (λ t. mul-le-mul_right g (leb-true q p t)) (λ t. absurd (let m : suc p * g ≤ q * g = mul-le-mul_right g (leb-false q p t) in omega arith))

first_new_is : (g n : ℕ) → 1 ≤ g → FirstNew g n
first_new_is g n h =
    let t = next_multiple g n (n % g) h refl in
    record {
      above = omega (arith, below_new_least g n);
      stepped = (t.0, omega (arith, t.1));
      least = λ m l e. omega (arith, t.1, e.1, no_multiple_between g n e.0 t.0 t.2 (omega (arith, e.1)));
    }

-- ---- the step 1
step_one : (n : ℕ) → below_new 1 n ≡ n
unfolding below_new
step_one n = omega (arith, mod-one (1 - n % 1))

unstepped_is : (form : Form) (order : Clause → Clause) (n : ℕ) (f : Formula) (cs : List Clause) → choices_events form 1 order n f cs ≡ unstepped form order n f cs
unfolding choices_events unstepped
unstepped_is form order n f [] = refl
unstepped_is form order n f (c ∷ cs) =
    let k = choice_of (order c) n in
    let es = choice_events form f c k in
    rw (step_one n) (ap (λ (xs : List Event). es ++ xs) (unstepped_is form order (last_new k) (after f (lines es)) cs))

pub stepping : SteppingHolds
unfolding SteppingHolds events
stepping s i =
    let f = i.formula in
    record {
      first_new = λ h n. first_new_is s.step n h;
      as_before = λ e.
          ap (λ (g : ℕ). clear_clashes f ++ clear_pure (unclashed f) ++ choices_events s.form g (order_of s i) i.highest (cleared f) (chosen s i)) e
          ∙ ap (λ (xs : List Event). clear_clashes f ++ clear_pure (unclashed f) ++ xs) (unstepped_is s.form (order_of s i) i.highest (cleared f) (chosen s i));
      one_each = table_length s i;
    }

-- ---- no skipped number in a clause
run_none_skipped : (s : Settings) (i : Input) → Run s i → NoneSkipped s i
unfolding standing
run_none_skipped s i h = record {
  in_lines = in_log;
  in_clauses = λ j. all_after Unskipped i.formula (take j (log s i)) (λ d m l k. inl (h.fits d m l k).1) (λ x m. in_log x (rw (take-append-drop j (log s i)) at (Memᴰ.append_left (drop j (log s i)) m)));
}
  where
    Unskipped : Clause → Type 0
    Unskipped = Used (NotSkipped s i)

    in_log : AllLines Unskipped (log s i)
    in_log = log_used (NotSkipped s i) s i h (λ v b. inl b) (λ r m v lo hi. inr (r, m, (lo, hi)))

pub none_skipped : NoneSkippedHolds
unfolding NoneSkippedHolds
none_skipped t i e s = run_none_skipped s i (accepted_run s i (input_accepted t i e))
