-- DEMAND 3. For a formula that reading accepts, in every form and under every wish, whatever number j of log lines is kept.
use Rattle.std.specs.Prelude.{◌≡◌, ◌↔◌, ℕ, T, take}
use mathlib.Core.List.{Memᴰ}
use Rattle.definition.specs.Checked.{value}
use Rattle.definition.specs.Literals.{Clause, Formula}
use Rattle.definition.specs.Reading.{Input}
use Rattle.definition.specs.Text.{Bytes}
use Rattle.definition.specs.Standing.{after, replay}
use Rattle.definition.specs.Assignments.{Assignment, satisfies, Satisfiable, ExactlyOne, carried_back}
use Rattle.definition.specs.Events.{Choice}
use Rattle.definition.specs.Calls.{read_input}
use Rattle.definition.specs.Reencoding.{Settings, events, log, result, GoesInto}

-- the clauses that stand with j lines kept
unfoldable pub standing : Settings → Input → ℕ → Formula
standing s i j = after i.formula (take j (log s i))

pub record Demand3 (s : Settings) (i : Input) : Type 0 where
  -- every kept deletion finds its clause: number 32 never occurs
  pub found : (j : ℕ) → replay i.formula (take j (log s i)) ≡ value (standing s i j)
  -- the clauses then standing can be satisfied exactly when the input can
  pub equisatisfiable : (j : ℕ) → Satisfiable (standing s i j) ↔ Satisfiable i.formula
  -- every assignment that satisfies them, carried back over the kept lines, satisfies the input
  pub back : (j : ℕ) (a : Assignment) → T (satisfies a (standing s i j)) → T (satisfies (carried_back a (take j (log s i))) i.formula)
  -- with all lines kept it also makes exactly one literal true in every input clause that goes into a choice
  pub exactly_one : (a : Assignment) → T (satisfies a (result s i)) → (c : Clause) → Memᴰ c i.formula → (k : Choice) → GoesInto k (events s i) c → ExactlyOne (carried_back a (log s i)) c

-- the theorem, proved as `demand_3` in proofs/Demand3: there is nothing to assume but that the text was accepted
unfoldable pub Demand3Holds : Type 0
Demand3Holds = (t : Bytes) (i : Input) → read_input t ≡ value i → (s : Settings) → Demand3 s i
