-- The replay before an assignment is carried: only what lies behind the lines changes, and what the parts answer, the whole answers.
use mathlib.Core.Path.{◌≡◌, refl, sym, ap, ◌∙◌}
use mathlib.Core.List.{List}
use Prim.Native.Nat.{ℕ, ◌<◌}
use native.Mathlib.Omega.{arith}
use lib.IntN.{ℤ}
use lib.ListN.{length, take}
use lib.Seq.{take-take}
use Rattle.definition.specs.Checked.{fault, value, ◌>>=◌}
use Rattle.definition.specs.Literals.{Formula}
use Rattle.definition.specs.Text.{Bytes}
use Rattle.definition.specs.Standing.{Line, highest_in, replay}
use Rattle.definition.specs.Assignments.{Assignment}
use Rattle.theory_base.specs.Slices.{between}
use Rattle.theory_base.proofs.Parts.{between_same}
use Rattle.store.specs.Store.{Formed, stored}
use Rattle.drat.specs.Loaded.{Loaded, lines_in}
use Rattle.answer.specs.Table.{marked}
use Rattle.replay.specs.Replayed.{Stands, Replays}
use Rattle.std.specs.Prelude.{Option, Some, None, Result, Ok, Err}
use Rattle.std.specs.Option.{ok_or}
use Rattle.refusals.specs.declared.Refusal.{Refusal}
use Rattle.carry.specs.declared.Direction.{Direction}
use Rattle.carry.specs.Carried.{carried_over, replayed_text, Carries, Carryable}

-- ---- the replay's answer, or a refusal in its place
pub stands_as : (o : Option ℕ) (e : Refusal) (n : ℕ) → ◌≡◌ {A = Result ℕ Refusal} (Ok n) (ok_or o e) → o ≡ Some n
stands_as (Some m) e n h = cc
stands_as None e n h = cc

pub refused_as : (o : Option ℕ) (e x : Refusal) → ◌≡◌ {A = Result ℕ Refusal} (Err x) (ok_or o e) → (o ≡ None) × (x ≡ e)
refused_as (Some m) e x h = cc
refused_as None e x h = (refl, cc)

-- ---- the outcome, by the replay's
module _ (direction : Direction) (room v : ℕ) (f : Formula) (ss : List Line) (a : Assignment) where
  replay_refused : replay f ss ≡ fault 32 → replayed_text direction room v f ss a ≡ fault 32
  unfolding replayed_text ◌>>=◌
  replay_refused e = rw e

  replay_stands : (standing : Formula) → replay f ss ≡ value standing → replayed_text direction room v f ss a ≡ carried_over direction room v f ss standing a
  unfolding replayed_text ◌>>=◌
  replay_stands standing e = rw e

-- ---- the workspace after it

-- the formula before n, the lines at n..m, what stands at m..end; the table has every variable of the lines
pub record Parts (work : List ℤ) (n m end : ℕ) (marks : Bytes) : Type 0 where
  pub formed : Formed (take n work)
  pub loaded : Loaded (between n m work)
  pub standing : Formed (between m end work)
  pub named : highest_in (lines_in (between n m work)) < length marks

module _ {old : List ℤ} {n m v : ℕ} {marks : Bytes} (p : Carryable old n m v marks) (new : List ℤ) (q : Option ℕ) (s : Replays (replay (stored (take n old)) (lines_in (between n m old))) m (length old) q new) (k : take m new ≡ take m old) where
  abbrev formula : Formula
  formula = stored (take n old)

  abbrev lines : List Line
  lines = lines_in (between n m old)

  -- what lies before what stands is as it was
  kept_formula : take n new ≡ take n old
  kept_formula = sym (take-take n m new p.replayable.before) ∙ ap (take n) k ∙ take-take n m old p.replayable.before

  kept_lines : between n m new ≡ between n m old
  kept_lines = between_same n m m new old (omega arith) k

  pub no_clause : (direction : Direction) (room : ℕ) (a : Assignment) → q ≡ None → replayed_text direction room v formula lines a ≡ fault 32
  no_clause direction room a e = replay_refused direction room v formula lines a (rw e at s)

  module _ (end : ℕ) (e : q ≡ Some end) where
    stood : (f : Formula) × (replay formula lines ≡ value f) × Stands f m (length old) end new
    stood = rw e at s

    pub parts_there : Parts new n m end marks
    parts_there = record {
      formed = rw kept_formula p.replayable.formed;
      loaded = rw kept_lines p.replayable.loaded;
      standing = stood.2.formed;
      named = rw kept_lines p.named;
    }

    pub parts_carried : (direction : Direction) (out out' : Bytes) (r : Result ℕ Refusal) →
        Carries (carried_over direction (length out) v (stored (take n new)) (lines_in (between n m new)) (stored (between m end new)) (marked marks)) out r out' →
        Carries (replayed_text direction (length out) v formula lines (marked marks)) out r out'
    parts_carried direction out out' r c =
        rw (replay_stands direction (length out) v formula lines (marked marks) stood.0 stood.1) (rw (kept_formula, kept_lines, stood.2.same) at c)
