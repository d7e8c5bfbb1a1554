-- The variables of a run's lines, for any set U that has those of the input and the new ones of each choice, as its record says. Choice by choice: what stands is of U before and after it.
use mathlib.Core.Path.{refl}
use mathlib.Core.List.Memᴰ
use mathlib.Core.List.Memᴰ.{head as here}
use mathlib.Core.List.Memᴰ.{tail as there}
use mathlib.Core.List.{List, [], ◌∷◌, Memᴰ}
use Prim.Native.Nat.{ℕ, ◌+◌, ◌≤◌}
use native.Mathlib.Omega.{arith}
use Rattle.definition.specs.Lists.{for_each}
use Rattle.definition.specs.Literals.{Clause, Formula}
use Rattle.definition.specs.Standing.{after}
use Rattle.definition.specs.Reading.{Input}
use Rattle.definition.specs.Events.{TableRecord}
use Rattle.definition.specs.Clearing.{clear_clashes}
use Rattle.definition.specs.Counter.{last_new}
use Rattle.definition.specs.Reencoding.{lines, Form, Settings, choice_events, choices_events, resolved_into, cleared, chosen, log, table}
use Rattle.theory_base.proofs.Replay.{lines-++, AllClauses, AllLines, all_lines-++}
use Rattle.theory_room.specs.Choices.{as_choice, clearing, order_of}
use Rattle.theory_room.proofs.Lines.{Arranges, ordered_formed, others, choice_lines_carried, after_choice_carried}
use Rattle.theory_room.proofs.Used.{Used, carried_used}
use Rattle.theory_room.proofs.Cleared.{clearing_lines_to}
use Rattle.theory_room.proofs.Runs.{Run, choosing, standing_to, arranges, log_is}
use Rattle.theory_run.specs.Table.{taken_records}
use Rattle.theory_run.proofs.Table.{table_is}

module _ (U : ℕ → Type 0) where
  -- the new variables of each record are in U
  abbrev pub HasNew : List TableRecord → Type 0
  HasNew rs = (r : TableRecord) → Memᴰ r rs → (v : ℕ) → r.first ≤ v → v + 2 ≤ r.first + r.length → U v

  choices_lines_used : (form : Form) (g : ℕ) (order : Clause → Clause) (count : Clause → ℕ) (n : ℕ) (f : Formula) (cs : List Clause) →
      Arranges n order cs → AllClauses (Used U) f → AllClauses (Used U) cs → HasNew (taken_records g order count n cs) → AllLines (Used U) (lines (choices_events form g order n f cs))
  unfolding choices_events taken_records last_new lines for_each
  choices_lines_used form g order count n f [] h a q t = λ x m. absurd (Memᴰ.not-nil m)
  choices_lines_used form g order count n f (c ∷ cs) h a q t =
      let k = as_choice g n order c in
      let es = choice_events form f c k in
      let u = ordered_formed n order (c ∷ cs) h c (here refl) g n (omega arith) in
      let w = carried_used U k u (λ x m. q c (here refl) x ((h c (here refl)).3.0 x m)) (λ v lo hi. t _ (here refl) v (omega arith) (omega arith)) in
      let rest = choices_events form g order (last_new k) (after f (lines es)) cs in
      rw (lines-++ es rest)
      (all_lines-++ (Used U) (lines es) (lines rest) (choice_lines_carried c k u f (Used U) (Used U) w a form)
      (choices_lines_used form g order count (last_new k) (after f (lines es)) cs (others g n order c cs h) (after_choice_carried c k u f (Used U) (Used U) w a form) (λ d m. q d (there m)) (λ r m. t r (there m))))

  pub log_used : (s : Settings) (i : Input) → Run s i → ((v : ℕ) → v ≤ i.highest → U v) → HasNew (table s i) → AllLines (Used U) (log s i)
  unfolding choosing
  log_used s i h old new =
      let f = i.formula in
      rw (log_is s i h)
      (all_lines-++ (Used U) (lines (clearing f)) (lines (choosing s i))
      (λ x m l k. old _ ((clearing_lines_to i.highest f h.proper h.fits x m).1 l k))
      (choices_lines_used s.form s.step (order_of s i) (resolved_into (λ d. 1) (clear_clashes f)) i.highest (cleared f) (chosen s i) (arranges s i h)
      (λ d m l k. old _ ((standing_to s i h d m).1 l k)) (λ d m l k. old _ ((arranges s i h d m).0.1 l k)) (rw (table_is s i) at new)))
