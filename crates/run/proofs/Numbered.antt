-- The choices numbered: refused with 16, or taken.
use mathlib.Core.Path.{refl}
use mathlib.Core.List.{List}
use Prim.Native.Nat.{ℕ, ◌≤◌, ◌<◌}
use native.Mathlib.Omega.{arith}
use lib.IntN.{ℤ}
use Rattle.definition.specs.Literals.{Clause}
use Rattle.definition.specs.Text.{Bytes}
use Rattle.definition.specs.Reencoding.{Form}
use Rattle.store.specs.Store.{stored}
use Rattle.progress.specs.declared.Progress.{Progress}
use Rattle.pass_number.specs.declared.Numbered.{Numbered}
use Rattle.pass_number.specs.Numbering.{Numbers}
use Rattle.run.specs.declared.Reached.{Reached}
use Rattle.std.specs.Prelude.{Ok, Err}
use Rattle.refusals.specs.declared.Refusal.TheVariants.{TooManyVariables}
use Rattle.records.specs.declared.ChoiceRecord.{ChoiceRecord}
use Rattle.run.specs.Choices.{AllReady, TakenAll, TakeReady, TookAll}

module _ {form : Form} {g : ℕ} {work : List ℤ} {log : Bytes} {p : Progress} {ls : List Clause} {n : ℕ} {w : List ℕ} {rows : List ChoiceRecord} {new_work : List ℤ} {new_log : Bytes} {fresh : List ChoiceRecord} {m : Numbered}
    (u : Numbers g ls w rows n 0 fresh m) where
  pub took_high : 70_000 < m.highest → TookAll form g work log p ls n w rows new_work new_log fresh (Err TooManyVariables)
  took_high h = record { high = λ _. refl; taken = λ k. absurd (omega (arith, u.highest)); written = u.written }

  pub took : {q : Reached} → m.highest ≤ 70_000 → TakenAll form g work log p ls n new_work new_log q → TookAll form g work log p ls n w rows new_work new_log fresh (Ok q)
  took {q} h t = record { high = λ k. absurd (omega (arith, u.highest)); taken = λ _. (q, refl, t); written = u.written }

pub take_all_ready : {form : Form} {g step : ℕ} {work : List ℤ} {p : Progress} {chosen : List ℤ} {n : ℕ} {w : List ℕ} {rows fresh : List ChoiceRecord} {m : Numbered} →
    TakeReady form g step work p chosen n w rows → Numbers g (stored chosen) w rows n 0 fresh m → m.highest ≤ 70_000 → AllReady form g step work p chosen n
take_all_ready r u h = record {
  good = r.good;
  few = r.few;
  chosen_formed = r.number_ready.formed;
  takeable = r.takeable;
  step_least = r.number_ready.ready.step_least;
  step_most = r.number_ready.ready.step_most;
  low = omega (arith, u.highest);
}
