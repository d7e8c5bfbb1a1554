-- How far a run is, and what a phase of it does.
use Rattle.std.specs.Prelude.{◌≡◌, List, ℕ, ◌+◌, ◌≤◌, ◌<◌, ◌^◌, ℤ, length, take}
use Rattle.definition.specs.Literals.{Formula}
use Rattle.definition.specs.Text.{Bytes}
use Rattle.definition.specs.Standing.{Line, after}
use Rattle.definition.specs.Log.{log_text}
use Rattle.definition.specs.Events.{Event}
use Rattle.definition.specs.Reencoding.{lines}
use Rattle.theory_base.specs.Clauses.{ProperAll, Fits}
use Rattle.text.specs.Output.{Put}
use Rattle.store.specs.Store.{Formed, stored}
use Rattle.progress.specs.declared.Progress.{Progress}

-- the lines' text is written, and they are counted
pub record Written (ls : List Line) (old_log : Bytes) (old : Progress) (log : Bytes) (new : Progress) : Type 0 where
  pub written : Put old_log old.at (log_text ls) new.at log
  pub counted : new.lines ≡ old.lines + length ls

-- the log's places and line numbers stay small while the lines are recorded
pub record LogRoom (ls : List Line) (p : Progress) : Type 0 where
  pub text : p.at + length (log_text ls) < 2 ^ 62
  pub count : p.lines + length ls < 2 ^ 62

-- ---- a pass over a workspace

-- what stands in the workspace: its first elements, up to the end, are the store
abbrev pub standing : List ℤ → Progress → Formula
standing work p = stored (take p.end work)

-- the workspace holds a good store, with variables up to `reach`, and the log has room for the lines of the events to come
pub record Good (reach : ℕ) (es : List Event) (work : List ℤ) (p : Progress) : Type 0 where
  pub small : length work < 2 ^ 31
  pub inside : p.end ≤ length work
  pub formed : Formed (take p.end work)
  pub proper : ProperAll (standing work p)
  pub fits : Fits reach (standing work p)
  pub room : LogRoom (lines es) p

-- the events es happened: the store holds what stands after them, the log their lines' text
pub record Runs (es : List Event) (work : List ℤ) (log : Bytes) (p : Progress) (new_work : List ℤ) (new_log : Bytes) (r : Progress) : Type 0 where
  pub size : length new_work ≡ length work
  pub inside : r.end ≤ length work
  pub formed : Formed (take r.end new_work)
  pub stands : standing new_work r ≡ after (standing work p) (lines es)
  pub written : Put log p.at (log_text (lines es)) r.at new_log
  pub counted : r.lines ≡ p.lines + length (lines es)
