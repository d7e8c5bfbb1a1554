-- Clearing all clashes, by their marks.
use Rattle.std.specs.Prelude.{◌≡◌, false, List, [], ◌∷◌, ◌++◌, ℕ, ◌+◌, ◌-◌, ◌*◌, ◌≤◌, ◌<◌, ℤ, length, replicate}
use Rattle.definition.specs.Literals.{opposed}
use Rattle.definition.specs.Text.{Bytes}
use Rattle.definition.specs.Standing.{after}
use Rattle.definition.specs.Events.{Clash, Event, clash_cleared}
use Rattle.definition.specs.Clearing.{resolvent, clear_clashes}
use Rattle.definition.specs.Reencoding.{lines}
use Rattle.theory_base.specs.Cells.{cells_of}
use Rattle.tables.specs.Sizes.{input_reach, input_size}
use Rattle.marks.specs.Marks.{input_words, marked}
use Rattle.index.specs.Index.{Indexed}
use Rattle.progress.specs.declared.Progress.{Progress}
use Rattle.progress.specs.Progress.{standing, Good, Runs}
use Rattle.pass_clashes.specs.Marking.{MarksClashes}
use Rattle.pass_clashes.specs.Weights.{Light, Reweighs}
use Rattle.pass_clashes.specs.declared.Scan.{Scan}

-- what clearing the clashes of the events es needs: whenever one is cleared, there is room for what stands and `step` elements more
pub record ClashReady (step : ℕ) (es : List Event) (work : List ℤ) (p : Progress) : Type 0 where
  pub good : Good input_reach es work p
  pub space : (xs ys : List Event) → es ≡ xs ++ ys → cells_of (after (standing work p) (lines xs)) + step ≤ length work
  -- so much takes a resolvent that is added
  pub cells : (xs ys : List Event) (c : Clash) → es ≡ xs ++ (clash_cleared c ∷ ys) → opposed (resolvent c) ≡ false → cells_of (resolvent c ∷ []) ≤ step

-- The invariant: the marks are exactly the clashing variables of what stands, and none is before the word where the search goes on; the workspace is indexed, the lent table is zeros, and the weights have room.
pub record Searching (step : ℕ) (work : List ℤ) (newest t w m : List ℕ) (z : Scan) : Type 0 where
  pub ready : ClashReady step (clear_clashes (standing work z.progress)) work z.progress
  pub indexed : Indexed work z.progress.end newest
  pub zeros : t ≡ replicate input_size 0
  pub light : Light (standing work z.progress) w
  pub exact : MarksClashes (standing work z.progress) m
  pub passed : (v : ℕ) → v < 32 * z.word → marked m v ≡ false
  pub size : length m ≡ input_words

-- from one search to a later one: what happened is what was left before and is not left then
pub record Scanned (step : ℕ) (work : List ℤ) (w : List ℕ) (log : Bytes) (z : Scan) (new : List ℤ) (newest t u : List ℕ) (new_log : Bytes) (m : List ℕ) (r : Scan) : Type 0 where
  pub events : List Event
  pub runs : Runs events work log z.progress new new_log r.progress
  pub rest : events ++ clear_clashes (standing new r.progress) ≡ clear_clashes (standing work z.progress)
  pub searching : Searching step new newest t u m r
  pub reweighs : Reweighs events (standing work z.progress) w (standing new r.progress) u

-- a turn takes out a clause, or ends the search
abbrev pub turns_left : List ℤ → Scan → ℕ
turns_left work z = length (standing work z.progress) + (input_words - z.word)
