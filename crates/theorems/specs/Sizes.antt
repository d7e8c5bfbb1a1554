-- M-126: sizes told beforehand are the run's, for every accepted formula; its refusals are the run's, "save 12, 13 and 17"; and buffers of just these sizes are enough, smaller ones are not.
use Rattle.std.specs.Prelude.{◌≡◌, ◌⊎◌, ℕ, ◌≤◌, ◌<◌, length}
use mathlib.Core.List.{[], ◌∷◌, Memᴰ}
use Rattle.definition.specs.Checked.{fault, value}
use Rattle.definition.specs.Text.{Bytes}
use Rattle.definition.specs.Reading.{Input}
use Rattle.definition.specs.Log.{log_text, formula_text}
use Rattle.definition.specs.Reencoding.{Settings, chosen, log, result, highest_used}
use Rattle.definition.specs.Calls.{read_input, Tally, Reencoded, reencode, sizes}

-- choices, H, M, log lines and both byte lengths of the run over an input
pub record OfRun (s : Settings) (i : Input) (x : Tally) : Type 0 where
  pub choices : x.choices ≡ length (chosen s i)
  pub highest : x.highest ≡ highest_used s i
  pub clauses : x.clauses ≡ length (result s i)
  pub lines : x.lines ≡ length (log s i)
  pub log_bytes : x.log_bytes ≡ length (log_text (log s i))
  pub formula_bytes : x.formula_bytes ≡ length (formula_text (highest_used s i) (result s i))

-- a result whose texts and table have just these sizes
pub record Fills (x : Tally) (r : Reencoded) : Type 0 where
  pub tally : r.tally ≡ x
  pub log : length r.log ≡ x.log_bytes
  pub formula : length r.formula ≡ x.formula_bytes
  pub table : length r.table ≡ x.choices

-- what reencoding does with a table of so many records and buffers of so many bytes, where x is told beforehand
pub record Told (s : Settings) (workspace : ℕ) (t : Bytes) (x : Tally) (log_room formula_room table_room : ℕ) : Type 0 where
  -- it is not refused where there is room for all, and fills the room
  pub enough : x.log_bytes ≤ log_room → x.formula_bytes ≤ formula_room → x.choices ≤ table_room → (r : Reencoded) × (reencode s workspace log_room formula_room table_room t ≡ value r) × Fills x r
  -- where there is less, be it by one record or one byte, it is refused with 17, 12 or 13
  pub table_short : table_room < x.choices → reencode s workspace log_room formula_room table_room t ≡ fault 17
  pub log_short : x.choices ≤ table_room → log_room < x.log_bytes → reencode s workspace log_room formula_room table_room t ≡ fault 12
  pub formula_short : x.choices ≤ table_room → x.log_bytes ≤ log_room → formula_room < x.formula_bytes → reencode s workspace log_room formula_room table_room t ≡ fault 13

pub record Sizing (s : Settings) (workspace : ℕ) (t : Bytes) : Type 0 where
  -- what is told is the run's, of an accepted formula
  pub of_run : (x : Tally) → sizes s workspace t ≡ value x → (i : Input) × (read_input t ≡ value i) × OfRun s i x
  pub told : (x : Tally) → sizes s workspace t ≡ value x → (log_room formula_room table_room : ℕ) → Told s workspace t x log_room formula_room table_room
  -- it is told wherever reencoding gives a result
  pub accepted : (log_room formula_room table_room : ℕ) (r : Reencoded) → reencode s workspace log_room formula_room table_room t ≡ value r → sizes s workspace t ≡ value r.tally
  -- the refusals are the run's, save 12, 13 and 17
  pub refused : (n : ℕ) → sizes s workspace t ≡ fault n → (log_room formula_room table_room : ℕ) → reencode s workspace log_room formula_room table_room t ≡ fault n
  pub refusals : (log_room formula_room table_room n : ℕ) → reencode s workspace log_room formula_room table_room t ≡ fault n → (sizes s workspace t ≡ fault n) ⊎ Memᴰ n (12 ∷ 13 ∷ 17 ∷ [])

-- the theorem, proved as `sizing` in proofs/Sizes: whatever the bytes, the settings and the workspace
unfoldable pub SizingHolds : Type 0
SizingHolds = (s : Settings) (workspace : ℕ) (t : Bytes) → Sizing s workspace t
