-- How far tables reach: the highest variable, and the size of a table with two entries for each variable up to it.
use Rattle.std.specs.Prelude.{◌≡◌, refl, ℕ, ◌+◌}

-- an input's variables
abbrev pub input_reach : ℕ
input_reach = 8000

abbrev pub input_size : ℕ
input_size = 16002

-- a log's variables
abbrev pub log_reach : ℕ
log_reach = 70000

abbrev pub log_size : ℕ
log_size = 140002

examples : (input_size ≡ input_reach + input_reach + 2) × (log_size ≡ log_reach + log_reach + 2)
examples = (refl, refl)
