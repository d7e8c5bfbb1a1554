-- The counts of each call, and the tally after it.
use Rattle.std.specs.Prelude.{List, [], ◌∷◌, ℕ, length, replicate}
use Rattle.definition.specs.Checked.{Checked, fault, value}
use Rattle.definition.specs.Literals.{literals_of}
use Rattle.definition.specs.Text.{Bytes}
use Rattle.definition.specs.Reading.{Input}
use Rattle.definition.specs.Calls.{Reencoded, Tally}
use Rattle.formula_run.specs.declared.Tally as Code
use Rattle.call_read_back.specs.declared.ReadBack.{ReadBack}
use Rattle.counts.specs.Counts.{overwritten}

-- a tally after a call: all zero at a fault, else the counts
unfoldable pub tally_after : {A : Type 0} → Checked A → (A → List ℕ) → List ℕ → List ℕ
tally_after (fault n) counts before = replicate (length before) 0
tally_after (value a) counts before = overwritten (counts a) before

-- choices, H, M, log lines, the log's bytes and the formula's
abbrev pub sizes_counts : Tally → List ℕ
sizes_counts x = x.choices ∷ x.highest ∷ x.clauses ∷ x.lines ∷ x.log_bytes ∷ x.formula_bytes ∷ []

abbrev pub reencoding_counts : Reencoded → List ℕ
reencoding_counts r = sizes_counts r.tally

-- the same of the code's result
abbrev pub done_counts : Code.Tally → List ℕ
done_counts t =
    t.choices ∷ t.highest ∷ t.clauses ∷ t.lines ∷ t.log_bytes ∷ t.formula_bytes ∷ []

-- the same of a formula read back
abbrev pub back_counts : ReadBack → List ℕ
back_counts r = r.variables ∷ r.clauses ∷ r.literals ∷ []

-- the bytes of the line
abbrev pub line_counts : Bytes → List ℕ
line_counts t = length t ∷ []

-- V, the clauses and the literals
abbrev pub read_back_counts : Input → List ℕ
read_back_counts i = i.variables ∷ length i.formula ∷ literals_of i.formula ∷ []
