-- What the readers of the header line answer.
use Rattle.std.specs.Prelude.{◌≡◌, false, ◌||◌, cond, Option, Result, Ok, Err, ℕ, ◌≤◌, ltb, length, drop}
use Rattle.definition.specs.Checked.{Checked, fault, value}
use Rattle.definition.specs.Text.{Bytes, past_comments}
use Rattle.definition.specs.Reading as Reading
use Rattle.refusals.specs.declared.Refusal.{Refusal}
use Rattle.refusals.specs.Numbers.{number}
use Rattle.text.specs.declared.Line.{Line}
use Rattle.text.specs.declared.NumberError.{NumberError}
use Rattle.text.specs.declared.NumberError.TheVariants.{TooLarge, NotANumber}
use Rattle.text.specs.Lines.{LineSays}
use Rattle.dimacs.specs.declared.Limits.{Limits}
use Rattle.dimacs.specs.declared.Counts.{Counts}
use Rattle.dimacs.specs.declared.Header.{Header}
use Rattle.dimacs.specs.Outcome.{header_of}

-- the first line after the comments
pub record HeaderLine (t : Bytes) (r : Option Line) : Type 0 where
  pub at : ℕ
  pub rest : drop at t ≡ past_comments false t
  pub says : LineSays t at r

abbrev pub counts_by : Limits → Result ℕ NumberError → Result ℕ NumberError → Checked Counts
counts_by most (Err NotANumber) c = fault 1
counts_by most (Err TooLarge) (Err NotANumber) = fault 1
counts_by most (Err TooLarge) (Err TooLarge) = fault 2
counts_by most (Err TooLarge) (Ok y) = fault 2
counts_by most (Ok x) (Err NotANumber) = fault 1
counts_by most (Ok x) (Err TooLarge) = fault 2
counts_by most (Ok x) (Ok y) = cond (ltb most.variables x || ltb most.clauses y) (fault 2) (value (record { variables = x; clauses = y }))

abbrev pub counts_of : Reading.Header → Counts
counts_of h = record { variables = h.variables; clauses = h.clauses }

-- the answer, and the outcome that it tells; the words after the header are those of the text after the next place
abbrev pub HeaderPost : Bytes → Checked Reading.Header → Result Header Refusal → Type 0
HeaderPost t o (Err e) = o ≡ fault (number e)
HeaderPost t o (Ok h) = (o ≡ value (header_of h.counts (drop h.next t))) × (h.next ≤ length t)
