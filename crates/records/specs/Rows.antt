-- Records of choices, and the rows of a table of the definition.
use Rattle.std.specs.Prelude.{List, [], ◌∷◌, ℕ, zero, suc, ◌+◌, map, get_or}
use Rattle.definition.specs.Events.{TableRecord}
use Rattle.records.specs.declared.ChoiceRecord.{ChoiceRecord}

-- a record of the definition
abbrev pub shown_record : TableRecord → ChoiceRecord
shown_record r = record { first = r.first; length = r.length; clauses = r.clauses }

-- the rows of records, one after another
abbrev pub rows_of : List TableRecord → List ChoiceRecord
rows_of rs = map shown_record rs

-- the record of zeros
abbrev pub no_record : ChoiceRecord
no_record = record { first = 0; length = 0; clauses = 0 }

-- the record of a row; past the last row, that of zeros
abbrev pub row_of : List ChoiceRecord → ℕ → ChoiceRecord
row_of rows at = get_or rows at no_record

-- the records of n rows, from a row on
unfoldable pub records_in : List ChoiceRecord → ℕ → ℕ → List ChoiceRecord
records_in rows at zero = []
records_in rows at (suc n) = row_of rows at ∷ records_in rows (at + 1) n
