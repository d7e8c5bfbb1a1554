-- A table that is filled from its start.
use Rattle.std.proofs.Common.{◌≡◌, refl, sym, ◌∙◌, ap, ℕ, zero, suc, ◌+◌, ◌<◌, List, [], ◌∷◌, ◌++◌, length, drop, set, arith}
use Rattle.records.specs.declared.ChoiceRecord.{ChoiceRecord}
use Rattle.records.specs.Rows.{row_of, records_in}

-- a table whose first i records are those of the rows from a row on
abbrev pub filled_from : List ChoiceRecord → ℕ → ℕ → List ChoiceRecord → List ChoiceRecord
filled_from rows at i ys = records_in rows at i ++ drop i ys

pub none_filled : (rows : List ChoiceRecord) (at : ℕ) (ys : List ChoiceRecord) → filled_from rows at 0 ys ≡ ys
unfolding records_in
none_filled rows at ys = refl

put_behind : (rows : List ChoiceRecord) (at i : ℕ) (ys : List ChoiceRecord) → i < length ys → set (filled_from rows at i ys) i (row_of rows (at + i)) ≡ filled_from rows at (suc i) ys
unfolding records_in
put_behind rows at i [] l = absurd (omega arith)
put_behind rows at zero (y ∷ ys) l = ap (λ (k : ℕ). row_of rows k ∷ ys) (omega arith)
put_behind rows at (suc i) (y ∷ ys) l =
    let same : at + suc i ≡ at + 1 + i = omega arith in
    ap (λ (k : ℕ). row_of rows at ∷ set (filled_from rows (at + 1) i ys) i (row_of rows k)) same
    ∙ ap (λ (zs : List ChoiceRecord). row_of rows at ∷ zs) (put_behind rows (at + 1) i ys (omega arith))

-- the next record is put behind those that are there
pub next_filled : (rows : List ChoiceRecord) (i : ℕ) (ys : List ChoiceRecord) → i < length ys → set (filled_from rows 0 i ys) i (row_of rows i) ≡ filled_from rows 0 (i + 1) ys
next_filled rows i ys l =
    let e₀ : 0 + i ≡ i = omega arith in
    let e₁ : suc i ≡ i + 1 = omega arith in
    ap (λ (k : ℕ). set (filled_from rows 0 i ys) i (row_of rows k)) (sym e₀) ∙ put_behind rows 0 i ys l ∙ ap (λ (k : ℕ). filled_from rows 0 k ys) e₁
