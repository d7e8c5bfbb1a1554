-- The records of rows that are there are these rows.
use Rattle.std.proofs.Common.{◌≡◌, refl, ap, ◌∙◌, ℕ, zero, suc, ◌+◌, ◌≤◌, List, [], ◌∷◌, length, take, arith}
use Rattle.records.specs.declared.ChoiceRecord.{ChoiceRecord}
use Rattle.records.specs.Rows.{row_of, records_in}

records_behind : (r : ChoiceRecord) (rows : List ChoiceRecord) (at n : ℕ) → records_in (r ∷ rows) (suc at) n ≡ records_in rows at n
unfolding records_in
records_behind r rows at zero = refl
records_behind r rows at (suc n) =
    let e : suc at + 1 ≡ suc (at + 1) = omega arith in
    ap (λ (rs : List ChoiceRecord). row_of rows at ∷ rs) (ap (λ (k : ℕ). records_in (r ∷ rows) k n) e ∙ records_behind r rows (at + 1) n)

pub records_there : (rows : List ChoiceRecord) (n : ℕ) → n ≤ length rows → records_in rows 0 n ≡ take n rows
unfolding records_in
records_there rows zero h = refl
records_there [] (suc n) h = absurd (omega arith)
records_there (r ∷ rows) (suc n) h = ap (λ (rs : List ChoiceRecord). r ∷ rs) (records_behind r rows 0 n ∙ records_there rows n (omega arith))
