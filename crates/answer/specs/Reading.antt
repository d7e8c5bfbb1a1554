-- How far an answer is read, beside the definition's outcome so far; the literals named stand in the table.
use Rattle.std.specs.Prelude.{◌≡◌, refl, true, false, not, cond, ◌||◌, [], ◌∷◌, ◌++◌, ℕ, eqb, ltb, ℤ, pos, negsuc, neg_ℤ, nat_abs, Result, Ok, Err}
use Rattle.definition.specs.Checked.{Checked, fault, value, refuse_if}
use Rattle.definition.specs.Text.{Bytes}
use Rattle.definition.specs.Lists as Lists
use Rattle.definition.specs.Literals.{Clause, holds}
use Rattle.definition.specs.Literals as Literals
use Rattle.definition.specs.Answer.{Answer}
use Rattle.refusals.specs.declared.Refusal.{Refusal}
use Rattle.refusals.specs.Numbers.{number}
use Rattle.answer.specs.declared.State.{State}
use Rattle.answer.specs.declared.State.TheVariants.{Waiting, Open, Closed}
use Rattle.answer.specs.Table.{Table}

-- before the `s` line, after it, after the closing `0`
abbrev pub waiting_at : Answer
waiting_at = record { begun = false; closed = false; named = [] }

abbrev pub open_at : Clause → Answer
open_at c = record { begun = true; closed = false; named = c }

abbrev pub closed_at : Clause → Answer
closed_at c = record { begun = true; closed = true; named = c }

-- a number of a `v ` line before the closing `0`, with the literals of c named
unfoldable pub read_literal : ℕ → Clause → ℤ → Checked Answer
read_literal x c l =
    cond (eqb 0 (nat_abs l)) (value (closed_at c))
    (refuse_if (ltb x (nat_abs l)) 42
    (refuse_if (holds l c || holds (neg_ℤ l) c) 43
    (value (open_at (c ++ (l ∷ []))))))

-- the definition's answer so far, by the state and the table
abbrev pub Stands : State → Bytes → Answer → Type 0
Stands Waiting marks a = (a ≡ waiting_at) × Table [] marks
Stands Open marks a = (c : Clause) × (a ≡ open_at c) × Table c marks
Stands Closed marks a = (c : Clause) × (a ≡ closed_at c) × Table c marks

-- its outcome so far
abbrev pub Reached : Result State Refusal → Bytes → Checked Answer → Type 0
Reached (Ok p) marks o = (a : Answer) × (o ≡ value a) × Stands p marks a
Reached (Err e) marks o = o ≡ fault (number e)

-- a step of the definition leads from one state and table to another
abbrev pub Steps : (Answer → Checked Answer) → State → Bytes → Result State Refusal → Bytes → Type 0
Steps step p marks q after = (a : Answer) → Stands p marks a → Reached q after (step a)

-- the same for a step from an answer that is open, whatever is named
abbrev pub StepsOpen : (Clause → Checked Answer) → Bytes → Result State Refusal → Bytes → Type 0
StepsOpen step marks q after = (c : Clause) → Table c marks → Reached q after (step c)

-- the outcome of the whole: a fault, or the literals that the table names
abbrev pub ReadAs : Checked Clause → Result (Unit {0}) Refusal → Bytes → Type 0
ReadAs o (Ok u) marks = (c : Clause) × (o ≡ value c) × Table c marks
ReadAs o (Err e) marks = o ≡ fault (number e)

-- the definition's test at the text's end
unfoldable pub closing : Answer → Checked Clause
closing a = refuse_if (not a.closed) 41 (value a.named)

abbrev pub Ends : State → Result (Unit {0}) Refusal → Type 0
Ends p r = (marks : Bytes) (a : Answer) → Stands p marks a → ReadAs (closing a) r marks

examples : (read_literal 2 (pos 1 ∷ []) (negsuc 0) ≡ fault 43) × (read_literal 2 (pos 3 ∷ []) (pos 3) ≡ fault 42) × (read_literal 2 [] (pos 0) ≡ value (closed_at []))
unfolding read_literal refuse_if Literals.computing Lists.computing
examples = (refl, refl, refl)
