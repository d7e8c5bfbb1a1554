-- What happens in a run, one event after another. Each event writes some log lines (`lines_of` in Reencoding).
use Rattle.std.specs.Prelude.{List, ℕ, ℤ}
use Rattle.definition.specs.Literals.{Clause}

-- "Clearing clashes": variable v stands in one ULC, A, and -v in another, B
pub record Clash : Type 0 where
  pub v : ℤ
  pub one : Clause
  pub other : Clause

-- "Counter form": literals taken as l1..lk; the new variables s1..s(k-1) are the numbers after `below`
pub record Choice : Type 0 where
  pub literals : Clause
  pub below : ℕ

-- M-118: what is written down of a choice: its first new variable, its length, and how many input clauses were resolved into it
pub record TableRecord : Type 0 where
  pub first : ℕ
  pub length : ℕ
  pub clauses : ℕ

abbrev pub choice_of : Clause → ℕ → Choice
choice_of l n = record { literals = l; below = n }

pub data Event : Type 0 where
  -- a clash is cleared
  clash_cleared : Clash → Event
  -- a ULC is deleted for its pure literal
  pure_deleted : ℤ → Clause → Event
  -- a standing clause is taken as a choice: the copies of its pairs that stand then
  choice_taken : Clause → Choice → List Clause → Event
  -- "Order form": a clause with negated choice literals is replaced
  clause_replaced : Clause → Clause → Event
  -- "Order form": the clauses with a choice's literals are deleted
  literals_deleted : Choice → Event
