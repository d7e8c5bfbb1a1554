-- The pairs of a choice: their slots in a table of counts, the pairs taken out of a store and counted, and their deletions by the counts.
use Rattle.std.specs.Prelude.{◌≡◌, Bool, ◌&&◌, cond, List, [], ◌∷◌, ℕ, suc, ◌+◌, ◌-◌, ◌*◌, ◌≤◌, ◌<◌, eqb, ltb, leb, ℤ, pos, length, get_or, replicate, Option, Some, None}
use Rattle.definition.specs.Lists.{count, those, for_from}
use Rattle.definition.specs.Literals.{Clause, Formula}
use Rattle.definition.specs.Standing.{Line, deletion}
use Rattle.literals.specs.Literal.{negation}
use Rattle.tables.specs.Entries.{most, counted_at}
use Rattle.tables.specs.Places.{place_in}
use Rattle.store.specs.Store.{Formed, stored, deleted_at, clause_at, marked}
use Rattle.index.specs.Index.{SameEntries}
use Rattle.index.specs.Reading.{EntryWith}

-- the literal at a place, from 0 on
abbrev pub literal_at : Clause → ℕ → ℤ
literal_at l i = get_or l i (pos 0)

-- ---- slots

-- how many there are, one for each two places; also the slot of a clause that is no pair
abbrev pub slots : ℕ
slots = 4096

abbrev pub ordered_slot : ℕ → ℕ → ℕ
ordered_slot a b = cond (ltb 0 a && (ltb a b && leb b 64)) ((a - 1) * 64 + (b - 1)) slots

abbrev pub slot : ℕ → ℕ → ℕ
slot a b = cond (ltb a b) (ordered_slot a b) (ordered_slot b a)

-- by the table of the choice's places
abbrev pub slot_of : List ℕ → Clause → ℕ
slot_of t d = cond (eqb (length d) 2) (slot (place_in t (get_or d 0 (pos 0))) (place_in t (get_or d 1 (pos 0)))) slots

-- the same as an answer: none past all slots
abbrev pub as_slot : ℕ → Option ℕ
as_slot n = cond (ltb n slots) (Some n) None

abbrev pub slot_at : List ℕ → List ℤ → ℕ → ℕ
slot_at t s at = cond (deleted_at s at) slots (slot_of t (clause_at s at))

-- ---- the pairs taken out of a store, and counted

-- the clause at a place is deleted and counted if it is a pair
pub record PairStep (t : List ℕ) (s : List ℤ) (at : ℕ) (counts : List ℕ) (new : List ℤ) (new_counts : List ℕ) : Type 0 where
  pub store : new ≡ cond (ltb (slot_at t s at) slots) (marked s at) s
  pub counted : new_counts ≡ cond (ltb (slot_at t s at) slots) (counted_at counts (slot_at t s at)) counts

abbrev pub no_pair : List ℕ → Clause → Bool
no_pair t d = leb slots (slot_of t d)

abbrev pub in_slot : List ℕ → ℕ → Clause → Bool
in_slot t n d = eqb (slot_of t d) n

-- no clause of F can make a count too large
pub record Countable (t : List ℕ) (F : Formula) (counts : List ℕ) : Type 0 where
  pub size : length counts ≡ slots
  pub few : (n : ℕ) → n < slots → get_or counts n 0 + count (in_slot t n) F ≤ most

-- some pairs are deleted and counted; where there was none, there is none
pub record PairsLess (t : List ℕ) (s : List ℤ) (counts : List ℕ) (new : List ℤ) (new_counts : List ℕ) : Type 0 where
  pub entries : SameEntries s new
  pub size : length new_counts ≡ length counts
  pub others : those (no_pair t) (stored new) ≡ those (no_pair t) (stored s)
  pub counted : (n : ℕ) → n < slots → get_or new_counts n 0 + count (in_slot t n) (stored new) ≡ get_or counts n 0 + count (in_slot t n) (stored s)
  pub none : (l : ℤ) (at : ℕ) → EntryWith l s at → slots ≤ slot_at t s at → slots ≤ slot_at t new at

-- no pair that stands holds the literal
abbrev pub NoPairWith : ℤ → List ℕ → List ℤ → Type 0
NoPairWith l t s = (at : ℕ) → EntryWith l s at → slots ≤ slot_at t s at

-- of F the clauses that are no pairs are left, and the others are counted
pub record PairsTaken (t : List ℕ) (F : Formula) (s : List ℤ) (counts : List ℕ) : Type 0 where
  pub formed : Formed s
  pub stands : stored s ≡ those (no_pair t) F
  pub counted : (n : ℕ) → n < slots → get_or counts n 0 ≡ count (in_slot t n) F

-- a table has counts only in the slots of a choice of k literals
pub record PairCounts (counts : List ℕ) (k : ℕ) : Type 0 where
  pub size : length counts ≡ slots
  pub none : (n : ℕ) → k * 64 ≤ n → get_or counts n 0 ≡ 0

-- ---- the deletions of pairs, each as often as it is counted

abbrev pub pair_clause : Clause → ℕ → ℕ → Clause
pair_clause l i j = negation (literal_at l i) ∷ negation (literal_at l j) ∷ []

abbrev pub cell_lines : List ℕ → Clause → ℕ → ℕ → List Line
cell_lines counts l i j = replicate (get_or counts (i * 64 + j) 0) (deletion (pair_clause l i j))

abbrev pub row_lines : List ℕ → Clause → ℕ → List Line
row_lines counts l i = for_from (suc i) (length l - suc i) (cell_lines counts l i)

abbrev pub pair_lines : List ℕ → Clause → List Line
pair_lines counts l = for_from 0 (length l) (row_lines counts l)
