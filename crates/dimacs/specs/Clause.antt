-- "Each clause is read from the text that follows the one before it": the definition's reading, clause by clause.
use Rattle.std.specs.Prelude.{◌≡◌, refl, true, cond, Option as Optional, Some, None, Result, Ok, Err, List, [], ◌∷◌, ℕ, zero, suc, ◌+◌, ◌≤◌, eqb, ltb, ℤ, pos, negsuc, nat_abs, length, take, drop}
use Rattle.std.proofs.Math.Option.{Option, some, none}
use Rattle.std.proofs.lemmas.List.Edits.{sets}
use Rattle.definition.specs.Lists as Lists
use Rattle.definition.specs.Checked.{Checked, fault, value, ◌>>=◌, refuse_if}
use Rattle.definition.specs.Checked as Checked
use Rattle.definition.specs.Literals.{Clause, Formula, with_literal, opposed, literals_of}
use Rattle.definition.specs.Literals as Literals
use Rattle.definition.specs.Text.{Bytes, bytes, words, number}
use Rattle.definition.specs.Text as Text
use Rattle.definition.specs.Reading.{kept_of}
use Rattle.definition.specs.Calls.{numbers_of}
use Rattle.theory_base.specs.Clauses.{Proper}
use Rattle.refusals.specs.declared.Refusal.{Refusal}
use Rattle.refusals.specs.Numbers.{number as number_of}
use Rattle.tables.specs.Stamps.{AtMost, Marks}
use Rattle.dimacs.specs.Entries.{entry, entries}
use Rattle.dimacs.specs.declared.Gathered.{Gathered}
use Rattle.dimacs.specs.declared.ClauseRead.{ClauseRead}
use Rattle.dimacs.specs.declared.ClauseReader.{ClauseReader}

-- ---- a word: 3, the clause's end, 4, or a literal
abbrev pub number_item : ℕ → Option ℤ → Checked (Optional ℤ)
number_item v none = fault 3
number_item v (some l) = cond (eqb 0 (nat_abs l)) (value None) (cond (ltb v (nat_abs l)) (fault 4) (value (Some l)))

-- ---- the literals of a clause

-- each literal at its first place, and the words after the clause
pub record ClauseIsRead : Type 0 where
  pub clause : Clause
  pub after : List Bytes

abbrev pub finished : Clause → List Bytes → Checked ClauseIsRead
finished c ws = value (record { clause = c; after = ws })

-- the text ends after so many literals of a clause: 7, or 8 where the clause is missing
abbrev pub ended : ℕ → ℕ
ended zero = 8
ended (suc n) = 7

-- by what the next word says; more goes on with one literal more
abbrev pub clause_by : Clause → List Bytes → (Clause → Checked ClauseIsRead) → Checked (Optional ℤ) → Checked ClauseIsRead
clause_by here ws more (fault n) = fault n
clause_by here ws more (value None) = finished here ws
clause_by here ws more (value (Some l)) = more (with_literal l here)

-- the clause at the start of words, after the literals in here
unfoldable pub first_clause : ℕ → Clause → List Bytes → Checked ClauseIsRead
first_clause v here [] = fault (ended (length here))
first_clause v here (w ∷ ws) = clause_by here ws (λ h. first_clause v h ws) (number_item v (number w))

-- ---- the rest of a clause that is left out: 3, 4, 7, or the words after it

abbrev pub past_by : List Bytes → Checked (List Bytes) → Checked (Optional ℤ) → Checked (List Bytes)
past_by ws more (fault n) = fault n
past_by ws more (value None) = value ws
past_by ws more (value (Some l)) = more

unfoldable pub past_clause : ℕ → List Bytes → Checked (List Bytes)
past_clause v [] = fault 7
past_clause v (w ∷ ws) = past_by ws (past_clause v ws) (number_item v (number w))

-- the words after it are those of the text after the next place
abbrev pub SkipPost : Bytes → Checked (List Bytes) → Result ℕ Refusal → Type 0
SkipPost t o (Err e) = o ≡ fault (number_of e)
SkipPost t o (Ok next) = (o ≡ value (words (drop next t))) × (next ≤ length t)

-- ---- a clause held as an entry: the first element is the header's place

-- the literals held so far, and their marks
pub record Holding (old : List ℤ) (r : ClauseReader) (number : ℕ) (here : Clause) (count : ℕ) : Type 0 where
  pub counted : count ≡ length here
  pub stored : r.held ≡ sets old 1 here
  pub proper : Proper here
  pub marks : Marks r.seen number here

-- with a literal more, the literals are held, or one is opposed
abbrev pub HoldPost : List ℤ → ClauseReader → ℕ → Clause → ℤ → Optional ℕ → Type 0
HoldPost old r number here l (Some count) = Holding old r number (with_literal l here) count
HoldPost old r number here l None = (opposed (with_literal l here) ≡ true) × AtMost r.seen number

-- a proper clause that is held
pub record Kept (t : Bytes) (o : Checked ClauseIsRead) (r : ClauseReader) (number v next count : ℕ) : Type 0 where
  pub clause : Clause
  pub is : o ≡ finished clause (words (drop next t))
  pub size : count ≡ length clause
  pub proper : Proper clause
  pub few : count ≤ v
  pub within : next ≤ length t
  pub entered : take (count + 1) r.held ≡ entry clause
  pub below : AtMost r.seen number

pub record LeftOut (t : Bytes) (o : Checked ClauseIsRead) (r : ClauseReader) (number next : ℕ) : Type 0 where
  pub clause : Clause
  pub is : o ≡ finished clause (words (drop next t))
  pub tautology : opposed clause ≡ true
  pub within : next ≤ length t
  pub below : AtMost r.seen number

-- by how many literals are held, unless it is left out
abbrev pub KeptPost : Bytes → Checked ClauseIsRead → ClauseReader → ℕ → ℕ → ℕ → Optional ℕ → Type 0
KeptPost t o r number v next (Some count) = Kept t o r number v next count
KeptPost t o r number v next None = LeftOut t o r number next

abbrev pub GatherPost : Bytes → Checked ClauseIsRead → ClauseReader → ℕ → ℕ → Result Gathered Refusal → Type 0
GatherPost t o r number v (Err e) = o ≡ fault (number_of e)
GatherPost t o r number v (Ok g) = KeptPost t o r number v g.next g.kept

-- ---- what is kept of a clause

-- and the words after the clause
pub record KeptRead : Type 0 where
  pub kept : Formula
  pub after : List Bytes

-- 9 where it has more literals than there is room for
abbrev pub kept_within : ℕ → ClauseIsRead → Checked KeptRead
kept_within room r =
    refuse_if (ltb room (literals_of (kept_of r.clause))) 9
    (value (record { kept = kept_of r.clause; after = r.after }))

unfoldable pub first_kept : ℕ → ℕ → Clause → List Bytes → Checked KeptRead
first_kept v room here ws = first_clause v here ws >>= kept_within room

-- it is stored; the words after it are those of the text after the next place
pub record Read (t : Bytes) (o : Checked KeptRead) (room : ℕ) (old new : List ℤ) (r : ClauseReader) (number : ℕ) (read : ClauseRead) : Type 0 where
  pub kept : Formula
  pub is : o ≡ value (record { kept = kept; after = words (drop read.next t) })
  pub one : length kept ≤ 1
  pub literals : read.literals ≡ literals_of kept
  pub numbers : read.filled ≡ numbers_of kept
  pub within : read.next ≤ length t
  pub few : read.literals ≤ room
  pub stored : new ≡ sets old 0 (entries kept)
  pub below : AtMost r.seen number

abbrev pub ClausePost : Bytes → Checked KeptRead → ℕ → List ℤ → List ℤ → ClauseReader → ℕ → Result ClauseRead Refusal → Type 0
ClausePost t o room old new r number (Err e) = o ≡ fault (number_of e)
ClausePost t o room old new r number (Ok read) = Read t o room old new r number read

examples :
    (first_clause 3 [] (words (bytes "1 -2 1 0 3 0")) ≡ finished (pos 1 ∷ negsuc 1 ∷ []) (words (bytes "3 0")))
    × (past_clause 3 (words (bytes "1 2 0 3 0")) ≡ value (words (bytes "3 0")))
    × (first_kept 1 0 [] (words (bytes "1 -1 0")) ≡ value (record { kept = []; after = [] }))
    × (first_kept 3 1 [] (words (bytes "1 2 0")) ≡ fault 9) × (first_clause 3 [] (words (bytes "1")) ≡ fault 7)
unfolding first_clause past_clause first_kept kept_of Checked.computing Text.computing Lists.computing Literals.computing
examples = (refl, refl, refl, refl, refl)
