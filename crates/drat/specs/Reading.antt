-- What the readers of kept lines answer and store, beside the definition's outcome.
use Rattle.std.specs.Prelude.{◌≡◌, refl, Bool, ◌||◌, ◌==◌, cond, List, ℕ, ◌+◌, ◌≤◌, eqb, ℤ, negsuc, nat_abs, length, take, drop, slice_index, position, Option, Some, None, option_map, Result, Ok, Err}
use Rattle.std.proofs.lemmas.List.Edits.{sets}
use Rattle.definition.specs.Lists as Lists
use Rattle.definition.specs.Checked.{Checked, fault, value}
use Rattle.definition.specs.Literals.{Clause, highest}
use Rattle.definition.specs.Text.{Bytes, bytes, same_bytes, number}
use Rattle.definition.specs.Text as Text
use Rattle.definition.specs.Standing.{Line, literals, highest_in}
use Rattle.definition.specs.LogReading.{numbers_in}
use Rattle.text.specs.Numbers.{number_class}
use Rattle.text.specs.declared.NumberError.{NumberError}
use Rattle.refusals.specs.declared.Refusal.{Refusal}
use Rattle.refusals.specs.Numbers.{number as refusal_number}
use Rattle.drat.specs.declared.LineWord.{LineWord}
use Rattle.drat.specs.declared.LineWord.TheVariants as Word
use Rattle.drat.specs.declared.LineRead.{LineRead}
use Rattle.drat.specs.declared.KeptLines.{KeptLines}
use Rattle.drat.specs.Loaded.{closed, line_entry, line_entries}

-- ---- a word

-- what ends a word of a line
abbrev pub stops : ℕ → Bool
stops b = b == 32 || b == 10

-- a word with a blank after it: a literal of a variable up to 70,000
abbrev pub literal_said : Result ℤ NumberError → Option ℤ
literal_said (Ok l) = cond (eqb 0 (nat_abs l)) None (Some l)
literal_said (Err e) = None

-- a word that a byte ends: before a blank a literal, before an LF `0`
abbrev pub word_said : ℕ → Bytes → ℕ → Option LineWord
word_said next w b =
    cond (b == 32) (option_map (λ l. Word.Literal next l) (literal_said (number_class (number w))))
    (cond (same_bytes w (bytes "0")) (Some (Word.End next)) None)

-- a word of so many bytes at a place of a text
abbrev pub word_of : ℕ → Bytes → Option ℕ → Option LineWord
word_of at t None = None
word_of at t (Some n) = word_said (at + n + 1) (take n (drop at t)) (slice_index t (at + n))

-- the word at a place of a text
unfoldable pub line_word : Bytes → ℕ → Option LineWord
line_word t at = word_of at t (position stops (drop at t))

-- ---- a clause or a line: read up to a place, and its entry stored from a place on

pub record StoredRead {A : Type 0} (clause : A → Clause) (entry : A → List ℤ) (o : Checked (ℕ × A)) (r : LineRead) (old : List ℤ) (to : ℕ) (new : List ℤ) : Type 0 where
  pub s : A
  pub read : o ≡ value (r.next, s)
  pub size : r.count ≡ length (clause s)
  pub high : r.highest ≡ highest (clause s)
  pub room : r.count + 2 ≤ r.next
  pub stored : new ≡ sets old to (entry s)

-- what is read and stored, or that the line is refused
abbrev pub Reads : {A : Type 0} → (A → Clause) → (A → List ℤ) → Checked (ℕ × A) → Option LineRead → List ℤ → ℕ → List ℤ → Type 0
Reads clause entry o (Some r) old to new = StoredRead clause entry o r old to new
Reads clause entry o None old to new = o ≡ fault 31

abbrev pub ClauseReads : Checked (ℕ × Clause) → Option LineRead → List ℤ → ℕ → List ℤ → Type 0
ClauseReads o r old to new = Reads (λ c. c) closed o r old to new

abbrev pub LineReads : Checked (ℕ × Line) → Option LineRead → List ℤ → ℕ → List ℤ → Type 0
LineReads o r old to new = Reads literals line_entry o r old to new

-- ---- a log: G, the highest variable and how many elements the lines' entries fill, which are stored from a place on

pub record Kept (o : Checked (List Line)) (k : KeptLines) (old : List ℤ) (to : ℕ) (new : List ℤ) : Type 0 where
  pub ss : List Line
  pub read : o ≡ value ss
  pub sum : k.numbers ≡ numbers_in ss
  pub high : k.highest ≡ highest_in ss
  pub size : k.filled ≡ length (line_entries ss)
  pub stored : new ≡ sets old to (line_entries ss)

abbrev pub LogReads : Checked (List Line) → Result KeptLines Refusal → List ℤ → ℕ → List ℤ → Type 0
LogReads o (Ok k) old to new = Kept o k old to new
LogReads o (Err e) old to new = o ≡ fault (refusal_number e)

examples : (line_word (bytes "d -12 0\n") 2 ≡ Some (Word.Literal 6 (negsuc 11))) × (line_word (bytes "d -12 0\n") 6 ≡ Some (Word.End 8)) × (line_word (bytes "1  0\n") 2 ≡ None)
unfolding line_word Text.computing Lists.computing
examples = (refl, refl, refl)
