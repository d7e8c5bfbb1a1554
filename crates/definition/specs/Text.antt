-- "Text and literals": bytes, words, lines and numbers.
use Rattle.std.specs.Prelude.{Bool, true, false, not, ◌&&◌, ◌||◌, cond, List, [], ◌∷◌, ◌++◌, ℕ, zero, suc, ◌+◌, ◌-◌, ◌*◌, ◌/◌, ◌%◌, eqb, leb, ltb, ℤ, pos, negsuc}
use Rattle.std.proofs.Math.Option.{Option, some, none}
use Prim.Native.Char.{Char, code}
use Prim.Native.String.{String, [] as []ˢ, ◌∷◌ as ◌∷ˢ◌}
use Rattle.definition.specs.Lists.{all}

-- a byte's value in a contract is a number
abbrev pub Bytes : Type 0
Bytes = List ℕ

-- a text in quotes as bytes
unfoldable pub bytes : String → Bytes
bytes []ˢ = []
bytes (c ∷ˢ s) = code c ∷ bytes s

-- is the byte this character?
unfoldable pub is : Char → ℕ → Bool
is c b = eqb b (code c)

-- what splits words: space, tab, CR or LF
unfoldable pub blank : ℕ → Bool
blank b = is " " b || is "\t" b || is "\r" b || is "\n" b

-- a text as its parts between separators; runs of separators part like one, so no part is empty
unfoldable pub add_part : Bytes → List Bytes → List Bytes
add_part [] ws = ws
add_part (b ∷ w) ws = (b ∷ w) ∷ ws

unfoldable pub parts : (ℕ → Bool) → Bytes → Bytes × List Bytes
parts separates [] = ([], [])
parts separates (b ∷ t) =
    let (w, ws) = parts separates t in
    cond (separates b) ([], add_part w ws) (b ∷ w, ws)

unfoldable pub words_by : (ℕ → Bool) → Bytes → List Bytes
words_by separates t = let (w, ws) = parts separates t in add_part w ws

unfoldable pub words : Bytes → List Bytes
words t = words_by blank t

-- the lines of a text, each without its LF; the last may have none
pub record TextLine : Type 0 where
  pub text : Bytes
  pub ended : Bool

unfoldable pub longer : ℕ → List TextLine → List TextLine
longer b [] = record { text = b ∷ []; ended = false } ∷ []
longer b (l ∷ ls) = record { text = b ∷ l.text; ended = l.ended } ∷ ls

unfoldable pub text_lines : Bytes → List TextLine
text_lines [] = []
text_lines (b ∷ t) = cond (is "\n" b) (record { text = []; ended = true } ∷ text_lines t) (longer b (text_lines t))

unfoldable pub without_last_cr : Bytes → Bytes
without_last_cr [] = []
without_last_cr (b ∷ []) = cond (is "\r" b) [] (b ∷ [])
without_last_cr (b ∷ c ∷ t) = b ∷ without_last_cr (c ∷ t)

-- a line that LF, CR LF or the text's end may end, without its end
unfoldable pub line_text : TextLine → Bytes
line_text l = cond l.ended (without_last_cr l.text) l.text

-- what follows the lines at the start that begin with `c`; the test says whether such a line has begun
unfoldable pub past_comments : Bool → Bytes → Bytes
past_comments commented [] = []
past_comments true (b ∷ t) = past_comments (not (is "\n" b)) t
past_comments false (b ∷ t) = cond (is "c" b) (past_comments true t) (b ∷ t)

unfoldable pub same_bytes : Bytes → Bytes → Bool
same_bytes [] [] = true
same_bytes [] (c ∷ u) = false
same_bytes (b ∷ t) [] = false
same_bytes (b ∷ t) (c ∷ u) = eqb b c && same_bytes t u

-- the parts between single blanks: these may be empty
unfoldable pub fields_from : Bytes → Bytes × List Bytes
fields_from [] = ([], [])
fields_from (b ∷ t) =
    let (w, ws) = fields_from t in
    cond (is " " b) ([], w ∷ ws) (b ∷ w, ws)

unfoldable pub fields : Bytes → List Bytes
fields t = let (w, ws) = fields_from t in w ∷ ws

unfoldable pub digit : ℕ → Bool
digit b = leb (code "0") b && leb b (code "9")

unfoldable pub digit_value : ℕ → ℕ
digit_value b = b - code "0"

-- the value of digits, the first one most significant; n is the value of those before
unfoldable pub value_from : ℕ → Bytes → ℕ
value_from n [] = n
value_from n (b ∷ t) = value_from (n * 10 + digit_value b) t

-- `0`, or digits beginning with 1 to 9
unfoldable pub natural : Bytes → Option ℕ
natural [] = none
natural (b ∷ []) = cond (digit b) (some (digit_value b)) none
natural (b ∷ c ∷ t) = cond (digit b && not (is "0" b) && all digit (c ∷ t)) (some (value_from 0 (b ∷ c ∷ t))) none

-- a natural number above 0 with `-` before it
unfoldable pub negated : Option ℕ → Option ℤ
negated none = none
negated (some zero) = none
negated (some (suc n)) = some (negsuc n)

unfoldable pub not_negated : Option ℕ → Option ℤ
not_negated none = none
not_negated (some n) = some (pos n)

-- a number: `0`, or an optional `-` and digits beginning with 1 to 9
unfoldable pub number : Bytes → Option ℤ
number [] = none
number (b ∷ t) = cond (is "-" b) (negated (natural t)) (not_negated (natural (b ∷ t)))

-- the decimal digits of n; `more` gives those of what stands before the last
unfoldable pub digits_next : (ℕ → Bytes) → ℕ → Bool → Bytes
digits_next more n true = (code "0" + n) ∷ []
digits_next more n false = more (n / 10) ++ ((code "0" + n % 10) ∷ [])

-- at most so many digits
unfoldable pub digits_up_to : ℕ → ℕ → Bytes
digits_up_to zero n = []
digits_up_to (suc d) n = digits_next (digits_up_to d) n (ltb n 10)

unfoldable pub digits : ℕ → Bytes
digits n = digits_up_to (suc n) n

unfoldable pub literal_text : ℤ → Bytes
literal_text (pos n) = digits n
literal_text (negsuc n) = code "-" ∷ digits (suc n)

-- all of this file, for a proof that computes: `unfolding computing` opens every name of the next line
unfoldable pub computing : Unit {0}
unfolding bytes is blank add_part parts words_by words longer text_lines without_last_cr line_text past_comments same_bytes fields_from fields digit digit_value value_from natural negated not_negated number digits_next digits_up_to digits literal_text
computing = tt
