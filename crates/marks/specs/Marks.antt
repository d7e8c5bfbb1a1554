-- Marks of variables, thirty-two to a word: the mark of v is the binary digit v % 32 of the word v / 32. Past the last word nothing is marked.
use Rattle.std.specs.Prelude.{◌≡◌, refl, Bool, true, false, not, cond, ◌&&◌, ◌||◌, List, [], ◌∷◌, ℕ, ◌-◌, ◌*◌, ◌/◌, ◌%◌, ◌^◌, ◌≤◌, ◌<◌, eqb, length, get_or, Option, Some, None}
use Rattle.std.proofs.Math.Option.{Option as Search, some, none}
use Rattle.definition.specs.Lists.{first_from}

-- the words that hold the marks of an input's variables
abbrev pub input_words : ℕ
input_words = 251

-- the binary digit j of a number
abbrev pub digit : ℕ → ℕ → ℕ
digit j n = n / 2 ^ j % 2

-- v is marked
abbrev pub marked : List ℕ → ℕ → Bool
marked m v = eqb (digit (v % 32) (get_or m (v / 32) 0)) 1

-- ---- one mark set, one cleared; the others stay

abbrev pub WithMark : List ℕ → ℕ → List ℕ → Type 0
WithMark m v new = (n : ℕ) → marked new n ≡ (eqb v n || marked m n)

abbrev pub WithoutMark : List ℕ → ℕ → List ℕ → Type 0
WithoutMark m v new = (n : ℕ) → marked new n ≡ (not (eqb v n) && marked m n)

-- ---- the lowest marked variable

-- what is found, as an answer
abbrev pub answer_of : Search ℕ → Option ℕ
answer_of (some v) = Some v
answer_of none = None

-- how many variables the words have digits for, from a variable on
abbrev pub left_from : List ℕ → ℕ → ℕ
left_from m from = 32 * length m - from

-- the first of them that is marked
unfoldable pub lowest_from : List ℕ → ℕ → Option ℕ
lowest_from m from = answer_of (first_from from (left_from m from) (λ v. cond (marked m v) (some v) none))

-- The answer is the lowest marked variable from a variable on, and none exactly when none of them is marked.
pub record LowestMarked (m : List ℕ) (from : ℕ) : Type 0 where
  pub found : (v : ℕ) → lowest_from m from ≡ Some v → (from ≤ v) × (marked m v ≡ true) × ((k : ℕ) → from ≤ k → k < v → marked m k ≡ false)
  pub finds : (v : ℕ) → from ≤ v → marked m v ≡ true → ((k : ℕ) → from ≤ k → k < v → marked m k ≡ false) → lowest_from m from ≡ Some v
  pub none_marked : lowest_from m from ≡ None → (k : ℕ) → from ≤ k → marked m k ≡ false
  pub none_found : ((k : ℕ) → from ≤ k → marked m k ≡ false) → lowest_from m from ≡ None

-- the words 0, 2 ^ 31 + 2 ^ 5, 1: the marks of 37, 63 and 64
examples : (lowest_from (0 ∷ 2147483680 ∷ 1 ∷ []) 0 ≡ Some 37) × (lowest_from (0 ∷ 2147483680 ∷ 1 ∷ []) 38 ≡ Some 63) × (lowest_from (0 ∷ 2147483680 ∷ 1 ∷ []) 64 ≡ Some 64) × (lowest_from (0 ∷ 2147483680 ∷ 1 ∷ []) 65 ≡ None)
unfolding lowest_from Rattle.definition.specs.Lists.computing
examples = (refl, refl, refl, refl)
