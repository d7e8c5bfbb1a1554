-- The first word at a place of a text or after it, by the test that parts words.
use Rattle.std.specs.Prelude.{◌≡◌, refl, Bool, true, false, cond, ℕ, ◌<◌, ltb, Option, Some, None}
use Rattle.definition.specs.Text.{Bytes, bytes, blank}
use Rattle.definition.specs.Text as Text
use Rattle.theory_text.specs.Runs.{leading, run_end}
use Rattle.text.specs.declared.Word.{Word}

-- a test of bytes computes p
abbrev pub Tests : {F : Type 0} → (F → ℕ → Bool → Type 0) → F → (ℕ → Bool) → Type 0
Tests says f p = (b : ℕ) (r : Bool) → b < 256 → says f b r → r ≡ p b

abbrev pub word_between : ℕ → ℕ → Option Word
word_between s e = cond (ltb s e) (Some (record { start = s; end = e })) None

unfoldable pub word_at : (ℕ → Bool) → Bytes → ℕ → Option Word
word_at separates t at =
    let s = run_end separates true t at in
    word_between s (run_end separates false t s)

examples : (word_at blank (bytes "ab  c\n ") 0 ≡ Some (record { start = 0; end = 2 })) × (word_at blank (bytes "ab  c\n ") 2 ≡ Some (record { start = 4; end = 5 })) × (word_at blank (bytes "ab  c\n ") 5 ≡ None)
unfolding word_at leading Text.computing
examples = (refl, refl, refl)
