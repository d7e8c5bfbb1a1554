-- Runs of bytes that pass a test.
use Rattle.std.specs.Prelude.{◌≡◌, refl, Bool, true, false, not, cond, [], ◌∷◌, ℕ, suc, ◌+◌, drop}
use Rattle.definition.specs.Text.{Bytes, bytes, blank}
use Rattle.definition.specs.Text as Text

-- a byte of a run of separators, or of other bytes
abbrev pub in_run : (ℕ → Bool) → Bool → ℕ → Bool
in_run separates true = separates
in_run separates false = λ b. not (separates b)

-- how many bytes at the start pass a test
unfoldable pub leading : (ℕ → Bool) → Bytes → ℕ
leading p [] = 0
leading p (b ∷ t) = cond (p b) (suc (leading p t)) 0

-- how many bytes stand before the first separator
abbrev pub letters : (ℕ → Bool) → Bytes → ℕ
letters separates t = leading (in_run separates false) t

-- the place past a run that starts at a place
abbrev pub run_end : (ℕ → Bool) → Bool → Bytes → ℕ → ℕ
run_end separates parting t at = at + leading (in_run separates parting) (drop at t)

example : (run_end blank false (bytes "ab  c") 0 ≡ 2) × (run_end blank true (bytes "ab  c") 2 ≡ 4)
unfolding leading Text.computing
example = (refl, refl)
