-- The line of an assignment, variable by variable.
use Rattle.std.specs.Prelude.{◌≡◌, refl, cond, ◌++◌, ℕ, eqb, pos, neg_ℤ}
use Rattle.definition.specs.Lists.{for_from}
use Rattle.definition.specs.Text.{Bytes, bytes, literal_text}
use Rattle.definition.specs.Text as Text
use Rattle.definition.specs.Assignments.{Assignment}

-- a blank and the true literal of a variable
unfoldable pub value_text : Assignment → ℕ → Bytes
value_text a i = bytes " " ++ literal_text (cond (a i) (pos i) (neg_ℤ (pos i)))

-- those of the variables 1 to n
abbrev pub values_text : Assignment → ℕ → Bytes
values_text a n = for_from 1 n (value_text a)

example : values_text (λ v. eqb v 2) 3 ≡ bytes " -1 2 -3"
unfolding value_text for_from Text.computing
example = refl
