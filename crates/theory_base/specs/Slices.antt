-- Parts of a list.
use Rattle.std.specs.Prelude.{List, ℕ, ◌-◌, take, drop}

-- the elements from place a up to place b
abbrev pub between : {A : Type 0} → ℕ → ℕ → List A → List A
between a b s = take (b - a) (drop a s)
