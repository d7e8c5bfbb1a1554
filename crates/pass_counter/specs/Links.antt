-- The counter clauses of the literal li.
use Rattle.std.specs.Prelude.{[], ◌∷◌, ℕ, ◌-◌, neg_ℤ}
use Rattle.definition.specs.Literals.{Formula}
use Rattle.definition.specs.Events.{Choice}
use Rattle.definition.specs.Counter.{lit, new}

-- stage 2
abbrev pub link_2 : Choice → ℕ → Formula
link_2 k i =
    (neg_ℤ (new k i) ∷ new k (i - 1) ∷ lit k i ∷ [])
    ∷ (new k i ∷ neg_ℤ (new k (i - 1)) ∷ [])
    ∷ (new k i ∷ neg_ℤ (lit k i) ∷ [])
    ∷ []

-- stage 3
abbrev pub link_3 : Choice → ℕ → Formula
link_3 k i = (neg_ℤ (lit k i) ∷ neg_ℤ (new k (i - 1)) ∷ []) ∷ []
