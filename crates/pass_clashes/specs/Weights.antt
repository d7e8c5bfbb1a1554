-- A table of weights of literals, by which the input clauses of each clause are counted.
use Rattle.std.specs.Prelude.{◌≡◌, true, false, ℕ, ◌+◌, ◌≤◌, ◌<◌, ◌^◌, ℤ, length, set}
use mathlib.Core.List.{List, [], ◌∷◌, Memᴰ}
use Rattle.definition.specs.Lists.{sum_of}
use Rattle.definition.specs.Literals.{Clause, Formula}
use Rattle.definition.specs.Events.{Event}
use Rattle.definition.specs.Reencoding.{resolved_into}
use Rattle.theory_clearing.specs.Weights.{Weighs}
use Rattle.literals.specs.Literal.{signed_of, index_of}
use Rattle.tables.specs.Sizes.{input_size}
use Rattle.tables.specs.Entries.{entry_of}

-- a table of weights counts the input clauses of each clause that stands: 1 and the weights of its literals
pub record Weighed (count : Clause → ℕ) (most : ℕ) (F : Formula) (w : List ℕ) : Type 0 where
  pub counts : (d : Clause) → Memᴰ d F → 0 < length d → sum_of (entry_of w) d + 1 ≡ count d
  pub few : (l : ℤ) → entry_of w l ≤ most

-- ---- one clash

-- x gets the weights of l and k, which then have none, and 1
abbrev pub given : List ℕ → ℤ → ℤ → ℤ → List ℕ
given w l k x =
    let t = set w (index_of l) 0 in
    let u = set t (index_of k) 0 in
    set u (index_of x) (entry_of w l + entry_of t k + entry_of u x + 1)

-- the weights when the clash of v is cleared: the resolvent's first literal gets those of v and -v, and 1
abbrev pub reweighed : List ℕ → Clause → ℕ → List ℕ
reweighed w [] v = w
reweighed w (x ∷ c) v = given w (signed_of false v) (signed_of true v) x

-- ---- all clashes

-- all weights, added up
abbrev pub weight : List ℕ → ℕ
weight w = sum_of (λ n. n) w

-- there is an entry for each literal, and room for 1 more with each clause
pub record Light (F : Formula) (w : List ℕ) : Type 0 where
  pub size : length w ≡ input_size
  pub small : weight w + length F < 2 ^ 31

-- the weights w of F become those of G in the course of the events: the counts stay right, and all weights together grow by no more than clauses go
pub record Reweighs (es : List Event) (F : Formula) (w : List ℕ) (G : Formula) (new : List ℕ) : Type 0 where
  pub counts : (count : Clause → ℕ) → Weighs count (entry_of w) F → Weighs (resolved_into count es) (entry_of new) G
  pub lighter : weight new + length G ≤ weight w + length F
  pub size : length new ≡ length w
