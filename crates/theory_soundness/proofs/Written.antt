-- Clauses that are written out: what holds of each literal, and that a literal stands in none.
use mathlib.Core.Path.{refl}
use mathlib.Core.Logic.{◌≢◌}
use mathlib.Core.List.Memᴰ.{head as here}
use mathlib.Core.List.Memᴰ.{tail as there}
use mathlib.Core.List.{List, [], ◌∷◌, ◌++◌, Memᴰ}
use lib.IntN.{ℤ}
use Rattle.definition.specs.Literals.{Clause, Formula}
use Rattle.theory_base.specs.Clauses.{Absent}

-- every element of a list
module _ {A : Type 0} where
  abbrev pub Each : (A → Type 0) → List A → Type 0
  Each P [] = Unit {0}
  Each P (x ∷ xs) = P x × Each P xs

  pub each : (P : A → Type 0) (xs : List A) → Each P xs → (x : A) → Memᴰ x xs → P x
  each P (y ∷ xs) h x (here e) = rw e h.0
  each P (y ∷ xs) h x (there i) = each P xs h.1 x i
  each P [] h x x4 = elim x4 [ ]

  pub of_each : (P : A → Type 0) (xs : List A) → ((x : A) → Memᴰ x xs → P x) → Each P xs
  of_each P [] h = tt
  of_each P (x ∷ xs) h = (h x (here refl), of_each P xs (λ y i. h y (there i)))

  pub each-++ : (P : A → Type 0) (xs ys : List A) → Each P xs → Each P ys → Each P (xs ++ ys)
  each-++ P [] ys f g = g
  each-++ P (x ∷ xs) ys f g = (f.0, each-++ P xs ys f.1 g)

-- every literal of every clause
abbrev pub Every : (ℤ → Type 0) → Formula → Type 0
Every P F = Each (Each P) F

pub every : (P : ℤ → Type 0) (F : Formula) → Every P F → (d : Clause) → Memᴰ d F → (x : ℤ) → Memᴰ x d → P x
every P F h d i = each P d (each (Each P) F h d i)

-- a literal stands in none of the clauses
abbrev pub InNone : ℤ → Formula → Type 0
InNone l F = Every (λ x. l ≢ x) F

pub not_in : (l : ℤ) (c : Clause) → Each (λ x. l ≢ x) c → Memᴰ l c → ⊥
not_in l c h i = each (λ x. l ≢ x) c h l i refl

pub in_none : (l : ℤ) (F : Formula) → InNone l F → Absent l F
in_none l F h d i m = every (λ x. l ≢ x) F h d i l m refl
