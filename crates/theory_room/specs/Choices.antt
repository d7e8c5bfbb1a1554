-- The choices of a run one after another: their new variables, events and what stands after them.
use Rattle.std.specs.Prelude.{List, [], ◌∷◌, ◌++◌, ℕ, ◌-◌, length}
use Rattle.definition.specs.Literals.{Clause, Formula}
use Rattle.definition.specs.Standing.{after}
use Rattle.definition.specs.Events.{Event, Choice, choice_of}
use Rattle.definition.specs.Clearing.{clear_clashes, clear_pure}
use Rattle.definition.specs.Reencoding.{lines, unclashed, cleared, choices_events, Settings, chosen}
use Rattle.definition.specs.Lists.{sum_of}
use Rattle.definition.specs.Counter.{below_new, last_new}
use Rattle.definition.specs.Reading.{Input}
use Rattle.definition.specs.Alignment.{arranged}

unfoldable pub clearing : Formula → List Event
clearing f = clear_clashes f ++ clear_pure (unclashed f)

-- the new variables of the choices
unfoldable pub new_variables : List Clause → ℕ
new_variables cs = sum_of (λ c. length c - 1) cs

-- a clause as a choice, with the step g, where n is the highest variable used
abbrev pub as_choice : ℕ → ℕ → (Clause → Clause) → Clause → Choice
as_choice g n order c = choice_of (order c) (below_new g n)

-- the highest variable used after the choices cs, where n was
unfoldable pub used_after : ℕ → (Clause → Clause) → ℕ → List Clause → ℕ
used_after g order n [] = n
used_after g order n (c ∷ cs) = used_after g order (last_new (as_choice g n order c)) cs

-- the order in which a run takes the literals of its choices
abbrev pub order_of : Settings → Input → Clause → Clause
order_of s i = arranged s.arrangement (cleared i.formula) (chosen s i)

-- the events of the first choices, and what stands after them
unfoldable pub events_of_first : Settings → Input → List Clause → List Event
events_of_first s i cs = choices_events s.form s.step (order_of s i) i.highest (cleared i.formula) cs

unfoldable pub standing_after_first : Settings → Input → List Clause → Formula
standing_after_first s i cs = after (cleared i.formula) (lines (events_of_first s i cs))

-- the choice that is taken then
abbrev pub next_choice : Settings → Input → List Clause → Clause → Choice
next_choice s i cs c = as_choice s.step (used_after s.step (order_of s i) i.highest cs) (order_of s i) c
