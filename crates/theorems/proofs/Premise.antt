-- The premise of the exactly-one half can be met: in session F, in order form, the first clause goes into a choice.
use mathlib.Core.List.{[], ◌∷◌}
use lib.IntN.{pos, negsuc}
use Rattle.definition.specs.Lists
use Rattle.definition.specs.Checked
use Rattle.definition.specs.Literals
use Rattle.definition.specs.Literals.{Clause}
use Rattle.definition.specs.Text
use Rattle.definition.specs.Reading
use Rattle.definition.specs.Reading.{Input, as_read}
use Rattle.definition.specs.Standing
use Rattle.definition.specs.Clearing
use Rattle.definition.specs.Counter
use Rattle.definition.specs.Order
use Rattle.definition.specs.Alignment
use Rattle.definition.specs.Alignment.{as_listed}
use Rattle.definition.specs.Events.{Choice, choice_of}
use Rattle.definition.specs.Reencoding
use Rattle.definition.specs.Reencoding.{Settings, order_form, events, GoesInto, taken}

first_clause : Clause
first_clause = pos 1 ∷ pos 2 ∷ pos 3 ∷ pos 4 ∷ pos 5 ∷ []

input_f : Input
unfolding first_clause
input_f = as_read 6 7 (first_clause ∷ (negsuc 0 ∷ negsuc 1 ∷ []) ∷ (negsuc 0 ∷ pos 6 ∷ []) ∷ (negsuc 1 ∷ pos 6 ∷ []) ∷ (negsuc 2 ∷ pos 6 ∷ []) ∷ (negsuc 3 ∷ negsuc 5 ∷ []) ∷ (negsuc 4 ∷ negsuc 5 ∷ []) ∷ [])

choice_f : Choice
unfolding first_clause
choice_f = choice_of first_clause 6

order : Settings
order = record { form = order_form; arrangement = as_listed; step = 1 }

first_goes_into : GoesInto choice_f (events order input_f) first_clause
unfolding first_clause input_f choice_f order Lists.computing Checked.computing Literals.computing Text.computing Reading.computing Standing.computing Clearing.computing Counter.computing Order.computing Alignment.computing Reencoding.computing
first_goes_into = taken
