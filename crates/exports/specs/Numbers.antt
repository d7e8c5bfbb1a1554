-- Forms, arrangements and outcomes as numbers.
use Rattle.std.specs.Prelude.{cond, List, ℕ, eqb, ℤ, length}
use Rattle.definition.specs.Checked.{Checked, fault, value}
use Rattle.definition.specs.Alignment.{Arrangement, as_listed, alignment}
use Rattle.definition.specs.Text.{Bytes}
use Rattle.definition.specs.Reencoding.{Form, counter_form, order_form, Settings}
use Rattle.definition.specs.Calls.{Tally, Reencoded, reencode, sizes}

-- 0 is the counter form, any other number the order form
abbrev pub form_number : ℕ → Form
form_number n = cond (eqb n 0) counter_form order_form

-- 0 is as they stand, any other number alignment
abbrev pub arrangement_number : ℕ → Arrangement
arrangement_number n = cond (eqb n 0) as_listed alignment

abbrev pub settings_number : ℕ → ℕ → ℕ → Settings
settings_number f a g = record { form = form_number f; arrangement = arrangement_number a; step = g }

-- the outcome of reencoding: form, arrangement, step, text, workspace, both buffers and the number of the table's records
abbrev pub reencoding : ℕ → ℕ → ℕ → Bytes → List ℤ → Bytes → Bytes → ℕ → Checked Reencoded
reencoding f a g text work log formula room = reencode (settings_number f a g) (length work) (length log) (length formula) room text

-- the outcome of its sizes: form, arrangement, step, text and workspace
abbrev pub sizing : ℕ → ℕ → ℕ → Bytes → List ℤ → Checked Tally
sizing f a g text work = sizes (settings_number f a g) (length work) text

-- 0 for a value, else the fault's number
unfoldable pub number_of : {A : Type 0} → Checked A → ℕ
number_of (fault n) = n
number_of (value a) = 0
