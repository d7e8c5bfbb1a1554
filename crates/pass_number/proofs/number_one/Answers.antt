use native.Mathlib.Omega.{arith}
use mathlib.Core.Path.{refl, ap}
use Prim.Native.Nat.{ℕ, ◌+◌}
use Rattle.pass_number.proofs.Numbering.{one_least, one_most, one_low, one_used_low, one_weighs, one_numbered}
use Rattle.pass_number.proofs.number_one.Goals as goal

pub next_below-below-requires : goal.next_below-below-requires
next_below-below-requires c = (c.requires.step_least, omega (arith, one_used_low c.requires, c.requires.step_most))

pub overflow_cast-n : goal.overflow_cast-n
overflow_cast-n c = omega (arith, one_most c.requires)

pub sum_entries-clauses-requires : goal.sum_entries-clauses-requires
sum_entries-clauses-requires c = omega (arith, one_weighs c.requires)

pub overflow_add-clauses : goal.overflow_add-clauses
overflow_add-clauses c = omega (arith, c.sum_entries-clauses.ensures, one_weighs c.requires)

pub overflow_add-record : goal.overflow_add-record
overflow_add-record c = omega (arith, c.next_below-below.ensures, one_low c.requires)

pub overflow_sub-result : goal.overflow_sub-result
overflow_sub-result c = one_least c.requires

pub overflow_add-result-2 : goal.overflow_add-result-2
overflow_add-result-2 c = omega (arith, c.next_below-below.ensures, one_low c.requires)

pub returns : goal.returns
returns c =
    one_numbered c.next_below-below.result _ _ c.next_below-below.ensures refl (ap (λ (k : ℕ). k + 1) c.sum_entries-clauses.ensures)
    c.put_record.ensures
