use Rattle.definition.specs.Reading as Reading
use mathlib.Core.Path.{refl}
use native.Mathlib.Omega.{arith}
use Rattle.dimacs.proofs.input_limits.Goals as goal

pub returns : goal.returns
unfolding Reading.input_limits
returns c = (refl, record { variables = omega arith; clauses = omega arith; literals = omega arith })
