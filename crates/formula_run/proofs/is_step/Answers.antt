use mathlib.Core.Path.{refl}
use borrow.Author.Tests.{le-leb, lt-leb}
use Rattle.definition.specs.Calls.{step_allowed}
use Rattle.formula_run.proofs.is_step.Goals as goal

pub returns-then-g-ge1 : goal.returns-then-g-ge1
unfolding step_allowed
returns-then-g-ge1 c = rw (le-leb 1 c.args.g c.if-g-ge1.true) refl

pub returns-else-g-ge1 : goal.returns-else-g-ge1
unfolding step_allowed
returns-else-g-ge1 c = rw (lt-leb 1 c.args.g c.if-g-ge1.false) refl
