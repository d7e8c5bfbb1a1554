use native.Mathlib.Omega.{arith}
use Rattle.replay.proofs.Index.{lowest_most, greatest_most, key_is}
use Rattle.replay.proofs.key_of.Goals as goal

pub overflow_mul-result : goal.overflow_mul-result
overflow_mul-result c = omega (arith, c.lowest-low.ensures, lowest_most c.args.clause.now)

pub overflow_add-result : goal.overflow_add-result
overflow_add-result c =
    omega (
      arith,
      c.lowest-low.ensures,
      lowest_most c.args.clause.now,
      c.greatest-top.ensures,
      greatest_most c.args.clause.now,
    )

pub returns-clause-key : goal.returns-clause-key
returns-clause-key c =
    key_is c.args.clause.now c.lowest-low.result c.greatest-top.result c.lowest-low.ensures
    c.greatest-top.ensures
