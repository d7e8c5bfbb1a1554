use Rattle.std.proofs.Common.{rules, tests}
use Rattle.std.proofs.lemmas.Iterator.{YieldsList-from_slice}
use Rattle.std.proofs.lemmas.Iterator.Search.{any_from_yields_List}
use Rattle.definition.specs.Assignments.{true_in, has_true}
use Rattle.theory_base.proofs.Chains.{any_is}
use Rattle.answer.specs.Table.{marked}
use Rattle.answer.proofs.has_true.Goals as goal

pub returns : goal.returns
unfolding has_true
returns c =
    let test = true_in (marked c.args.marks.now) in
    rw (← any_is test c.args.clause.now)
    (any_from_yields_List test _ _ _ c.any.ensures.ran (YieldsList-from_slice c.args.clause.now cc) (λ x b q k. search (rules, tests)))
