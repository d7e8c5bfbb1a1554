use Rattle.std.proofs.Common.{rules, sym, ◌∙◌}
use Rattle.std.proofs.lemmas.Slice.{overwrites}
use Rattle.carry.proofs.Writing.{ok_settled, err_settled}
use Rattle.carry.proofs.settle.Goals as goal

pub returns-then-is_err-clause-buffer : goal.returns-then-is_err-clause-buffer
returns-then-is_err-clause-buffer g c =
    λ f o old s l. err_settled f c.args.r o old c.args.out.now _ (sym c.is_err.ensures.value ∙ c.if-is_err.true) s l (search (rules, overwrites))

pub returns-else-is_err-clause-buffer : goal.returns-else-is_err-clause-buffer
returns-else-is_err-clause-buffer g c =
    λ f o old s l. ok_settled f c.args.r o old c.args.out.now (sym c.is_err.ensures.value ∙ c.if-is_err.false) s
