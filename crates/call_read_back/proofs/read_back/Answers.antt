use Rattle.std.proofs.Common.{rules, sym, ◌∙◌}
use Rattle.std.proofs.lemmas.Slice.{overwrites}
use Rattle.call_read_back.specs.Outcome.{outcome}
use Rattle.call_read_back.proofs.Outcome.{says, zero_after, filled_after}
use Rattle.call_read_back.proofs.read_back.Goals as goal

pub returns-then-is_err : goal.returns-then-is_err
returns-then-is_err c =
    let o = outcome c.args.store.now c.args.text.now in
    record {
      outcome = says o c.args.store.now c.read_into-r.new.store c.read_into-r.result c.read_into-r.ensures;
      buffer = zero_after o c.args.store.now c.read_into-r.new.store c.read_into-r.result c.read_into-r.ensures (sym c.is_err.ensures.value ∙ c.if-is_err.true) c.read_into-r.auto.store (search (rules, overwrites));
    }

pub returns-else-is_err : goal.returns-else-is_err
returns-else-is_err c =
    let o = outcome c.args.store.now c.args.text.now in
    record {
      outcome = says o c.args.store.now c.read_into-r.new.store c.read_into-r.result c.read_into-r.ensures;
      buffer = filled_after o c.args.store.now c.read_into-r.new.store c.read_into-r.result c.read_into-r.ensures (sym c.is_err.ensures.value ∙ c.if-is_err.false);
    }
