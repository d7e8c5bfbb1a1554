use Rattle.store.specs.Store.{stored}
use Rattle.dimacs.proofs.FormulaText.{formula_put}
use Rattle.dimacs.proofs.write_formula.Goals as goal

pub returns : goal.returns
returns c =
    formula_put c.args.h (stored c.args.store.now) c.requires.m_value c.put_header-end.ensures.written
    c.put_entries.ensures
