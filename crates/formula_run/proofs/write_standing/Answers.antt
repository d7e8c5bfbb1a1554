use native.Mathlib.Omega.{arith}
use mathlib.Core.Path.{sym}
use lib.Seq.{length-take-le}
use Rattle.formula_run.proofs.Running.{left_few, formula_written}
use Rattle.formula_run.proofs.write_standing.Goals as goal

pub slice_bounds-count_standing-end : goal.slice_bounds-count_standing-end
slice_bounds-count_standing-end c = sym (length-take-le c.args.r.progress.end c.args.work.now c.requires.inside)

pub overflow_cast-count : goal.overflow_cast-count
overflow_cast-count c = record { fits = omega (arith, c.count_standing-count.ensures, (left_few c.requires).0) }

pub slice_bounds-write_formula-end : goal.slice_bounds-write_formula-end
slice_bounds-write_formula-end c = sym (length-take-le c.args.r.progress.end c.args.work.now c.requires.inside)

pub write_formula-bytes-requires : goal.write_formula-bytes-requires
write_formula-bytes-requires c =
    record {
      formed = c.requires.formed;
      m_value = c.count_standing-count.ensures;
      store_bound = (left_few c.requires).1;
    }

pub returns : goal.returns
returns c = formula_written c.write_formula-bytes.ensures c.count_standing-count.ensures
