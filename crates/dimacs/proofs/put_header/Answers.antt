use native.Mathlib.Omega.{arith}
use Rattle.dimacs.proofs.FormulaText.{header_put}
use Rattle.dimacs.proofs.put_header.Goals as goal

pub returns : goal.returns
returns c =
    record {
      written = header_put c.args.h c.args.m c.put_text-a.ensures c.put_number-b.ensures.written c.put_byte-c.ensures
          c.put_number-d.ensures.written c.put_byte.ensures;
      within = omega (
        arith,
        c.put_text-a.ensures.next,
        c.put_number-b.ensures.within,
        c.put_byte-c.ensures.next,
        c.put_number-d.ensures.within,
        c.put_byte.ensures.next,
      );
    }
