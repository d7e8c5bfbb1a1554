use Rattle.progress.proofs.Writing.{first_put}
use native.Mathlib.Omega.{arith}
use Rattle.progress.proofs.put_first.Goals as goal

pub returns : goal.returns
returns c =
    record {
      written = first_put c.args.first c.ranges.first c.put_byte-a.ensures c.put_byte-b.ensures
          c.put_item.ensures.written;
      within = omega (arith, c.put_byte-a.ensures.next, c.put_byte-b.ensures.next, c.put_item.ensures.within);
    }
