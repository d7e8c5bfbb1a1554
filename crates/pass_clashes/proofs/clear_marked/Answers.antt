use Rattle.pass_clashes.proofs.Scanning.{scanned_start, scanned_then, scanned_end, scanned_weighed}
use Rattle.pass_clashes.proofs.clear_marked.Goals as goal

pub loop-s-init : goal.loop-s-init
loop-s-init c =
    scanned_start c.args.log.now c.requires.clash_ready.0 c.requires.clash_ready.1 c.requires.clash_ready.2 c.requires.clash_ready.3
    c.requires.marks_clashes.0 c.requires.marks_clashes.1

pub loop-s-preserved : goal.loop-s-preserved
loop-s-preserved c = scanned_then c.loop-s.invariant c.clear_next-s.ensures.scanned

pub returns : goal.returns
returns c =
    record {
      runs = scanned_end c.loop-s.invariant c.loop-s-test.false;
      indexed = c.loop-s.invariant.searching.indexed;
      table = c.loop-s.invariant.searching.zeros;
      weighed = scanned_weighed c.loop-s.invariant c.loop-s-test.false c.requires.clash_ready.3;
    }
