use lib.ListN.{take, drop}
use Rattle.replacement.specs.Replaced.{choice_in}
use Rattle.pass_order.specs.Order.{front}
use Rattle.pass_order.proofs.Passing.{Turning}
use Rattle.pass_order.proofs.replace_all.Given as goal

abbrev pub invariant-loop-j : goal.invariant-loop-j
invariant-loop-j l = Turning (choice_in l.choice) (front l.initial.work l.start) (drop l.start (take l.initial.q.end l.initial.work)) l.start l.initial.work l.initial.log l.initial.q (drop l.j l.list) l.work l.newest l.log l.q
