use Prim.Native.Nat.{◌-◌}
use Rattle.definition.specs.Lists.{for_from}
use Rattle.progress.specs.Growth.{Grown}
use Rattle.pass_counter.specs.Choice.{choice_in}
use Rattle.pass_counter.specs.Links.{link_2}
use Rattle.pass_counter.proofs.put_links_2.Given as goal

abbrev pub invariant-loop-i : goal.invariant-loop-i
invariant-loop-i l = Grown (for_from 2 (l.i - 2) (link_2 (choice_in l.choice))) l.initial.work l.initial.newest l.initial.log l.initial.q l.work l.newest l.log l.q
