use Rattle.std.proofs.Common.{◌+◌, ◌*◌, ◌≤◌, take}
use Rattle.theory_text.specs.ClauseText.{literals_text}
use Rattle.text.specs.Output.{Put}
use Rattle.text.proofs.put_items.Given as goal

abbrev pub invariant-loop-l : goal.invariant-loop-l
invariant-loop-l l = record { written : Put l.initial.buf l.at (literals_text (take l.l-index l.clause)) l.end l.buf; within : l.end ≤ l.at + 12 * l.l-index }
