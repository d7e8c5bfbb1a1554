use Rattle.std.proofs.Common.{◌-◌, length}
use Rattle.answer.proofs.Reading.{LinesWalked}
use Rattle.answer.proofs.read_answer.Given as goal

abbrev pub invariant-loop-line : goal.invariant-loop-line
invariant-loop-line l = LinesWalked l.x l.text l.at l.state l.marks

abbrev pub decreases-loop-line : goal.decreases-loop-line
decreases-loop-line l = length l.text - l.at
