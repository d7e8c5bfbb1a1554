use Rattle.std.proofs.Common.{take}
use Rattle.text.specs.Output.{Put}
use Rattle.text.proofs.put_text.Given as goal

abbrev pub invariant-loop-b : goal.invariant-loop-b
invariant-loop-b l = Put l.initial.buf l.at (take l.b-index l.text) l.end l.buf
