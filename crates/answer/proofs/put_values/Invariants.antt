use Rattle.text.specs.Output.{Put}
use Rattle.answer.specs.Table.{marked}
use Rattle.answer.specs.Output.{values_text}
use Rattle.answer.proofs.put_values.Given as goal

abbrev pub invariant-loop-i : goal.invariant-loop-i
invariant-loop-i l = Put l.initial.buf l.at (values_text (marked l.marks) l.i) l.a l.buf
