use Rattle.text.proofs.Output.{Writing}
use Rattle.text.proofs.put_number.Given as goal

abbrev pub invariant-loop-k : goal.invariant-loop-k
invariant-loop-k l = Writing l.initial.buf l.at l.n l.k l.m l.buf
