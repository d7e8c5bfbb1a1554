use mathlib.Core.Path.{◌∙◌}
use Prim.Native.Nat.{◌%◌, ◌^◌}
use native.Mathlib.Nat.{one-mul}
use native.Mathlib.Omega.{arith}
use lib.Pow.{shl_exact}
use Rattle.marks.proofs.mark_of.Goals as goal

pub returns : goal.returns
returns c = shl_exact 1 (c.args.v % 32) 32 (omega arith) (omega arith) ∙ one-mul (2 ^ (c.args.v % 32))
