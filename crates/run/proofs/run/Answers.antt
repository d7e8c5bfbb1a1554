use Prim.Native.Nat.{ℕ}
use native.Mathlib.Omega.{arith}
use lib.ListN.{length-replicate}
use Rattle.tables.specs.Sizes.{log_size}
use Rattle.theory_base.proofs.Slices.{getD_zeros}
use Rattle.run.proofs.Phases.{enter_room, same_ready, ran_same}
use Rattle.run.proofs.run.Goals as goal

pub enter_all-requires : goal.enter_all-requires
enter_all-requires c =
    record {
      formed = (c.requires.formed, enter_room c.requires, c.requires.small);
      at_most = (λ i. omega (arith, getD_zeros log_size i), length-replicate {A = ℕ} log_size 0);
    }

pub run_indexed-requires : goal.run_indexed-requires
run_indexed-requires c = (same_ready c.requires _ c.enter_all.auto.work c.enter_all.ensures.kept, c.enter_all.ensures.indexed)

pub returns : goal.returns
returns c = ran_same c.requires _ c.enter_all.auto.work c.enter_all.ensures.kept c.run_indexed.ensures
