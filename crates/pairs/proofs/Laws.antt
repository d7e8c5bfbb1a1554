-- For the caller: what stands and which lines are recorded when the pairs of a choice have been taken out and counted. Assumes nothing.
use mathlib.Core.Path.{◌≡◌, sym, ◌∙◌}
use mathlib.Core.List.{List, map}
use Prim.Native.Nat.{ℕ, ◌≤◌}
use lib.IntN.{ℤ}
use lib.ListN.{length}
use Rattle.definition.specs.Literals.{Clause, Formula}
use Rattle.definition.specs.Standing.{deletion, take_out}
use Rattle.definition.specs.Events.{Choice}
use Rattle.definition.specs.Counter.{copies}
use Rattle.theory_base.specs.Clauses.{ProperAll, FitAll}
use Rattle.theory_counter.specs.Ready.{Ready}
use Rattle.theory_counter.specs.Front.{front}
use Rattle.tables.specs.Sizes.{input_reach}
use Rattle.tables.specs.Places.{Places}
use Rattle.store.specs.Store.{stored}
use Rattle.pairs.specs.Pairs.{PairsTaken, pair_lines}
use Rattle.pairs.proofs.Fronts.{front_is, counts_are}
use Rattle.pairs.proofs.Copies.{pair_lines_are}

module _ {F : Formula} {c : Clause} {k : Choice} (r : Ready F c k) (p : ProperAll F) (few : length k.literals ≤ 64)
    {t : List ℕ} {s : List ℤ} {counts : List ℕ} (q : Places t k.literals) (w : PairsTaken t (take_out k.literals F) s counts) where
  pub front_stands : stored s ≡ front F k
  front_stands = w.stands ∙ sym (front_is F c k r p few q)

  pub copies_lines : FitAll input_reach k.literals → pair_lines counts k.literals ≡ map deletion (copies F k.literals)
  copies_lines u = pair_lines_are F k.literals counts u (counts_are F c k r p few q w)
