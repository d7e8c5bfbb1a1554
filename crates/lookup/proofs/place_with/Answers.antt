use mathlib.Core.Path.{sym, subst}
use Prim.Native.Nat.{◌≤◌}
use native.Mathlib.Omega.{arith}
use lib.IntN.{ℤ, nat_abs}
use lib.ListN.{take}
use mir.Syntax.{w32}
use mir.Val.{to_z, of_z}
use mir.ValLaws.{to_z-of_z}
use Rattle.definition.specs.Clearing.{times}
use Rattle.tables.specs.Sizes.{log_reach}
use Rattle.store.specs.Store.{stored}
use Rattle.index.specs.Reading.{FoundWith}
use Rattle.index.proofs.Laws.{index_reached}
use Rattle.lookup.proofs.Finding.{last_found, none_stands}
use Rattle.lookup.proofs.place_with.Goals as goal

pub returns-then-node-eq0 : goal.returns-then-node-eq0
returns-then-node-eq0 c =
    subst
    (λ (z : ℤ). 1 ≤ times z (stored (take c.args.end c.args.work.now)) → FoundWith z
    (take c.args.end c.args.work.now) c.args.end)
    (to_z-of_z w32 c.args.l c.ranges.l)
    (none_stands c.requires.0 (to_z w32 (of_z w32 c.args.l))
    (index_reached (to_z w32 (of_z w32 c.args.l))
    (subst (λ (z : ℤ). nat_abs z ≤ log_reach) (sym (to_z-of_z w32 c.args.l c.ranges.l)) c.requires.1))
    c.last_node.ensures c.standing_before-node.ensures c.if-node-eq0.true)

pub returns : goal.returns
returns c =
    subst
    (λ (z : ℤ). 1 ≤ times z (stored (take c.args.end c.args.work.now)) → FoundWith z
    (take c.args.end c.args.work.now) c.place_at.result)
    (to_z-of_z w32 c.args.l c.ranges.l)
    (λ _. last_found c.requires.0 (to_z w32 (of_z w32 c.args.l))
    (index_reached (to_z w32 (of_z w32 c.args.l))
    (subst (λ (z : ℤ). nat_abs z ≤ log_reach) (sym (to_z-of_z w32 c.args.l c.ranges.l)) c.requires.1))
    c.last_node.ensures c.standing_before-node.ensures (omega (arith, c.if-node-eq0.false))
    c.place_at.ensures)
