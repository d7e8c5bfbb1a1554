use mathlib.Core.Path.{◌≡◌, refl, ◌∙◌}
use mathlib.Core.List.{List}
use Prim.Native.Nat.{ℕ}
use native.Mathlib.Omega.{arith}
use lib.IntN.{ℤ}
use lib.ListN.{take}
use lib.Seq.{sets}
use Rattle.std.specs.List.{copy_within}
use Rattle.replay.specs.Replayed.{Replayable}
use Rattle.replay.proofs.Copying.{copied_front}
use Rattle.replay.proofs.Replaying.{linkable, same_front, still_laid_out, still_room, indexed_replays, copy_front, copy_laid_out, copy_replays}
use Rattle.replay.proofs.replay.Goals as goal

-- the formula copied behind the lines
formula_copied : (old new : List ℤ) (n m : ℕ) → Replayable old n m → new ≡ copy_within old 0 n m → new ≡ sets old m (take n old)
formula_copied old new n m p e = e ∙ copied_front old n m (omega (arith, p.before, p.room)) (omega (arith, p.room))

pub index_all-requires : goal.index_all-requires
index_all-requires c =
    let e = formula_copied c.args.work.now _ c.args.n c.args.m c.requires c.copy_within.ensures.after in
    linkable _ c.args.n _ (copy_laid_out c.args.work.now _ c.args.n c.args.m c.requires e _) refl _ refl

pub replay_lines-requires : goal.replay_lines-requires
replay_lines-requires c =
    let e = formula_copied c.args.work.now _ c.args.n c.args.m c.requires c.copy_within.ensures.after in
    let p = copy_laid_out c.args.work.now _ c.args.n c.args.m c.requires e _ in (
      still_laid_out _ c.args.n _ p refl c.index_all.new.work c.index_all.auto.work c.index_all.ensures.kept,
      still_room _ c.args.n _ p refl c.index_all.new.work c.index_all.auto.work c.index_all.ensures.kept,
      c.index_all.ensures.linked,
    )

pub returns : goal.returns
returns c =
    let e = formula_copied c.args.work.now _ c.args.n c.args.m c.requires c.copy_within.ensures.after in
    let p = copy_laid_out c.args.work.now _ c.args.n c.args.m c.requires e _ in record {
      result = copy_replays c.args.work.now _ c.args.n c.args.m c.requires e c.replay_lines.result _
          (indexed_replays _ c.args.n _ p refl c.index_all.new.work c.index_all.auto.work
          c.index_all.ensures.kept c.replay_lines.result _ c.replay_lines.ensures.result);
      kept = c.replay_lines.ensures.kept
          ∙ same_front _ c.args.n _ p refl c.index_all.new.work c.index_all.auto.work c.index_all.ensures.kept
          ∙ copy_front c.args.work.now _ c.args.n c.args.m c.requires e;
    }
