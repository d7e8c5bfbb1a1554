use mathlib.Core.Path.{◌≡◌, refl, ap, ◌∙◌}
use mathlib.Core.List.{List}
use Prim.Native.Nat.{ℕ, ◌+◌, ◌-◌, ◌<◌}
use native.Mathlib.Omega.{arith}
use lib.IntN.{ℤ}
use lib.ListN.{length, take, drop}
use lib.Seq.{take-set-le}
use Rattle.std.specs.Prelude.{Option, Some}
use Rattle.theory_base.proofs.Slices.{part_is}
use Rattle.store.specs.Store.{place_of}
use Rattle.replay.specs.declared.Layout.{Layout}
use Rattle.replay.specs.Index.{store_in, Linked}
use Rattle.replay.proofs.Indexing.{linked_deleted}
use Rattle.replay.proofs.Replaying.{found_inside, deletion_found, deletion_missing}
use Rattle.replay.proofs.delete_part.Goals as goal

-- the place of the n literals from first on
looked_up : (w s : List ℤ) (first n : ℕ) (f : Option ℕ) → f ≡ place_of (take (first + n - first) (drop first w)) s → f ≡ place_of (take n (drop first w)) s
looked_up w s first n f e = e ∙ ap (λ (d : List ℤ). place_of d s) (part_is w first n)

-- its place lies in the workspace
inside : (w : List ℤ) (heads : List ℕ) (l : Layout) (first n p : ℕ) → Linked w heads l → Some p ≡ place_of (take (first + n - first) (drop first w)) (store_in l w) → l.store + p < length w
inside w heads l first n p k e =
    omega (
      arith,
      k.room,
      k.within,
      found_inside w l (take n (drop first w)) k.order (omega (arith, k.room, k.within)) k.formed p
          (looked_up w (store_in l w) first n (Some p) e),
    )

pub overflow_add-layout : goal.overflow_add-layout
overflow_add-layout c =
    omega (arith, inside _ _ _ c.args.first c.args.n _ c.requires.1 c.in_ok-at.ensures)

pub mark_deleted-requires : goal.mark_deleted-requires
mark_deleted-requires c =
    inside _ _ _ c.args.first c.args.n _ c.requires.1 c.in_ok-at.ensures

pub returns : goal.returns
returns c =
    let w = c.args.work.now in
    let l = c.requires.1 in
    let d = take c.args.n (drop c.args.first w) in
    let z = looked_up w (store_in c.args.layout w) c.args.first c.args.n _ c.in_ok-at.ensures in record {
      result = deletion_found w c.args.layout d l.order (omega (arith, l.room, l.within)) l.formed _ _ z c.mark_deleted.ensures;
      kept = ap (take c.args.layout.store) c.mark_deleted.ensures ∙ take-set-le c.args.layout.store w _ _ (omega arith);
      linked = linked_deleted w _ c.args.heads.now c.args.layout d l _ z c.mark_deleted.ensures;
    }

pub returns-in_err-at : goal.returns-in_err-at
returns-in_err-at c =
    let w = c.args.work.now in
    let l = c.requires.1 in
    let z = looked_up w (store_in c.args.layout w) c.args.first c.args.n _ c.in_err-at.ensures in
    rw c.from_residual.ensures (record {
      result = deletion_missing w c.args.layout (take c.args.n (drop c.args.first w)) l.order
          (omega (arith, l.room, l.within)) l.formed z;
      kept = refl;
      linked = tt;
    })
