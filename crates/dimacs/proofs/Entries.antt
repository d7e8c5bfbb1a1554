-- The entries of a formula are a store in which it stands. Assumes nothing.
use mathlib.Core.Path.{◌≡◌, refl, ap₂, ◌∙◌}
use mathlib.Core.List.{[], ◌∷◌, ◌++◌, append-nil}
use Prim.Native.Nat.{◌<◌, ◌^◌}
use native.Mathlib.Omega.{arith}
use lib.ListN.{length, length-append}
use Rattle.definition.specs.Lists.{for_each, sum_of}
use Rattle.definition.specs.Literals.{Clause, Formula, literals_of}
use Rattle.definition.specs.Calls.{numbers_of}
use Rattle.theory_base.proofs.Loops.{for_each-++}
use Rattle.literals.proofs.Laws.{header_small}
use Rattle.store.specs.Store.{Formed, stored}
use Rattle.store.proofs.Laws.{formed-++, stored-++, stored_none, entry_formed, entry_stored}
use Rattle.dimacs.specs.Entries.{entry, entries}

pub entries_numbers : (f : Formula) → length (entries f) ≡ numbers_of f
unfolding entries for_each numbers_of literals_of sum_of
entries_numbers [] = refl
entries_numbers (c ∷ f) = omega (arith, length-append (entry c) (entries f), entries_numbers f)

pub entries_one : (c : Clause) → entries (c ∷ []) ≡ entry c
unfolding entries for_each
entries_one c = append-nil (entry c)

pub entries-++ : (f g : Formula) → entries (f ++ g) ≡ entries f ++ entries g
unfolding entries
entries-++ f g = for_each-++ f g entry

-- lengths that an i32 can hold
entries_store : (f : Formula) → literals_of f < 2 ^ 31 → Formed (entries f) × (stored (entries f) ≡ f)
unfolding entries for_each literals_of sum_of
entries_store [] h = (tt, stored_none)
entries_store (c ∷ f) h =
    let r = entries_store f (omega arith) in
    let one : Formed (entry c) = rw (header_small (length c) (omega arith)) at (entry_formed c (omega arith)) in
    let is : stored (entry c) ≡ c ∷ [] = rw (header_small (length c) (omega arith)) at (entry_stored c (omega arith)) in
    (formed-++ (entry c) (entries f) one r.0, stored-++ (entry c) (entries f) one ∙ ap₂ (λ (x y : Formula). x ++ y) is r.1)

module _ (f : Formula) (h : literals_of f < 2 ^ 31) where
  pub entries_formed : Formed (entries f)
  entries_formed = (entries_store f h).0

  pub entries_stored : stored (entries f) ≡ f
  entries_stored = (entries_store f h).1
