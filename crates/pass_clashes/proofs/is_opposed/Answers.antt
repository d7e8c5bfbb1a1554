-- The entries of the clause counted are set to 0 again (tables, uncounted).
use mathlib.Core.Path.{◌∙◌, ap}
use mathlib.Core.List.{List}
use Prim.Native.Nat.{ℕ}
use lib.IntN.{ℤ}
use mir.Syntax.{w32}
use mir.Val.{of_z, to_z}
use lib.ListN.{replicate}
use Rattle.definition.specs.Lists.{any}
use Rattle.theory_base.proofs.Chains.{any_is}
use Rattle.tables.specs.Sizes.{input_size}
use Rattle.tables.specs.Entries.{tallied, with_entries}
use Rattle.tables.proofs.Counting.{uncounted}
use Rattle.pass_clashes.specs.Resolving.{opposite_in}
use borrow.Author.Rules.{sfits_of}
use mir.ValLaws.{to_z-of_z}
use Rattle.pass_clashes.proofs.is_opposed.Goals as goal

pub returns : goal.returns
returns c =
    let one = c.args.one.now in
    let other = c.args.other.now in
    let e = c.count_clause.ensures ∙ ap (λ (t : List ℕ). tallied t one) c.requires in record {
      answer = c.any_opposite-is_there.ensures
          ∙ any_is (opposite_in c.count_clause.new.table (to_z w32 (of_z w32 c.signed.result))) other
          ∙ ap (λ (t : List ℕ). any (opposite_in t (to_z w32 (of_z w32 c.signed.result))) other) e
          ∙ ap (λ (z : ℤ). any (opposite_in (tallied (replicate {A = ℕ} input_size 0) one) z) other)
          (to_z-of_z w32 c.signed.result (sfits_of c.signed.type_inv) ∙ c.signed.ensures);
      table = c.set_entries.ensures ∙ ap (λ (t : List ℕ). with_entries t one 0) e ∙ uncounted input_size one;
    }
