-- The literals copied behind each other, then the header: the entry of what the two parts give (Copying).
use mathlib.Core.Path.{◌∙◌}
use mir.Syntax.{w32}
use mir.ValLaws.{to_z-of_z}
use borrow.Author.Rules.{sfits_of}
use Rattle.pass_clashes.proofs.Copying.{second_room, entry_next, entry_written}
use Rattle.pass_clashes.proofs.append_resolvent.Goals as goal

pub copy_without-d-requires : goal.copy_without-d-requires
copy_without-d-requires c =
    let e = to_z-of_z w32 c.signed.result (sfits_of c.signed.type_inv) ∙ c.signed.ensures in
    let f = to_z-of_z w32 c.signed-2.result (sfits_of c.signed-2.type_inv) ∙ c.signed-2.ensures in
    let k = rw e at c.copy_without-c.ensures in
    rw f (second_room c.requires k)

pub returns : goal.returns
returns c =
    let e = to_z-of_z w32 c.signed.result (sfits_of c.signed.type_inv) ∙ c.signed.ensures in
    let f = to_z-of_z w32 c.signed-2.result (sfits_of c.signed-2.type_inv) ∙ c.signed-2.ensures in
    let k = rw e at c.copy_without-c.ensures in
    let l = rw f at c.copy_without-d.ensures in
    record {
      next = entry_next c.requires k l;
      written = entry_written c.requires k l (to_z-of_z w32 c.header.result (sfits_of c.header.type_inv) ∙ c.header.ensures);
    }
