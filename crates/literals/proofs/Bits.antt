-- What `==` on literals computes: whether their bits are the same.
use mathlib.Core.Path.{◌≡◌, sym, ap, ◌∙◌}
use lib.IntN.{ℤ}
use lib.Dec.{eqb}
use borrow.Author.Tests.{eq-eqb, ne_eqb}
use mir.Syntax.{w32}
use mir.Val.{SFits, of_z, to_z}
use mir.ValLaws.{to_z-of_z}
use Rattle.definition.specs.Literals.{same}
use Rattle.theory_base.proofs.Tests.{by_test, of_true}
use Rattle.theory_base.proofs.Members.{same_eq, unlike}

module _ (a b : ℤ) (f : SFits w32 a) (g : SFits w32 b) where
  bits_eq : of_z w32 a ≡ of_z w32 b → a ≡ b
  bits_eq e = sym (to_z-of_z w32 a f) ∙ ap (to_z w32) e ∙ to_z-of_z w32 b g

  pub same_bits : eqb (of_z w32 a) (of_z w32 b) ≡ same a b
  same_bits = by_test (same a b) (λ e. eq-eqb _ _ (ap (of_z w32) (same_eq a b (of_true e))) ∙ sym e) (λ e. ne_eqb _ _ (λ h. unlike a b e (bits_eq h)) ∙ sym e)
