-- The literal for which a clause is deleted, by a table, is the definition's. Assumes nothing.
use Rattle.std.proofs.Common.{◌≡◌, ◌≤◌, refl, sym, ◌∙◌, ap, ℕ, List, [], ◌∷◌, Bool, true, false, cond, Option, Some, None}
use Rattle.std.proofs.Math.Option as Math
use Rattle.std.specs.List.{find}
use mathlib.Core.List.{Memᴰ}
use lib.IntN.{ℤ, nat_abs}
use Rattle.definition.specs.Lists.{first}
use Rattle.definition.specs.Literals.{Clause, Formula}
use Rattle.definition.specs.Clearing.{pure, pure_literal, deletable}
use Rattle.theory_base.proofs.Members.{first_agree}
use Rattle.tables.specs.Counts.{Counts, pure_in}
use Rattle.tables.proofs.Counting.{deletable_is, pure_is}
use Rattle.pass_pure.specs.Pass.{pure_by}

-- what the definition finds, as an answer
abbrev pub shown : {A : Type 0} → Math.Option A → Option A
shown Math.none = None
shown (Math.some x) = Some x

shown_if : {A : Type 0} (b : Bool) (o q : Math.Option A) → shown (cond b o q) ≡ cond b (shown o) (shown q)
shown_if true o q = refl
shown_if false o q = refl

find_is : {A : Type 0} (p : A → Bool) (xs : List A) → find p xs ≡ shown (first p xs)
unfolding first
find_is p [] = refl
find_is p (x ∷ xs) = ap (cond (p x) (Some x)) (find_is p xs) ∙ sym (shown_if (p x) (Math.some x) (first p xs))

-- ---- the meaning

module _ (h : ℕ) (b : h ≤ 2147483647) (t : List ℕ) (F : Formula) (k : Counts h t F) (c : Clause) (f : (x : ℤ) → Memᴰ x c → nat_abs x ≤ h) where
  pub pure_literal_is : pure_by t c ≡ shown (pure_literal F c)
  unfolding pure_literal
  pure_literal_is = rw (find_is (pure_in t) c, first_agree (pure_in t) (pure F) c (pure_is h b t F k c f), deletable_is h b t F k c f) (sym (shown_if (deletable F c) (first (pure F) c) Math.none))
