-- The choices collected, then arranged in place.
use mathlib.Core.Path.{◌≡◌, refl, sym, ap, ◌∙◌}
use mathlib.Core.Bool.{◌&&◌}
use mathlib.Core.List.{List, [], ◌∷◌, ◌++◌, map}
use Prim.Native.Nat.{ℕ}
use native.Mathlib.Omega.{arith}
use lib.IntN.{ℤ}
use lib.ListN.{length, take, drop, length-append, length-drop}
use lib.Seq.{length-take-le, take_at}
use Rattle.definition.specs.Literals.{Formula}
use Rattle.definition.specs.Clearing.{unique, choice_size}
use Rattle.definition.specs.Counter.{choices}
use Rattle.definition.specs.Alignment.{Arrangement, as_listed, alignment, arranged}
use Rattle.theory_base.specs.Clauses.{Fits}
use Rattle.theory_base.proofs.Members.{those_mem}
use Rattle.store.specs.Store.{Formed, stored}
use Rattle.progress.specs.declared.Progress.{Progress}
use Rattle.progress.specs.Progress.{standing}
use Rattle.pass_choose.specs.Collecting.{Collected}
use Rattle.pass_align.specs.Aligned.{ProperStore, Choices, Mapped}
use Rattle.run.specs.declared.Arrangement as Code
use Rattle.run.specs.declared.Arrangement.TheVariants as Named
use Rattle.run.specs.Settings.{named_arrangement}
use Rattle.run.specs.Choices.{Choosable, Chosen}

-- ---- nothing is arranged

map_same : {A : Type 0} (f : A → A) → ((x : A) → f x ≡ x) → (xs : List A) → xs ≡ map f xs
map_same f e [] = refl
map_same f e (x ∷ xs) = sym (ap (λ y. y ∷ map f xs) (e x) ∙ ap (λ ys. x ∷ ys) (sym (map_same f e xs)))

as_listed_stays : (F : Formula) (chosen : List ℤ) → Formed chosen → Mapped (arranged as_listed F (stored chosen)) chosen chosen
unfolding arranged
as_listed_stays F chosen f = record { same_size = refl; formed = f; stands = map_same (arranged as_listed F (stored chosen)) (λ c. refl) (stored chosen) }

-- ---- collected

choices_fit : {h : ℕ} (F : Formula) → Fits h F → Fits h (choices F)
unfolding choices
choices_fit F f d m = f d (those_mem (λ c. choice_size c && unique F c) F d m).0

module _ {work chosen : List ℤ} {p : Progress} (c : Choosable work p chosen) where
  abbrev F : Formula
  F = standing work p

  pub store_proper : ProperStore (take p.end work)
  store_proper = record { formed = c.good.formed; proper = c.good.proper; fits = c.good.fits }

  module _ {full : List ℤ} {n : ℕ} (o : Collected (choices F) (length chosen) n full) where
    pub choices_collected : Choices (take n full)
    choices_collected = record {
      short = omega (arith, c.few, o.inside, o.same_size, length-take-le n full o.inside);
      formed = o.formed;
      fits = rw o.stands (choices_fit F c.good.fits);
      parted = rw o.stands c.parted;
    }

    -- the first n elements arranged
    pub chosen_arranged : {a : Arrangement} {part : List ℤ} → Mapped (arranged a F (stored (take n full))) (take n full) part → Chosen a F (length chosen) n (part ++ drop n full)
    chosen_arranged {a} {part} r =
        let e : take n (part ++ drop n full) ≡ part = take_at part (drop n full) n (r.same_size ∙ length-take-le n full o.inside) in
        record {
          inside = omega (arith, o.inside, o.same_size);
          same_size = omega (arith, o.inside, o.same_size, length-append part (drop n full), length-drop n full, r.same_size, length-take-le n full o.inside);
          formed = rw e r.formed;
          stands = rw (e, r.stands, o.stands) refl;
        }

-- ---- by the arrangement that is named

pub listed_returned : {a : Code.Arrangement} → a ≡ Named.AsListed → (s chosen : List ℤ) → Formed chosen → Mapped (arranged (named_arrangement a) (stored s) (stored chosen)) chosen chosen
listed_returned e s chosen f = rw e (as_listed_stays (stored s) chosen f)

pub aligned_returned : {a : Code.Arrangement} {new : List ℤ} → a ≡ Named.Alignment → (s chosen : List ℤ) →
    Mapped (arranged alignment (stored s) (stored chosen)) chosen new → Mapped (arranged (named_arrangement a) (stored s) (stored chosen)) chosen new
aligned_returned e s chosen m = rw e m
