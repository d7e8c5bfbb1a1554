-- "The choices are alignable exactly when no chain joins two literals of one choice": the notion and the computation agree, for the choices of every run.
use Rattle.std.specs.Prelude.{◌≡◌, ◌↔◌, T, ℤ}
use mathlib.Core.List.{Memᴰ, Permᴰ}
use Rattle.definition.specs.Checked.{value}
use Rattle.definition.specs.Literals.{Clause}
use Rattle.definition.specs.Text.{Bytes}
use Rattle.definition.specs.Reading.{Input}
use Rattle.definition.specs.Alignment.{alignment, Chain, Alignable, group, alignable, group_number, arranged}
use Rattle.definition.specs.Reencoding.{Settings, cleared, chosen}
use Rattle.definition.specs.Calls.{read_input}
use Rattle.theory_alignment.specs.Groups.{Rising}

pub record AlignmentAgrees (s : Settings) (i : Input) : Type 0 where
  -- two literals have one group exactly when a chain joins them
  pub groups : (a b : ℤ) → (group (cleared i.formula) (chosen s i) a ≡ group (cleared i.formula) (chosen s i) b) ↔ Chain (cleared i.formula) (chosen s i) a b
  -- the test says whether the choices are alignable
  pub decides : T (alignable (cleared i.formula) (chosen s i)) ↔ Alignable (cleared i.formula) (chosen s i)
  -- then each choice's literals rise in number; otherwise all orders stay
  pub sorts : Alignable (cleared i.formula) (chosen s i) → (c : Clause) → Memᴰ c (chosen s i) → Rising (group_number (cleared i.formula) (chosen s i)) (arranged alignment (cleared i.formula) (chosen s i) c)
  pub stays : (Alignable (cleared i.formula) (chosen s i) → ⊥) → (c : Clause) → arranged alignment (cleared i.formula) (chosen s i) c ≡ c
  -- no literal is lost or doubled
  pub permutes : (c : Clause) → Permᴰ (arranged alignment (cleared i.formula) (chosen s i) c) c

-- the theorem, proved as `aligning` in proofs/Aligning
unfoldable pub AlignmentAgreesHolds : Type 0
AlignmentAgreesHolds = (t : Bytes) (i : Input) → read_input t ≡ value i → (s : Settings) → AlignmentAgrees s i
