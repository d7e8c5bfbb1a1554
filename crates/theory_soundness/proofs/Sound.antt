-- A log whose every line is sound at the formula standing before it: what follows for every number of lines kept.
use mathlib.Core.Path.{◌≡◌, sym, subst}
use mathlib.Core.List.{List, [], ◌∷◌, ◌++◌}
use Prim.Native.Nat.{ℕ, zero, suc}
use lib.ListN.{length, take}
use lib.Seq.{take-length}
use Rattle.definition.specs.Literals.{Clause, Formula}
use Rattle.definition.specs.Standing.{Line, addition, deletion, changed, after}
use Rattle.definition.specs.Assignments.{Assignment, trues, repaired, carried, carried_back, forwarded, carried_forward}
use Rattle.definition.specs.Events.{Choice, Event}
use Rattle.definition.specs.Reencoding.{GoesInto}
use Rattle.theory_base.proofs.Trues.{Sat, sat_left}
use Rattle.theory_base.proofs.Removal.{Removed, removed_take_out, sat_less}
use Rattle.theory_base.proofs.Replay.{Leads, ends, adds, dels, leads_after}

-- the clause goes into a choice in the course of the events
pub record Into (es : List Event) (c : Clause) : Type 0 where
  pub choice : Choice
  pub goes : GoesInto choice es c

pub into_none : {c : Clause} → Into [] c → ⊥
into_none {c} i = no i.goes
  where
    no : {k : Choice} → GoesInto k [] c → ⊥
    no g = elim g [ ]

-- exactly one literal is true in each clause that goes into a choice
abbrev pub Ones : Assignment → List Event → Type 0
Ones σ es = (c : Clause) → Into es c → trues σ c ≡ 1

-- `Sound F es xs G fs`: the lines xs lead from F to G, each sound where it stands; and where an assignment has exactly one true literal in each clause that goes into a choice
-- in the events fs, the one carried back has so for es. An addition may be repaired, which carries an assignment forward.
pub data Sound : Formula → List Event → List Line → Formula → List Event → Type 0 where
  nothing : {F : Formula} {K L : List Event} → ((σ : Assignment) → Sat σ F → Ones σ L → Ones σ K) → Sound F K [] F L
  adding : {F G : Formula} {K L : List Event} {c : Clause} {xs : List Line} →
      ((σ : Assignment) → Sat σ F → Sat (repaired c σ) (F ++ (c ∷ []))) → Sound (F ++ (c ∷ [])) K xs G L → Sound F K (addition c ∷ xs) G L
  deleting : {F E G : Formula} {K M L : List Event} {c : Clause} {xs : List Line} → Removed c F E →
      ((σ : Assignment) → Sat σ E → Sat (repaired c σ) F) →
      ((σ : Assignment) → Sat σ E → Ones σ M → Ones (repaired c σ) K) → Sound E M xs G L → Sound F K (deletion c ∷ xs) G L

pub sound_leads : {F G : Formula} {K L : List Event} {xs : List Line} → Sound F K xs G L → Leads F xs G
sound_leads (nothing h) = ends
sound_leads (adding h s) = adds (sound_leads s)
sound_leads (deleting r d o s) = dels r (sound_leads s)

-- what holds of lines xs that lead from F to G: an assignment can be carried over them both ways
pub record Cut (F : Formula) (xs : List Line) (G : Formula) : Type 0 where
  pub back : (σ : Assignment) → Sat σ G → Sat (carried_back σ xs) F
  pub forward : (σ : Assignment) → Sat σ F → Sat (carried_forward σ xs) G

none_kept : (F : Formula) → Cut F [] F
unfolding carried_back carried_forward
none_kept F = record { back = λ σ s. s; forward = λ σ s. s }

-- for every number of lines kept
pub cut : {F G : Formula} {K L : List Event} {xs : List Line} → Sound F K xs G L → (j : ℕ) → Cut F (take j xs) (after F (take j xs))
unfolding after changed carried_back carried carried_forward forwarded
cut {F} (nothing h) zero = none_kept F
cut {F} (nothing h) (suc j) = none_kept F
cut {F} (adding h s) zero = none_kept F
cut {F} (adding {c = c} h s) (suc j) = let k = cut s j in record { back = λ σ t. sat_left _ F (c ∷ []) (k.back σ t); forward = λ σ t. k.forward (repaired c σ) (h σ t) }
cut {F} (deleting r d o s) zero = none_kept F
cut {F} (deleting {c = c} {xs = xs} r d o s) (suc j) =
    let k = cut s j in
    subst (λ (X : Formula). Cut F (deletion c ∷ take j xs) (after X (take j xs))) (sym (removed_take_out r))
    (record { back = λ σ t. d _ (k.back σ t); forward = λ σ t. k.forward σ (sat_less σ r t) })

-- all lines kept
whole : {F G : Formula} {K L : List Event} {xs : List Line} → Sound F K xs G L → (σ : Assignment) → Sat σ G → Sat (carried_back σ xs) F
whole {xs = xs} s = rw (take-length xs, leads_after (sound_leads s)) at (cut s (length xs)).back

pub exactly_one : {F G : Formula} {K L : List Event} {xs : List Line} → Sound F K xs G L → (σ : Assignment) → Sat σ G → Ones σ L → Ones (carried_back σ xs) K
unfolding carried_back carried
exactly_one (nothing h) σ t o = h σ t o
exactly_one (adding h s) σ t o = exactly_one s σ t o
exactly_one (deleting r d q s) σ t o = q _ (whole s σ t) (exactly_one s σ t o)

-- less is asked of the assignment
pub weaken : {F G : Formula} {K L M : List Event} {ys : List Line} → ((σ : Assignment) → Sat σ F → Ones σ L → Ones σ K) → Sound F L ys G M → Sound F K ys G M
weaken h (nothing g) = nothing (λ σ t o. h σ t (g σ t o))
weaken {F} h (adding {c = c} a s) = adding a (weaken (λ σ t o. h σ (sat_left σ F (c ∷ []) t) o) s)
weaken h (deleting r d o s) = deleting r d (λ σ t p. h _ (d σ t) (o σ t p)) s
