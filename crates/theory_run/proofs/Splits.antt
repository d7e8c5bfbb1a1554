-- The events of the first choices, and those of the others; each choice can be taken where the choices before it have been. Assumes that the choices are ready at the start and have no variable in common.
use mathlib.Core.Path.{◌≡◌, refl, sym, ◌∙◌, ap, subst}
use mathlib.Core.List.Memᴰ.{head as here}
use mathlib.Core.List.Memᴰ.{tail as there}
use mathlib.Core.List.{List, [], ◌∷◌, ◌++◌, append-nil, Memᴰ}
use Prim.Native.Nat.{ℕ}
use Rattle.definition.specs.Lists.{for_each}
use Rattle.definition.specs.Literals.{Clause, Formula}
use Rattle.definition.specs.Standing.{after}
use Rattle.definition.specs.Counter.{last_new}
use Rattle.definition.specs.Reencoding.{lines, Form, choice_events, choices_events}
use Rattle.theory_base.specs.Clauses.{Parted, Fits}
use Rattle.theory_base.proofs.Replay.{after-++, lines-++}
use Rattle.theory_counter.specs.Ready.{Ready}
use Rattle.theory_room.specs.Choices.{as_choice}
use Rattle.theory_run.proofs.ChoicesSound.{fits_below, after_events, after_fits, still_ready}

-- all these choices can be taken where F stands
abbrev pub AllReady : ℕ → (Clause → Clause) → Formula → List Clause → Type 0
AllReady g order F cs = (c : Clause) → Memᴰ c cs → (m : ℕ) → Ready F c (as_choice g m order c)

module _ (form : Form) (g : ℕ) (order : Clause → Clause) where
  -- the events of one choice
  pub choice_alone : (n : ℕ) (f : Formula) (c : Clause) → choices_events form g order n f (c ∷ []) ≡ choice_events form f c (as_choice g n order c)
  unfolding choices_events
  choice_alone n f c = append-nil (choice_events form f c (as_choice g n order c))

  -- a choice is ready where those before it have been taken
  pub ready_after : (n : ℕ) (F : Formula) (cs ds : List Clause) → Fits n F → AllReady g order F (cs ++ ds) → Parted (cs ++ ds) → AllReady g order (after F (lines (choices_events form g order n F cs))) ds
  unfolding choices_events lines for_each after
  ready_after n F [] ds f q p = q
  ready_after n F (b ∷ cs) ds f q p =
      let k = as_choice g n order b in
      let es = choice_events form F b k in
      let r = q b (here refl) n in
      let low = fits_below g n F f in
      let E = after F (lines es) in
      let fits : Fits (last_new k) E = rw (after_events F b k low r form) (after_fits F b k low r form) in
      let rest = choices_events form g order (last_new k) E cs in
      let ih = ready_after (last_new k) E cs ds fits (λ d i m. subst (λ (X : Formula). Ready X d (as_choice g m order d)) (sym (after_events F b k low r form)) (still_ready form g order n m F b d f r (p.0 d i) (q d (there i) m))) p.1 in
      subst (λ (X : Formula). AllReady g order X ds) (sym (ap (after F) (lines-++ es rest) ∙ after-++ F (lines es) (lines rest))) ih
