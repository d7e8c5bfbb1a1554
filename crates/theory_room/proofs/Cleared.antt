-- "Clearing clashes": its events, and that their lines are proper and of the variables of the formula. Assumes that the formula is proper.
use mathlib.Core.Path.{◌≡◌, sym, ◌∙◌, ap}
use mathlib.Core.Logic.{⊎_elim}
use mathlib.Core.List.Memᴰ
use mathlib.Core.List.Memᴰ.{head as here}
use mathlib.Core.List.Memᴰ.{tail as there}
use mathlib.Core.List.{List, [], ◌∷◌, ◌++◌, Memᴰ}
use Prim.Native.Nat.{ℕ}
use lib.IntN.{ℤ}
use Rattle.definition.specs.Lists.{for_each}
use Rattle.definition.specs.Literals.{Clause, Formula}
use Rattle.definition.specs.Standing.{after}
use Rattle.definition.specs.Events.{Clash, Event, clash_cleared, pure_deleted}
use Rattle.definition.specs.Clearing.{clash_lines, clear_clashes, clear_pure}
use Rattle.definition.specs.Reencoding.{lines_of, lines, unclashed, cleared}
use Rattle.theory_base.specs.Clauses.{ProperAll, Fits}
use Rattle.theory_base.proofs.Fitting.{ProperTo, proper_fits, line_to}
use Rattle.theory_base.proofs.Replay.{AllClauses, AllLines, after-++, lines-++}
use Rattle.theory_clearing.proofs.Clash.{IsClash}
use Rattle.theory_clearing.proofs.Clashes.{Clears, next, clashes_clear, no_more}
use Rattle.theory_clearing.proofs.Pure.{Eliminates, next as further, no_more as no_further, pure_eliminates}
use Rattle.theory_clearing.proofs.Cleared.{cleared_facts, clearing_lines_proper}
use Rattle.theory_room.specs.Choices.{clearing}

-- an event of the clearing
pub data Clearing : Event → Type 0 where
  clash : (c : Clash) → Clearing (clash_cleared c)
  pure_clause : (l : ℤ) (c : Clause) → Clearing (pure_deleted l c)

clash_event : {F G : Formula} {es : List Event} → Clears F es G → (e : Event) → Memᴰ e es → Clearing e
clash_event (next {c = c} l s) e (here q) = rw q (clash c)
clash_event (next l s) e (there i) = clash_event s e i
clash_event (no_more {F = F}) e x5 = elim x5 [ ]

pure_event : {F G : Formula} {es : List Event} → Eliminates F es G → (e : Event) → Memᴰ e es → Clearing e
pure_event (further {d = d} {l = l} q r s) e (here p) = rw p (pure_clause l d)
pure_event (further q r s) e (there i) = pure_event s e i
pure_event (no_further {F = F}) e x5 = elim x5 [ ]

-- a clash where it is cleared
clears_at : {F G : Formula} (xs ys : List Event) (c : Clash) → Clears F (xs ++ (clash_cleared c ∷ ys)) G → IsClash (after F (lines xs)) c
unfolding lines lines_of for_each after
clears_at [] ys c (next l s) = l
clears_at {F} (x ∷ xs) ys c (next {c = d} l s) = rw (after-++ F (clash_lines d) (lines xs)) (clears_at {F = after F (clash_lines d)} xs ys c s)

pub clash_stands : (f : Formula) (xs ys : List Event) (c : Clash) → clear_clashes f ≡ xs ++ (clash_cleared c ∷ ys) → IsClash (after f (lines xs)) c
clash_stands f xs ys c e = clears_at xs ys c (rw e at (clashes_clear f))

pub clearing_event : (f : Formula) (e : Event) → Memᴰ e (clearing f) → Clearing e
unfolding clearing
clearing_event f e m = ⊎_elim (clash_event (clashes_clear f) e) (pure_event (pure_eliminates (unclashed f)) e) (Memᴰ.append_cases (clear_clashes f) m)

clearing_lines_are : (f : Formula) → lines (clearing f) ≡ lines (clear_clashes f) ++ lines (clear_pure (unclashed f))
unfolding clearing
clearing_lines_are f = lines-++ (clear_clashes f) (clear_pure (unclashed f))

-- what stands after it
pub cleared_after : (f : Formula) → cleared f ≡ after f (lines (clearing f))
unfolding cleared unclashed
cleared_after f = sym (ap (after f) (clearing_lines_are f) ∙ after-++ f (lines (clear_clashes f)) (lines (clear_pure (unclashed f))))

module _ (h : ℕ) (f : Formula) (p : ProperAll f) (q : Fits h f) where
  pub clearing_lines_to : AllLines (ProperTo h) (lines (clearing f))
  clearing_lines_to x m = line_to h x (clearing_lines_proper p q x (rw (clearing_lines_are f) at m))

  pub cleared_to : AllClauses (ProperTo h) (cleared f)
  cleared_to = let r = cleared_facts p q in proper_fits h (cleared f) r.0 r.1
