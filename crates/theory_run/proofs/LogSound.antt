-- The whole log is sound.
use mathlib.Core.Path.{◌≡◌, refl, sym}
use mathlib.Core.Logic.{⊎_elim}
use mathlib.Core.Bool.{Bool, true, false, cond, ◌&&◌}
use mathlib.Core.List.Memᴰ
use mathlib.Core.List.Memᴰ.{head as here}
use mathlib.Core.List.Memᴰ.{tail as there}
use mathlib.Core.List.{[], ◌∷◌, ◌++◌, Memᴰ, append_assoc}
use Prim.Native.Nat.{ℕ, ◌≤◌}
use native.Mathlib.Omega.{arith}
use lib.Dec.{T}
use lib.IntN.{ℤ}
use Rattle.definition.specs.Lists.{those}
use Rattle.definition.specs.Literals.{Clause, Formula}
use Rattle.definition.specs.Reading.{Input, input_limits}
use Rattle.definition.specs.Standing.{after}
use Rattle.definition.specs.Clearing.{times, unique, choice_size, clear_clashes, clear_pure}
use Rattle.definition.specs.Counter.{choices, size}
use Rattle.definition.specs.Reencoding.{Settings, lines, unclashed, cleared, chosen, events, log, result}
use Rattle.theory_base.proofs.Tests.{of_true, and_r}
use Rattle.theory_base.proofs.Members.{those_mem, same_variable}
use Rattle.theory_base.specs.Clauses.{Disjoint, Parted, ProperAll, Fits}
use Rattle.theory_base.proofs.Replay.{leads_after, lines-++}
use Rattle.theory_soundness.proofs.Sound.{Sound, sound_leads}
use Rattle.theory_soundness.proofs.Times.{unique_at, two_clauses, times_cons}
use Rattle.theory_clearing.proofs.Clashes.{clashes_sound, unclashed_proper}
use Rattle.theory_clearing.specs.Clashes.{ClashFree}
use Rattle.theory_clearing.proofs.Pure.{pure_sound}
use Rattle.theory_clearing.proofs.Cleared.{cleared_facts}
use Rattle.theory_room.proofs.Lines.{ordered_size}
use Rattle.theory_room.specs.Choices.{as_choice, order_of}
use Rattle.theory_room.proofs.Runs.{choosing, chosen_mem, chosen_arranges, Run}
use Rattle.theory_counter.specs.Ready.{Ready}
use Rattle.theory_run.proofs.ChoicesSound.{choices_sound}
use Rattle.theory_text.specs.Accepted.{Accepted}

-- ---- the choices have no variable in common
module _ (F : Formula) (free : ClashFree F) where
  parted : (p : Clause → Bool) → ((c : Clause) → T (p c) → T (unique F c)) → (G : Formula) → ((d : Clause) → Memᴰ d G → Memᴰ d F) → ((x : ℤ) → times x G ≤ times x F) → Parted (those p G)
  unfolding those
  parted p u [] m t = tt
  parted p u (c ∷ G) m t = go (p c) refl (parted p u G (λ d i. m d (there i)) (λ x. omega (arith, t x, times_cons x c G)))
    where
      apart : T (unique F c) → (d : Clause) → Memᴰ d (those p G) → Disjoint c d
      apart q d i x a y b e =
          let r = those_mem p G d i in
          ⊎_elim (λ s. omega (arith, two_clauses x c G a d r.0 (Memᴰ.cast s b), t x, unique_at F c q x a)) (λ s. free d c (m d (there r.0)) (m c (here refl)) (u d r.1) q y b (Memᴰ.cast (sym s) a)) (same_variable x y e)

      go : (b : Bool) → p c ≡ b → Parted (those p G) → Parted (cond b (c ∷ those p G) (those p G))
      go true e ih = (apart (u c (of_true e)), ih)
      go false e ih = ih

-- ---- the whole log

module _ (s : Settings) (i : Input) (proper : ProperAll i.formula) (fits : Fits i.highest i.formula) where
  facts : ProperAll (cleared i.formula) × Fits i.highest (cleared i.formula) × ClashFree (cleared i.formula)
  facts = cleared_facts proper fits

  pub chosen_parted : Parted (chosen s i)
  unfolding chosen choices
  chosen_parted =
      let F = cleared i.formula in
      parted F facts.2 (λ c. choice_size c && unique F c) (λ c t. and_r (choice_size c) (unique F c) t) F (λ d m. m) (λ x. omega arith)

  pub chosen_ready : (c : Clause) → Memᴰ c (chosen s i) → (n : ℕ) → Ready (cleared i.formula) c (as_choice s.step n (order_of s i) c)
  unfolding size
  chosen_ready c m n =
      let h = chosen_arranges s i proper fits in
      let o = h c m in
      let r = chosen_mem s i c m in
      record {
        proper = o.2;
        proper_clause = o.0.0;
        long = ordered_size i.highest (order_of s i) (chosen s i) h c m s.step n;
        standing = r.0;
        same = o.3;
        alone = λ x j. unique_at (cleared i.formula) c r.3 x (o.3.0 x j);
      }

  events_sound : let f = i.formula in
      Sound f (clear_clashes f ++ (clear_pure (unclashed f) ++ choosing s i)) (lines (clear_clashes f) ++ (lines (clear_pure (unclashed f)) ++ lines (choosing s i))) (after (cleared f) (lines (choosing s i))) []
  unfolding choosing cleared
  events_sound =
      let f = i.formula in
      let c = choices_sound s.form s.step (order_of s i) i.highest (cleared f) (chosen s i) facts.1 chosen_ready chosen_parted in
      let p = pure_sound i.highest (unclashed f) (choosing s i) (unclashed_proper proper fits).1 c.1 c.0 in
      (clashes_sound i.highest f (clear_pure (unclashed f) ++ choosing s i) proper fits p.1 p.0).0

  whole : Sound i.formula (events s i) (log s i) (after (cleared i.formula) (lines (choosing s i))) []
  unfolding events log choosing
  whole =
      let es = clear_clashes i.formula in
      let ps = clear_pure (unclashed i.formula) in
      rw (append_assoc es ps (choosing s i), lines-++ es (ps ++ choosing s i), lines-++ ps (choosing s i)) events_sound

  pub log_sound : Sound i.formula (events s i) (log s i) (result s i) []
  unfolding result
  log_sound = rw (leads_after (sound_leads whole)) whole

-- what the bounds ask of a run holds where the formula was accepted
pub accepted_run : (s : Settings) (i : Input) → Accepted input_limits i → Run s i
accepted_run s i a = record { proper = a.proper; fits = a.fits; formula_few = a.formula_few; leads = sound_leads (log_sound s i a.proper a.fits) }
