-- Deleting clauses for a pure literal: what is found, that every line is sound, and what is left.
use mathlib.Core.Path.{◌≡◌, refl, sym, ◌∙◌, ap, subst}
use mathlib.Core.Logic.{inl, inr, ⊎_elim}
use mathlib.Core.Bool.{Bool, true, false, not, cond}
use mathlib.Core.List.Memᴰ.{head as here}
use mathlib.Core.List.Memᴰ.{tail as there}
use mathlib.Core.List.{List, [], ◌∷◌, ◌++◌, append_assoc, Memᴰ}
use mathlib.Core.Option.{Option, some, none}
use Prim.Native.Nat.{ℕ}
use native.Mathlib.Omega.{arith}
use lib.Dec.{T, eqb→eq}
use lib.IntN.{ℤ, neg_ℤ}
use Rattle.definition.specs.Lists.{bit, first, for_each}
use Rattle.definition.specs.Literals.{Clause, Formula, with_first}
use Rattle.definition.specs.Standing.{Line, literals, changed, after}
use Rattle.definition.specs.Events.{Event, pure_deleted}
use Rattle.definition.specs.Clearing.{times, unique, pure, choice_size, deletable, pure_literal, pure_lines, pure_next, clear_pure_from, clear_pure}
use Rattle.definition.specs.Reencoding.{lines_of, lines, GoesInto, later}
use Rattle.theory_base.proofs.Tests.{of_true, not_true, differ, and_l, and_r}
use Rattle.theory_base.proofs.Members.{holds_false}
use Rattle.theory_base.specs.Clauses.{ProperAll, Fits, Absent}
use Rattle.theory_base.proofs.Removal.{Removed, removed_take_out, mem_removed, split}
use Rattle.theory_soundness.proofs.Sound.{Into, Sound, weaken}
use Rattle.theory_soundness.proofs.Rules.{del_blocked}
use Rattle.theory_soundness.proofs.Times.{holds_yes, times_removed, none_times, one_clause, unique_at, unique_some, at_unique}
use Rattle.theory_soundness.proofs.Without.{first_same, first_proper, Known, clear_absent, only_removed}
use Rattle.theory_base.proofs.Loops.{none_some, first_some}
use Rattle.theory_base.proofs.Fitting.{highest_le, LineFits}

-- ---- what is found
pub record IsPure (F : Formula) (d : Clause) (l : ℤ) : Type 0 where
  pub stands : Memᴰ d F
  pub literal : Memᴰ l d
  pub alone : T (unique F d)
  pub no_choice : choice_size d ≡ false
  pub nowhere : times (neg_ℤ l) F ≡ 0

pub pure_some : (F : Formula) (d : Clause) (l : ℤ) → Memᴰ d F → pure_literal F d ≡ some l → IsPure F d l
unfolding pure_literal deletable pure
pure_some F d l i e = go (deletable F d) refl e
  where
    go : (b : Bool) → deletable F d ≡ b → cond b (first (pure F) d) none ≡ some l → IsPure F d l
    go true t e =
        let r = first_some (pure F) d l e in
        record {
          stands = i;
          literal = r.0;
          alone = and_l (unique F d) (not (choice_size d)) (of_true t);
          no_choice = not_true (and_r (unique F d) (not (choice_size d)) (of_true t));
          nowhere = eqb→eq (times (neg_ℤ l) F) 0 r.1;
        }
    go false t e = none_some e

-- ---- one deletion
module _ (F E : Formula) (d : Clause) (l : ℤ) (q : IsPure F d l) (r : Removed (with_first l d) F E) where
  -- no literal of the clause stands in what is left
  gone : (x : ℤ) → Memᴰ x d → times x E ≡ 0
  gone x i = omega (arith, unique_at F d q.alone x i, times_removed x r, ap bit (holds_yes x (with_first l d) ((first_same l d q.literal).1 x i)))

  literal_gone : Absent l E
  literal_gone = none_times l E (gone l q.literal)

  negation_gone : Absent (neg_ℤ l) E
  negation_gone = none_times (neg_ℤ l) E (omega (arith, q.nowhere, times_removed (neg_ℤ l) r))

  -- the literals of the other clauses stand as often as before
  others_same : (x : ℤ) (c : Clause) → Memᴰ c E → Memᴰ x c → times x F ≡ times x E
  others_same x c i j =
      omega (
        arith,
        times_removed x r,
        ap bit (holds_false x (with_first l d) (λ m. none_times x E (gone x ((first_same l d q.literal).0 x m)) c i j)),
      )

-- ---- the deletions one after another
pub data Eliminates : Formula → List Event → Formula → Type 0 where
  no_more : {F : Formula} → Eliminates F [] F
  next : {F E G : Formula} {d : Clause} {l : ℤ} {es : List Event} → IsPure F d l → Removed (with_first l d) F E → Eliminates E es G → Eliminates F (pure_deleted l d ∷ es) G

pub eliminates_mem : {F G : Formula} {es : List Event} → Eliminates F es G → (c : Clause) → Memᴰ c G → Memᴰ c F
eliminates_mem no_more c i = i
eliminates_mem (next q r s) c i = mem_removed r (eliminates_mem s c i)

pub eliminates_times : {F G : Formula} {es : List Event} → Eliminates F es G → (x : ℤ) (c : Clause) → Memᴰ c G → Memᴰ x c → times x F ≡ times x G
eliminates_times no_more x c i j = refl
eliminates_times {F} (next {E = E} {d = d} {l = l} q r s) x c i j = others_same F E d l q r x c (eliminates_mem s c i) j ∙ eliminates_times s x c i j

-- the first with its literals is the one that is looked at

pub pure_removed : (X F : Formula) (d : Clause) (l : ℤ) → IsPure (X ++ (d ∷ F)) d l → Removed (with_first l d) (X ++ (d ∷ F)) (X ++ F)
pure_removed X F d l q = only_removed l d X F q.literal (unique_at (X ++ (d ∷ F)) d q.alone l q.literal)

from_eliminates : (X F : Formula) → Eliminates (X ++ F) (clear_pure_from X F) (after (X ++ F) (lines (clear_pure_from X F)))
unfolding clear_pure_from pure_next lines lines_of pure_lines for_each after changed
from_eliminates X [] = no_more
from_eliminates X (d ∷ F) = go (pure_literal (X ++ (d ∷ F)) d) refl (from_eliminates (X ++ (d ∷ [])) F) (from_eliminates X F)
  where
    go : (o : Option ℤ) → pure_literal (X ++ (d ∷ F)) d ≡ o →
        Eliminates ((X ++ (d ∷ [])) ++ F) (clear_pure_from (X ++ (d ∷ [])) F) (after ((X ++ (d ∷ [])) ++ F) (lines (clear_pure_from (X ++ (d ∷ [])) F))) →
        Eliminates (X ++ F) (clear_pure_from X F) (after (X ++ F) (lines (clear_pure_from X F))) →
        Eliminates (X ++ (d ∷ F)) (pure_next d (clear_pure_from (X ++ (d ∷ [])) F) (clear_pure_from X F) o)
        (after (X ++ (d ∷ F)) (lines (pure_next d (clear_pure_from (X ++ (d ∷ [])) F) (clear_pure_from X F) o)))
    go none e left deleted = simp append_assoc at left
    go (some l) e left deleted =
        let q = pure_some (X ++ (d ∷ F)) d l (mathlib.Core.List.Memᴰ.append_right X (here refl)) e in
        let r = pure_removed X F d l q in
        subst (λ (Z : Formula). Eliminates (X ++ (d ∷ F)) (pure_deleted l d ∷ clear_pure_from X F) (after Z (lines (clear_pure_from X F)))) (sym (removed_take_out r)) (next q r deleted)

-- a clause goes into a choice after the deletion
into_later : {l : ℤ} {d : Clause} {es : List Event} (c : Clause) → Into (pure_deleted l d ∷ es) c → Into es c
into_later {l} {d} {es} c i = go i.goes
  where
    go : GoesInto i.choice (pure_deleted l d ∷ es) c → Into es c
    go (later g) = record { choice = i.choice; goes = g }

eliminates_sound : {h : ℕ} {F E G : Formula} {es rest L : List Event} {xs : List Line} → Fits h F → Eliminates F es E → Known h rest E →
    Sound E rest xs G L → Sound F (es ++ rest) (lines es ++ xs) G L × Known h (es ++ rest) F
unfolding lines lines_of pure_lines for_each with_first
eliminates_sound f no_more w s = (s, w)
eliminates_sound {h} {F} {rest = rest} f (next {E = E} {d = d} {l = l} {es = es} q r t) w s =
    let k = eliminates_sound (λ c i. f c (mem_removed r i)) t w s in (
      weaken (λ σ u o c i. o c (into_later c i))
          (del_blocked r (negation_gone F E d l q r)
          (clear_absent h l (es ++ rest) E k.1 (f d q.stands l q.literal).1 (literal_gone F E d l q r) (negation_gone F E d l q r)) k.0),
      λ c i x j. ⊎_elim (λ n. inl (n.0, mem_removed r n.1, n.2, n.3, n.4)) (λ b. inr b) (k.1 c (into_later c i) x j),
    )

pub eliminates_lines_fit : {h : ℕ} {F G : Formula} {es : List Event} → ProperAll F → Fits h F → Eliminates F es G → (x : Line) → Memᴰ x (lines es) → LineFits h x
unfolding lines lines_of pure_lines for_each literals
eliminates_lines_fit {h} p f (next {d = d} {l = l} q r s) x (here e) = rw e
    (first_proper l d (p d q.stands) q.literal, highest_le h (with_first l d) (λ y j. (f d q.stands y ((first_same l d q.literal).0 y j)).1))
eliminates_lines_fit p f (next q r s) x (there i) = eliminates_lines_fit (λ c j. p c (mem_removed r j)) (λ c j. f c (mem_removed r j)) s x i
eliminates_lines_fit {h = h} p f (no_more {F = F}) x x18 = elim x18 [ ]

-- a ULC of what is left was one before
pub eliminates_unique : {F G : Formula} {es : List Event} → Eliminates F es G → (c : Clause) → Memᴰ c G → T (unique G c) → T (unique F c)
eliminates_unique {F} {G} s c i t = at_unique F c (unique_some G c t) (λ x j. eliminates_times s x c i j ∙ unique_at G c t x j)

-- and one before is one of what is left, if it stands there
pub unique_after : {F G : Formula} {es : List Event} → Eliminates F es G → (c : Clause) → Memᴰ c G → T (unique F c) → T (unique G c)
unique_after {F} {G} s c i t = at_unique G c (unique_some F c t) (λ x j. sym (eliminates_times s x c i j) ∙ unique_at F c t x j)

-- a unique literal clause of a choice's size stays
pub eliminates_keeps : {F G : Formula} {es : List Event} → Eliminates F es G → (c : Clause) → Memᴰ c F → T (unique F c) → T (choice_size c) → Memᴰ c G
eliminates_keeps no_more c i t u = i
eliminates_keeps {F} (next {E = E} {d = d} {l = l} q r s) c i t u =
    let other : Memᴰ l c → ⊥ = λ m. differ {b = choice_size c} u (rw (one_clause l F (unique_at F c t l m) c d i m q.stands q.literal) q.no_choice) in
    let j : Memᴰ c E = ⊎_elim (λ e. absurd (other (e.0 l ((first_same l d q.literal).1 l q.literal)))) (λ j. j) (split r i) in
    eliminates_keeps s c j (unique_after (next q r no_more) c j t) u

-- ---- the whole pass
pub pure_eliminates : (F : Formula) → Eliminates F (clear_pure F) (after F (lines (clear_pure F)))
unfolding clear_pure
pure_eliminates F = from_eliminates [] F

pub pure_sound : (h : ℕ) (F : Formula) (rest : List Event) {G : Formula} {L : List Event} {xs : List Line} → Fits h F → Known h rest (after F (lines (clear_pure F))) →
    Sound (after F (lines (clear_pure F))) rest xs G L → Sound F (clear_pure F ++ rest) (lines (clear_pure F) ++ xs) G L × Known h (clear_pure F ++ rest) F
pure_sound h F rest f w s = eliminates_sound f (pure_eliminates F) w s
