-- H is V and the new variables of all choices. Assumes what a run keeps (`Run`).
use mathlib.Core.Path.{◌≡◌, refl, ◌∙◌, ap}
use mathlib.Core.List.Memᴰ.{head as here}
use mathlib.Core.List.Memᴰ.{tail as there}
use mathlib.Core.List.{List, [], ◌∷◌, ◌++◌, map, Memᴰ}
use Prim.Native.Nat.{ℕ, ◌≤◌, max}
use native.Mathlib.Omega.{arith}
use lib.IntN.{ℤ, nat_abs}
use Rattle.definition.specs.Lists.{for_each}
use Rattle.definition.specs.Literals.{Clause, Formula}
use Rattle.definition.specs.Standing.{Line, addition, deletion, literals, highest_in, after}
use Rattle.definition.specs.Reading.{Input}
use Rattle.definition.specs.Events.{Choice}
use Rattle.definition.specs.Counter.{last_new, counter, copies, take_choice}
use Rattle.definition.specs.Order.{order_events}
use Rattle.definition.specs.Reencoding.{lines_of, lines, Form, counter_form, order_form, Settings, choice_events, choices_events, cleared, chosen, log, highest_used}
use Rattle.theory_base.proofs.Fitting.{highest_at, highest_le, highest_in_le}
use Rattle.theory_base.proofs.Replay.{lines-++}
use Rattle.theory_counter.specs.Ready.{WellFormed}
use Rattle.theory_counter.proofs.Front.{taken_lines_are}
use Rattle.theory_order.proofs.Found.{counter_stands}
use Rattle.theory_room.specs.Choices.{clearing, as_choice, order_of, used_after}
use Rattle.theory_room.proofs.Lines.{Arranges, ordered_formed, others, used_least}
use Rattle.theory_room.proofs.Runs.{Run, top, choosing, events_are, arranges, log_to}
use Rattle.theory_counter.proofs.NewVariables.{last_new_above}

-- ---- the highest new variable stands in a line

highest_in-++ : (xs ys : List Line) → highest_in (xs ++ ys) ≡ max (highest_in xs) (highest_in ys)
unfolding highest_in
highest_in-++ [] ys = omega arith
highest_in-++ (x ∷ xs) ys = omega (arith, highest_in-++ xs ys)

added_highest : (d : Clause) (x : ℤ) (cs : List Clause) → Memᴰ d cs → Memᴰ x d → nat_abs x ≤ highest_in (map addition cs)
unfolding highest_in literals
added_highest d x (c ∷ cs) (here e) m = omega (arith, highest_at c x (rw e at m))
added_highest d x (c ∷ cs) (there i) m = omega (arith, added_highest d x cs i m)
added_highest d x [] x3 m = elim x3 [ ]

taken_highest : (c : Clause) (k : Choice) → WellFormed k → (f : Formula) → last_new k ≤ highest_in (lines_of (take_choice f c k))
unfolding last_new
taken_highest c k u f =
    let l = u.long in
    let r = counter_stands k u (last_new k) (omega arith) (omega arith) in
    omega (
      arith,
      ap highest_in (taken_lines_are f c k),
      highest_in-++ (map addition (counter k)) (map deletion (k.literals ∷ copies f k.literals)),
      added_highest r.0 r.2 (counter k) r.1 r.3,
      r.4,
    )

choice_highest : (form : Form) (c : Clause) (k : Choice) → WellFormed k → (f : Formula) → last_new k ≤ highest_in (lines (choice_events form f c k))
unfolding choice_events lines for_each
choice_highest counter_form c k u f = omega (arith, taken_highest c k u f, highest_in-++ (lines_of (take_choice f c k)) [])
choice_highest order_form c k u f = omega (arith, taken_highest c k u f, highest_in-++ (lines_of (take_choice f c k)) (lines (order_events k (after f (lines_of (take_choice f c k))))))

choices_highest : (form : Form) (g : ℕ) (order : Clause → Clause) (n : ℕ) (f : Formula) (cs : List Clause) → Arranges n order cs → used_after g order n cs ≤ max n (highest_in (lines (choices_events form g order n f cs)))
unfolding choices_events used_after
choices_highest form g order n f [] h = omega arith
choices_highest form g order n f (c ∷ cs) h =
    let k = as_choice g n order c in
    let es = choice_events form f c k in
    let rest = choices_events form g order (last_new k) (after f (lines es)) cs in
    omega (
      arith,
      last_new_above g (order c) n,
      choice_highest form c k (ordered_formed n order (c ∷ cs) h c (here refl) g n (omega arith)) f,
      choices_highest form g order (last_new k) (after f (lines es)) cs (others g n order c cs h),
      ap highest_in (lines-++ es rest),
      highest_in-++ (lines es) (lines rest),
    )

-- ---- of a run
module _ (s : Settings) (i : Input) (h : Run s i) where
  pub highest_is : highest_used s i ≡ used_after s.step (order_of s i) i.highest (chosen s i)
  unfolding highest_used log choosing
  highest_is =
      let f = i.formula in
      omega (
        arith,
        highest_in_le (top s i) (log s i) (λ x m. highest_le (top s i) (literals x) (log_to s i h x m).1),
        used_least s.step (order_of s i) i.highest (chosen s i),
        choices_highest s.form s.step (order_of s i) i.highest (cleared f) (chosen s i) (arranges s i h),
        ap highest_in (ap lines (events_are s i) ∙ lines-++ (clearing f) (choosing s i)),
        highest_in-++ (lines (clearing f)) (lines (choosing s i)),
      )
