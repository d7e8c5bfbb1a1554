-- All choices, in either form: every line is sound.
use mathlib.Core.Path.{◌≡◌, refl, sym, ◌∙◌, subst}
use mathlib.Core.Bool.{false}
use mathlib.Core.List.Memᴰ
use mathlib.Core.List.Memᴰ.{head as here}
use mathlib.Core.List.Memᴰ.{tail as there}
use mathlib.Core.List.{List, [], ◌∷◌, ◌++◌, append_assoc, append-nil, Memᴰ}
use Prim.Native.Nat.{ℕ, ◌≤◌}
use native.Mathlib.Omega.{arith}
use lib.IntN.{ℤ, neg_ℤ}
use lib.ListN.{length}
use Rattle.definition.specs.Lists.{for_each}
use Rattle.definition.specs.Literals.{Clause, Formula, opposes}
use Rattle.definition.specs.Standing.{Line, after}
use Rattle.definition.specs.Events.{Choice, Event}
use Rattle.definition.specs.Clearing.{times}
use Rattle.definition.specs.Counter.{below_new, last_new, counter, take_choice}
use Rattle.definition.specs.Order.{order_events}
use Rattle.definition.specs.Reencoding.{lines_of, lines, Form, counter_form, order_form, choice_events, choices_events}
use Rattle.theory_base.proofs.Tests.{to_false}
use Rattle.theory_base.proofs.Members.{natAbs_neg, opposes_mem}
use Rattle.theory_base.specs.Clauses.{Disjoint, Parted, Same, Fits}
use Rattle.theory_base.proofs.Replay.{after-++, lines-++}
use Rattle.theory_soundness.proofs.Sound.{into_none, Sound, nothing}
use Rattle.theory_soundness.proofs.Times.{times-++, times_none, times_at}
use Rattle.theory_soundness.proofs.Without.{Known}
use Rattle.theory_counter.specs.Ready.{Ready, Other}
use Rattle.theory_base.proofs.Fitting.{fits_up, fits-++}
use Rattle.theory_counter.proofs.CounterLiterals.{counter_absent, counter_fits}
use Rattle.theory_counter.proofs.Front.{well_formed, front_own, front_other, front_kept, front_fits}
use Rattle.theory_counter.specs.Front.{front}
use Rattle.theory_counter.proofs.Counter.{counter_sound, after_choice, counter_known}
use Rattle.theory_room.specs.Choices.{as_choice}
use Rattle.theory_order.proofs.Order.{ordered, order_sound, after_order, ordered_times, ordered_fits, ordered_mem}
use Rattle.theory_order.specs.Pass.{Before}
use Rattle.theory_counter.proofs.NewVariables.{below_new_least}
use mathlib.Core.Logic.{⊎_elim, inl, inr}

none_written : (F : Formula) → Sound F [] (lines []) (after F (lines [])) []
unfolding lines for_each after
none_written F = nothing (λ σ s o. o)

-- what stands after a choice
unfoldable pub after_form : Form → Formula → Choice → Formula
after_form counter_form F k = front F k ++ counter k
after_form order_form F k = ordered (front F k) k

-- ---- one choice
module _ (F : Formula) (b : Clause) (k : Choice) (f : Fits k.below F) (r : Ready F b k) where
  pub before_order : Before (front F k) k
  before_order = record { well_formed = well_formed F b k f r; fits = front_fits F b k f r; absent = front_own F b k f r }

  -- every line is sound, and clauses that go into a choice are known
  choice_sound : (form : Form) {H : Formula} {K L : List Event} {xs : List Line} → Known (last_new k) K (after_form form F k) → Sound (after_form form F k) K xs H L →
      Sound F (choice_events form F b k ++ K) (lines (choice_events form F b k) ++ xs) H L × Known k.below (choice_events form F b k ++ K) F
  unfolding after_form choice_events lines for_each
  choice_sound counter_form w s = (rw append-nil (counter_sound F b k f r s), counter_known F b k f r w)
  choice_sound order_form w s =
      let o = order_sound k (front F k) before_order w s in
      rw (append_assoc, after_choice F b k f r) (counter_sound F b k f r o.0, counter_known F b k f r o.1)

  pub after_events : (form : Form) → after F (lines (choice_events form F b k)) ≡ after_form form F k
  unfolding after_form choice_events lines for_each
  after_events counter_form = rw append-nil (after_choice F b k f r)
  after_events order_form =
      after-++ F (lines_of (take_choice F b k)) (lines (order_events k (after F (lines_of (take_choice F b k)))))
      ∙ (rw (after_choice F b k f r) (after_order k (front F k) before_order))

  pub after_fits : (form : Form) → Fits (last_new k) (after_form form F k)
  unfolding after_form last_new
  after_fits counter_form = fits-++ (last_new k) (front F k) (counter k) (fits_up (last_new k) k.below (front F k) (omega arith) (front_fits F b k f r)) (counter_fits (well_formed F b k f r))
  after_fits order_form = ordered_fits k (front F k) before_order

  -- a clause with no variable in common stays, and its literals stand as often as before
  module _ (c : Clause) (i : Memᴰ c F) (y : ℤ) (j : Memᴰ y c) (d : Disjoint k.literals c) where
    other : (x : ℤ) → Memᴰ x c → Other k x
    other x m = record { small = (f c i x m).1; not_in = λ n. d x n x m refl; not_negated = λ n. d (neg_ℤ x) n x m (natAbs_neg x) }

    in_front : Memᴰ c (front F k)
    in_front = front_kept F b k f r y (other y j) c i j

    unopposed : opposes k.literals c ≡ false
    unopposed = to_false (λ t. let o = opposes_mem k.literals c t in d o.0 o.1 (neg_ℤ o.0) o.2 (sym (natAbs_neg o.0)))

    after_stands : (form : Form) → Memᴰ c (after_form form F k)
    unfolding after_form
    after_stands counter_form = Memᴰ.append_left (counter k) in_front
    after_stands order_form =
        ordered_mem k (front F k) before_order c in_front unopposed y j (other y j).not_in (other y j).not_negated

    after_alone : (form : Form) (x : ℤ) → Memᴰ x c → times x F ≡ 1 → times x (after_form form F k) ≡ 1
    unfolding after_form
    after_alone counter_form x m e =
        omega (arith, times-++ x (front F k) (counter k), times_none x (counter k) (counter_absent k r.long x (other x m)), front_other F b k f r x (other x m))
    after_alone order_form x m e =
        omega (
          arith,
          ordered_times k (front F k) before_order x (other x m).small,
          times_at x (after_stands order_form) m,
          front_other F b k f r x (other x m),
        )

-- ---- all choices

-- what fits the variables used fits those before the new ones
pub fits_below : (g n : ℕ) (F : Formula) → Fits n F → Fits (below_new g n) F
fits_below g n F f = fits_up (below_new g n) n F (below_new_least g n) f

known_below : (g n : ℕ) {K : List Event} {F : Formula} → Known (below_new g n) K F → Known n K F
known_below g n w c i x j = ⊎_elim (λ s. inl s) (λ b. inr (omega (arith, below_new_least g n))) (w c i x j)

some_literal : (c d : Clause) → 2 ≤ length d → Same d c → (y : ℤ) × Memᴰ y c
some_literal c [] h s = absurd (omega arith)
some_literal c (y ∷ d) h s = (y, s.0 y (here refl))

module _ (form : Form) (g : ℕ) (order : Clause → Clause) where
  -- a choice that is ready stays so where another is taken
  pub still_ready : (n m : ℕ) (F : Formula) (c d : Clause) → Fits n F → Ready F c (as_choice g n order c) → Disjoint c d → Ready F d (as_choice g m order d) → Ready (after_form form F (as_choice g n order c)) d (as_choice g m order d)
  still_ready n m F c d f r p v =
      let k = as_choice g n order c in
      let f = fits_below g n F f in
      let y = some_literal d (order d) v.long v.same in
      let apart : Disjoint (order c) d = λ x j. p x (r.same.0 x j) in
      record {
        proper = v.proper;
        proper_clause = v.proper_clause;
        long = v.long;
        standing = after_stands F c k f r d v.standing y.0 y.1 apart form;
        same = v.same;
        alone = λ x j. after_alone F c k f r d v.standing y.0 y.1 apart form x (v.same.0 x j) (v.alone x j);
      }

  pub choices_sound : (n : ℕ) (F : Formula) (cs : List Clause) → Fits n F → ((c : Clause) → Memᴰ c cs → (m : ℕ) → Ready F c (as_choice g m order c)) → Parted cs →
      Sound F (choices_events form g order n F cs) (lines (choices_events form g order n F cs)) (after F (lines (choices_events form g order n F cs))) [] × Known n (choices_events form g order n F cs) F
  unfolding choices_events
  choices_sound n F [] f q p = (none_written F, λ c i. absurd (into_none i))
  choices_sound n F (c ∷ cs) f q p =
      let ih = choices_sound (last_new k) E cs (after_fits F c k low r form) next p.1 in
      let t = subst (λ (X : Formula). Sound F (es ++ more X) (lines es ++ lines (more X)) (after X (lines (more X))) [] × Known n (es ++ more X) F) (sym (after_events F c k low r form)) (let h = choice_sound F c k low r form ih.1 ih.0 in (h.0, known_below g n h.1)) in
      rw (lines-++ es (more (after F (lines es))), after-++ F (lines es) (lines (more (after F (lines es))))) t
    where
      k : Choice
      k = as_choice g n order c

      es : List Event
      es = choice_events form F c k

      more : Formula → List Event
      more X = choices_events form g order (last_new k) X cs

      low : Fits k.below F
      low = fits_below g n F f

      r : Ready F c k
      r = q c (here refl) n

      E : Formula
      E = after_form form F k

      next : (d : Clause) → Memᴰ d cs → (m : ℕ) → Ready E d (as_choice g m order d)
      next d i m = still_ready n m F c d f r (p.0 d i) (q d (there i) m)
