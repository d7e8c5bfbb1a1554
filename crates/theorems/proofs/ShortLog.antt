-- The log is short: along the events of a run, each writes as many lines as are counted where it happens.
use mathlib.Core.Logic.{⊎_elim}
use mathlib.Core.Path.{◌≡◌, refl, sym, subst}
use mathlib.Core.Bool.{Bool, true, false, not}
use mathlib.Core.List.Memᴰ
use mathlib.Core.List.Memᴰ.{head as here}
use mathlib.Core.List.Memᴰ.{tail as there}
use mathlib.Core.List.{List, [], ◌∷◌, ◌++◌, Memᴰ}
use Prim.Native.Nat.{ℕ, ◌≤◌, ◌-◌}
use native.Mathlib.Omega.{arith}
use lib.IntN.{neg_ℤ}
use lib.ListN.{length, take, length-append}
use Rattle.definition.specs.Lists.{for_each, only_if}
use Rattle.definition.specs.Literals.{Clause, Formula, opposes, opposed, with_first}
use Rattle.definition.specs.Standing.{Line, addition, deletion, after}
use Rattle.definition.specs.Reading.{Input}
use Rattle.definition.specs.Events.{Choice, Event, clash_cleared, pure_deleted, choice_taken, clause_replaced, literals_deleted}
use Rattle.definition.specs.Clearing.{resolvent, clash_lines, pure_lines}
use Rattle.definition.specs.Counter.{last_new, size, counter, take_choice}
use Rattle.definition.specs.Order.{replaced, replace, order_events}
use Rattle.definition.specs.Reencoding.{Form, counter_form, order_form, Settings, lines_of, lines, choice_events, choices_events, cleared, chosen, events, log}
use Rattle.theory_base.specs.Clauses.{Proper}
use Rattle.theory_base.proofs.Loops.{for_each_mem, only_if_mem}
use Rattle.theory_base.proofs.Replay.{after-++}
use Rattle.theory_counter.proofs.Front.{taken_length}
use Rattle.theory_text.proofs.Accepted.{input_accepted}
use Rattle.theory_room.specs.Choices.{as_choice, clearing, order_of}
use Rattle.theory_room.proofs.Cleared.{Clearing, clash, pure_clause, clearing_event, cleared_after}
use Rattle.theory_room.proofs.Lines.{Arranges, ordered_proper, ordered_size, others}
use Rattle.theory_room.proofs.Runs.{Run, choosing, events_are, arranges}
use Rattle.theory_run.proofs.LogSound.{accepted_run}
use Rattle.theorems.specs.ShortLog.{pair_copies, choice_length, most, most_of, ShortLogHolds}

-- ---- what holds of each event and what stands where it happens
abbrev Along : (Formula → Event → Type 0) → Formula → List Event → Type 0
Along P f [] = Unit {0}
Along P f (e ∷ es) = P f e × Along P (after f (lines_of e)) es

module _ (P : Formula → Event → Type 0) where
  along-++ : (f : Formula) (xs ys : List Event) → Along P f xs → Along P (after f (lines xs)) ys → Along P f (xs ++ ys)
  unfolding lines for_each after
  along-++ f [] ys a b = b
  along-++ f (e ∷ xs) ys a b = (a.0, along-++ (after f (lines_of e)) xs ys a.1 (subst (λ (X : Formula). Along P X ys) (after-++ f (lines_of e) (lines xs)) b))

  along_at : (f : Formula) (xs : List Event) (e : Event) (ys : List Event) → Along P f (xs ++ (e ∷ ys)) → P (after f (lines xs)) e
  unfolding lines for_each after
  along_at f [] e ys a = a.0
  along_at f (x ∷ xs) e ys a = subst (λ (X : Formula). P X e) (sym (after-++ f (lines_of x) (lines xs))) (along_at (after f (lines_of x)) xs e ys a.1)

  along_each : (f : Formula) (es : List Event) → ((e : Event) → Memᴰ e es → (g : Formula) → P g e) → Along P f es
  along_each f [] h = tt
  along_each f (e ∷ es) h = (h e (here refl) f, along_each (after f (lines_of e)) es (λ x i. h x (there i)))

-- a choice writes exactly its lines
abbrev Exact : Formula → Event → Type 0
Exact f (choice_taken c k copies) = length (lines_of (choice_taken c k copies)) ≡ choice_length f k
Exact f (clash_cleared c) = Unit {0}
Exact f (pure_deleted l c) = Unit {0}
Exact f (clause_replaced old result) = Unit {0}
Exact f (literals_deleted k) = Unit {0}

-- an event writes no more than its lines
abbrev Bounded : Formula → Event → Type 0
Bounded f e = length (lines_of e) ≤ most f e

bounded_length : (f : Formula) (es : List Event) → Along Bounded f es → length (lines es) ≤ most_of f es
unfolding most_of lines for_each
bounded_length f [] a = omega arith
bounded_length f (e ∷ es) a = omega (arith, length-append (lines_of e) (lines es), a.0, bounded_length (after f (lines_of e)) es a.1)

-- ---- clearing
clearing_exact : (e : Event) → Clearing e → (g : Formula) → Exact g e
clearing_exact e (clash c) g = tt
clearing_exact e (pure_clause l c) g = tt

clearing_bounded : (e : Event) → Clearing e → (g : Formula) → Bounded g e
unfolding lines_of clash_lines pure_lines most only_if
clearing_bounded e (clash c) g = go (opposed (resolvent c))
  where
    ds : List Line
    ds = deletion (with_first c.v c.one) ∷ deletion (with_first (neg_ℤ c.v) c.other) ∷ []

    go : (b : Bool) → length (only_if (not b) (addition (resolvent c) ∷ []) ++ ds) ≤ 3
    go true = omega arith
    go false = omega arith
clearing_bounded e (pure_clause l c) g = omega arith

-- ---- the choices
module _ (f : Formula) (c : Clause) (k : Choice) (p : Proper k.literals) (b : 2 ≤ length k.literals) where
  taken_exact : Exact f (take_choice f c k)
  unfolding take_choice choice_length pair_copies
  taken_exact = taken_length f c k p b

  taken_bounded : Bounded f (take_choice f c k)
  unfolding take_choice most
  taken_bounded = omega (arith, taken_exact)

order_exact : (k : Choice) (F : Formula) (e : Event) → Memᴰ e (order_events k F) → (g : Formula) → Exact g e
unfolding order_events replace
order_exact k F e m g =
    ⊎_elim (λ i. let r = for_each_mem _ (replace k) e i in by_clause r.0 r.2) (λ i. subst (Exact g) (sym (Memᴰ.eq_of_singleton i)) tt)
    (Memᴰ.append_cases (for_each (take (length F - length (counter k)) F) (replace k)) m)
  where
    by_clause : (d : Clause) → Memᴰ e (replace k d) → Exact g e
    by_clause d i = subst (Exact g) (sym (Memᴰ.eq_of_singleton (only_if_mem (opposes k.literals d) (clause_replaced d (replaced k d) ∷ []) e i).1)) tt

choice_exact : (form : Form) (f : Formula) (c : Clause) (k : Choice) → Proper k.literals → 2 ≤ length k.literals → Along Exact f (choice_events form f c k)
unfolding choice_events
choice_exact counter_form f c k p b = (taken_exact f c k p b, tt)
choice_exact order_form f c k p b =
    let F = after f (lines_of (take_choice f c k)) in
    (taken_exact f c k p b, along_each Exact F (order_events k F) (order_exact k F))

choice_bounded : (f : Formula) (c : Clause) (k : Choice) → Proper k.literals → 2 ≤ length k.literals → Along Bounded f (choice_events counter_form f c k)
unfolding choice_events
choice_bounded f c k p b = (taken_bounded f c k p b, tt)

-- what holds of the events of each choice holds along all of them
module _ (P : Formula → Event → Type 0) (form : Form) (each : (f : Formula) (c : Clause) (k : Choice) → Proper k.literals → 2 ≤ length k.literals → Along P f (choice_events form f c k)) (g : ℕ) (order : Clause → Clause) where
  choices_along : (n : ℕ) (f : Formula) (cs : List Clause) → Arranges n order cs → Along P f (choices_events form g order n f cs)
  unfolding choices_events size
  choices_along n f [] h = tt
  choices_along n f (c ∷ cs) h =
      let k = as_choice g n order c in
      let es = choice_events form f c k in
      along-++ P f es (choices_events form g order (last_new k) (after f (lines es)) cs)
      (each f c k (ordered_proper n order (c ∷ cs) h c (here refl)).0 (ordered_size n order (c ∷ cs) h c (here refl) g n))
      (choices_along (last_new k) (after f (lines es)) cs (others g n order c cs h))

-- ---- a run
module _ (s : Settings) (i : Input) (h : Run s i) where
  -- the clearing, and then the choices
  run_along : (P : Formula → Event → Type 0) → ((e : Event) → Clearing e → (g : Formula) → P g e) → Along P (cleared i.formula) (choosing s i) → Along P i.formula (events s i)
  run_along P c a =
      let f = i.formula in
      rw (events_are s i)
      (along-++ P f (clearing f) (choosing s i) (along_each P f (clearing f) (λ e m. c e (clearing_event f e m))) (subst (λ (X : Formula). Along P X (choosing s i)) (cleared_after f) a))

  run_exact : Along Exact i.formula (events s i)
  unfolding choosing
  run_exact = run_along Exact clearing_exact (choices_along Exact s.form (choice_exact s.form) s.step (order_of s i) i.highest (cleared i.formula) (chosen s i) (arranges s i h))

  run_bounded : s.form ≡ counter_form → Along Bounded i.formula (events s i)
  unfolding choosing
  run_bounded e =
      let F = cleared i.formula in
      run_along Bounded clearing_bounded
      (subst (λ (form : Form). Along Bounded F (choices_events form s.step (order_of s i) i.highest F (chosen s i))) (sym e) (choices_along Bounded counter_form choice_bounded s.step (order_of s i) i.highest F (chosen s i) (arranges s i h)))

pub short_log : ShortLogHolds
unfolding ShortLogHolds log
short_log t i e s =
    let r = accepted_run s i (input_accepted t i e) in
    record {
      exact = λ before later c k copies q. along_at Exact i.formula before (choice_taken c k copies) later (subst (Along Exact i.formula) q (run_exact s i r));
      at_most = λ q. bounded_length i.formula (events s i) (run_bounded s i r q);
    }
