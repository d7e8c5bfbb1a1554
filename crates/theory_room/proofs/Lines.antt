-- Every line of the choices' part of a log is a proper clause, and its variables go no higher than the new ones. What holds of each line of a choice is proved for any property that is `Carried`.
-- Assumes that what stands before the first choice is proper, and that each choice is arranged in a proper order.
use mathlib.Core.Path.{◌≡◌, refl, sym, ◌∙◌, ap, subst}
use mathlib.Core.Logic.{⊎_elim}
use mathlib.Core.Bool.{false, not}
use mathlib.Core.List.Memᴰ
use mathlib.Core.List.Memᴰ.{head as here}
use mathlib.Core.List.Memᴰ.{tail as there}
use mathlib.Core.List.{List, [], ◌∷◌, ◌++◌, map, Memᴰ}
use Prim.Native.Nat.{ℕ, ◌+◌, ◌-◌, ◌*◌, ◌≤◌}
use native.Mathlib.Omega.{arith}
use lib.ListN.{length}
use Rattle.definition.specs.Lists.{sum_of, only_if, for_each}
use Rattle.definition.specs.Literals.{Clause, Formula, opposes, opposed}
use Rattle.definition.specs.Standing.{addition, deletion, literals, after}
use Rattle.definition.specs.Events.{Choice, Event, clause_replaced, literals_deleted}
use Rattle.definition.specs.Counter.{below_new, last_new, size, pairs, counter, copies, take_choice}
use Rattle.definition.specs.Order.{replacement_lines, replaced, replace, order_events, literal_deletions}
use Rattle.definition.specs.Reencoding.{lines_of, lines, Form, counter_form, order_form, choice_events, choices_events}
use Rattle.theory_base.proofs.Tests.{not_true, to_false}
use Rattle.theory_base.proofs.Members.{same_set_same}
use Rattle.theory_base.specs.Clauses.{Proper, Same}
use Rattle.theory_base.proofs.Loops.{only_if_mem, for_each_mem}
use Rattle.theory_base.proofs.Clauses.{same_length}
use Rattle.theory_base.proofs.Fitting.{ProperTo, proper_fit, proper_to_more}
use Rattle.theory_base.proofs.Replay.{after-++, lines-++, after_additions, after_deletions, AllClauses, AllLines, all_after, all_lines-++, all_additions, all_deletions, all_events}
use Rattle.theory_counter.specs.Ready.{WellFormed}
use Rattle.theory_counter.proofs.CounterLiterals.{counter_new}
use Rattle.theory_counter.proofs.Front.{taken_lines_are, copies_mem}
use Rattle.theory_order.proofs.Order.{order_events_are}
use Rattle.theory_order.proofs.Recursive.{deletions}
use Rattle.theory_room.proofs.Choice.{pairs_to, counter_clause, deletions_clause}
use Rattle.theory_room.proofs.Replaced.{replaced_to}
use Rattle.theory_room.specs.Choices.{new_variables, as_choice, used_after}
use Rattle.theory_counter.proofs.NewVariables.{below_new_least, below_new_most, last_new_above}

-- what stands before the counter clauses when a choice is taken where f stands
unfoldable pub before_counter : Choice → Formula → Formula
before_counter c f = after f (map deletion (c.literals ∷ copies f c.literals))

-- the events of a choice
pub data OfChoice (b : Clause) (c : Choice) (f : Formula) : Event → Type 0 where
  taken : OfChoice b c f (take_choice f b c)
  replacing : (d : Clause) → Memᴰ d (before_counter c f) → OfChoice b c f (clause_replaced d (replaced c d))
  deleting : OfChoice b c f (literals_deleted c)

-- what makes P of all that stands before a choice into Q of all its lines, and of what stands after it
pub record Carried (c : Choice) (P Q : Clause → Type 0) : Type 0 where
  pub more : (d : Clause) → P d → Q d
  pub own : P c.literals
  pub of_pairs : AllClauses P (pairs c.literals)
  pub of_counter : AllClauses Q (counter c)
  pub of_deletions : AllClauses Q (deletions c)
  pub of_replaced : (d : Clause) → P d → opposed (replaced c d) ≡ false → Q (replaced c d)

carried_to : (c : Choice) → WellFormed c → Carried c (ProperTo c.below) (ProperTo (last_new c))
unfolding last_new
carried_to c u =
    let own_to : ProperTo c.below c.literals = (u.proper, λ x i. (u.fit x i).1) in
    record {
      more = λ d q. proper_to_more c.below (last_new c) (omega arith) d q;
      own = own_to;
      of_pairs = pairs_to c.below c.literals own_to;
      of_counter = counter_clause c u;
      of_deletions = deletions_clause c u;
      of_replaced = replaced_to c u;
    }

deleted_carried : (c : Choice) (f : Formula) (P Q : Clause → Type 0) → Carried c P Q → AllClauses P (c.literals ∷ copies f c.literals)
deleted_carried c f P Q h d (here e) = rw e h.own
deleted_carried c f P Q h d (there m) = h.of_pairs d (copies_mem f c d m)

module _ (b : Clause) (c : Choice) (u : WellFormed c) (f : Formula) where
  pub after_taken : after f (lines_of (take_choice f b c)) ≡ before_counter c f ++ counter c
  unfolding before_counter
  after_taken =
      let ds = c.literals ∷ copies f c.literals in
      let deleted_to = deleted_carried c f (ProperTo c.below) (ProperTo (last_new c)) (carried_to c u) in
      ap (after f) (taken_lines_are f b c)
      ∙ after-++ f (map addition (counter c)) (map deletion ds)
      ∙ ap (λ (Y : Formula). after Y (map deletion ds)) (after_additions f (counter c))
      ∙ after_deletions f (counter c) ds (λ d m x k. to_false (λ t. counter_new c u.long d (proper_fit (deleted_to d m)) x k (same_set_same d x t)))

  -- the clauses gone through are those before the counter clauses
  pub order_gone_through : order_events c (after f (lines_of (take_choice f b c))) ≡ for_each (before_counter c f) (replace c) ++ (literals_deleted c ∷ [])
  order_gone_through = ap (order_events c) after_taken ∙ order_events_are c (before_counter c f)

  events_of_choice : (form : Form) (e : Event) → Memᴰ e (choice_events form f b c) → OfChoice b c f e
  unfolding choice_events replace
  events_of_choice counter_form e m = rw (Memᴰ.eq_of_singleton m) taken
  events_of_choice order_form e (here q) = rw q taken
  events_of_choice order_form e (there m) =
      ⊎_elim (λ k. let r = for_each_mem (before_counter c f) (replace c) e k in each r.0 r.1 r.2) (λ k. subst (OfChoice b c f) (sym (Memᴰ.eq_of_singleton k)) deleting)
      (Memᴰ.append_cases (for_each (before_counter c f) (replace c)) (rw order_gone_through at m))
    where
      each : (d : Clause) → Memᴰ d (before_counter c f) → Memᴰ e (replace c d) → OfChoice b c f e
      each d i k = rw (Memᴰ.eq_of_singleton (only_if_mem (opposes c.literals d) (clause_replaced d (replaced c d) ∷ []) e k).1) (replacing d i)

  module _ (P Q : Clause → Type 0) (h : Carried c P Q) (a : AllClauses P f) where
    before_counter_carried : AllClauses P (before_counter c f)
    unfolding before_counter
    before_counter_carried =
        let ds = c.literals ∷ copies f c.literals in
        all_after P f (map deletion ds) a (all_deletions P ds (deleted_carried c f P Q h))

    taken_carried : AllLines Q (lines_of (take_choice f b c))
    taken_carried =
        let ds = c.literals ∷ copies f c.literals in
        rw (taken_lines_are f b c)
        (all_lines-++ Q (map addition (counter c)) (map deletion ds) (all_additions Q (counter c) h.of_counter) (all_deletions Q ds (λ d m. h.more d (deleted_carried c f P Q h d m))))

    replacement_carried : (d : Clause) → P d → AllLines Q (replacement_lines d (replaced c d))
    unfolding replacement_lines literals
    replacement_carried d q =
        let r = replaced c d in
        let xs = only_if (not (opposed r)) (addition r ∷ []) in
        all_lines-++ Q xs (deletion d ∷ [])
        (λ x m. let t = only_if_mem (not (opposed r)) (addition r ∷ []) x m in
        rw (Memᴰ.eq_of_singleton t.1) (h.of_replaced d q (not_true t.0)))
        (λ x m. rw (Memᴰ.eq_of_singleton m) (h.more d q))

    pub choice_lines_carried : (form : Form) → AllLines Q (lines (choice_events form f b c))
    unfolding lines_of literal_deletions
    choice_lines_carried form = all_events Q (choice_events form f b c) (λ e m. by_event e (events_of_choice form e m))
      where
        by_event : (e : Event) → OfChoice b c f e → AllLines Q (lines_of e)
        by_event e taken = taken_carried
        by_event e (replacing d m) = replacement_carried d (before_counter_carried d m)
        by_event e deleting = all_deletions Q (deletions c) h.of_deletions

    pub after_choice_carried : (form : Form) → AllClauses Q (after f (lines (choice_events form f b c)))
    after_choice_carried form = all_after Q f (lines (choice_events form f b c)) (λ d m. h.more d (a d m)) (choice_lines_carried form)

  module _ (a : AllClauses (ProperTo c.below) f) where
    pub taken_lines : AllLines (ProperTo (last_new c)) (lines_of (take_choice f b c))
    taken_lines = taken_carried (ProperTo c.below) (ProperTo (last_new c)) (carried_to c u) a

    choice_lines_to : (form : Form) → AllLines (ProperTo (last_new c)) (lines (choice_events form f b c))
    choice_lines_to = choice_lines_carried (ProperTo c.below) (ProperTo (last_new c)) (carried_to c u) a

    pub after_choice_to : (form : Form) → AllClauses (ProperTo (last_new c)) (after f (lines (choice_events form f b c)))
    after_choice_to = after_choice_carried (ProperTo c.below) (ProperTo (last_new c)) (carried_to c u) a

-- ---- all choices, where f stands and n is the highest variable used
-- each choice is a proper clause of two literals at least, and stays so in its order
abbrev pub Arranges : ℕ → (Clause → Clause) → List Clause → Type 0
Arranges n order cs = (c : Clause) → Memᴰ c cs → ProperTo n c × (2 ≤ length c) × Proper (order c) × Same (order c) c

module _ (n : ℕ) (order : Clause → Clause) (cs : List Clause) (h : Arranges n order cs) (c : Clause) (i : Memᴰ c cs) where
  pub ordered_length : length (order c) ≡ length c
  ordered_length = let r = h c i in same_length (order c) c r.2 r.0.0 r.3

  pub ordered_size : (g m : ℕ) → 2 ≤ size (as_choice g m order c)
  unfolding size
  ordered_size g m = let l = (h c i).1 in omega (arith, ordered_length)

  pub ordered_proper : ProperTo n (order c)
  ordered_proper = let r = h c i in (r.2, λ x m. r.0.1 x (r.3.0 x m))

  pub ordered_formed : (g m : ℕ) → n ≤ m → WellFormed (as_choice g m order c)
  ordered_formed g m b = record { proper = ordered_proper.0; long = let l = (h c i).1 in omega (arith, ordered_length); fit = proper_fit (proper_to_more n (below_new g m) (omega (arith, below_new_least g m)) (order c) ordered_proper) }

  pub ordered_new : (g m : ℕ) → last_new (as_choice g m order c) ≡ below_new g m + (length c - 1)
  unfolding last_new
  ordered_new g m = omega (arith, ordered_length)

pub others : (g n : ℕ) (order : Clause → Clause) (c : Clause) (cs : List Clause) → Arranges n order (c ∷ cs) → Arranges (last_new (as_choice g n order c)) order cs
others g n order c cs h d m =
    let r = h d (there m) in
    (proper_to_more n (last_new (as_choice g n order c)) (last_new_above g (order c) n) d r.0, r.1, r.2, r.3)

-- what stands fits the next choice too
pub below_to : (g n : ℕ) (f : Formula) → AllClauses (ProperTo n) f → AllClauses (ProperTo (below_new g n)) f
below_to g n f a d m = proper_to_more n (below_new g n) (below_new_least g n) d (a d m)

pub used_least : (g : ℕ) (order : Clause → Clause) (n : ℕ) (cs : List Clause) → n ≤ used_after g order n cs
unfolding used_after
used_least g order n [] = omega arith
used_least g order n (c ∷ cs) = omega (arith, last_new_above g (order c) n, used_least g order (last_new (as_choice g n order c)) cs)

pub used-++ : (g : ℕ) (order : Clause → Clause) (n : ℕ) (cs ds : List Clause) → used_after g order n (cs ++ ds) ≡ used_after g order (used_after g order n cs) ds
unfolding used_after
used-++ g order n [] ds = refl
used-++ g order n (c ∷ cs) ds = used-++ g order (last_new (as_choice g n order c)) cs ds

-- no more than the sizes and the steps added up
pub used_most : (g : ℕ) (order : Clause → Clause) (n : ℕ) (cs : List Clause) → Arranges n order cs → used_after g order n cs ≤ n + new_variables cs + length cs * g
unfolding used_after new_variables sum_of
used_most g order n [] h = omega arith
used_most g order n (c ∷ cs) h =
    omega (arith, below_new_most g n, ordered_new n order (c ∷ cs) h c (here refl) g n, used_most g order (last_new (as_choice g n order c)) cs (others g n order c cs h))

pub choices_lines_to : (form : Form) (g : ℕ) (order : Clause → Clause) (n : ℕ) (f : Formula) (cs : List Clause) → AllClauses (ProperTo n) f → Arranges n order cs →
    AllLines (ProperTo (used_after g order n cs)) (lines (choices_events form g order n f cs))
unfolding choices_events used_after lines for_each
choices_lines_to form g order n f [] a h = λ x m. absurd (Memᴰ.not-nil m)
choices_lines_to form g order n f (c ∷ cs) a h =
    let k = as_choice g n order c in
    let es = choice_events form f c k in
    let u = ordered_formed n order (c ∷ cs) h c (here refl) g n (omega arith) in
    let b = below_to g n f a in
    let rest = choices_events form g order (last_new k) (after f (lines es)) cs in
    let rest_to = choices_lines_to form g order (last_new k) (after f (lines es)) cs (after_choice_to c k u f b form) (others g n order c cs h) in
    let all : ℕ = used_after g order n (c ∷ cs) in
    rw (lines-++ es rest)
    (all_lines-++ (ProperTo all) (lines es) (lines rest)
    (λ x m. proper_to_more (last_new k) all (used_least g order (last_new k) cs) (literals x) (choice_lines_to c k u f b form x m))
    rest_to)

pub choices_standing_to : (form : Form) (g : ℕ) (order : Clause → Clause) (n : ℕ) (f : Formula) (cs : List Clause) → AllClauses (ProperTo n) f → Arranges n order cs →
    AllClauses (ProperTo (used_after g order n cs)) (after f (lines (choices_events form g order n f cs)))
choices_standing_to form g order n f cs a h =
    let m = used_after g order n cs in
    all_after (ProperTo m) f (lines (choices_events form g order n f cs)) (λ d i. proper_to_more n m (used_least g order n cs) d (a d i)) (choices_lines_to form g order n f cs a h)

-- each event is one of some choice, whose new variables are above n
pub data FromChoices (g n : ℕ) (order : Clause → Clause) (cs : List Clause) : Event → Type 0 where
  from_choice : {e : Event} (m : ℕ) (c : Clause) (f : Formula) → n ≤ m → Memᴰ c cs → OfChoice c (as_choice g m order c) f e → FromChoices g n order cs e

pub events_of_choices : (form : Form) (g : ℕ) (order : Clause → Clause) (n : ℕ) (f : Formula) (cs : List Clause) → Arranges n order cs →
    (e : Event) → Memᴰ e (choices_events form g order n f cs) → FromChoices g n order cs e
unfolding choices_events
events_of_choices form g order n f (c ∷ cs) h e m =
    let k = as_choice g n order c in
    let es = choice_events form f c k in
    let u = ordered_formed n order (c ∷ cs) h c (here refl) g n (omega arith) in
    ⊎_elim (λ m. from_choice n c f (omega arith) (here refl) (events_of_choice c k u f form e m))
    (λ m. later (events_of_choices form g order (last_new k) (after f (lines es)) cs (others g n order c cs h) e m))
    (Memᴰ.append_cases es m)
  where
    later : FromChoices g (last_new (as_choice g n order c)) order cs e → FromChoices g n order (c ∷ cs) e
    later (from_choice m d e b i o) = from_choice m d e (omega (arith, last_new_above g (order c) n)) (there i) o
events_of_choices form g order n f [] h e m = elim m [ ]
