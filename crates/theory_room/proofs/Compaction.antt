-- What stands before a choice leaves room for a step, and all that its events add is no more: clauses that are deleted in between need not be given back.
-- Assumes what a run keeps (`Run`), and that no two choices have a variable in common.
use mathlib.Core.Path.{◌≡◌, refl, sym, ◌∙◌, ap}
use mathlib.Core.Logic.{◌≢◌}
use mathlib.Core.Bool.{Bool, true, false, not, cond}
use mathlib.Core.List.Memᴰ
use mathlib.Core.List.Memᴰ.{head as here}
use mathlib.Core.List.{List, [], ◌∷◌, ◌++◌, append_assoc, append-nil, Memᴰ}
use Prim.Native.Nat.{ℕ, ◌+◌, ◌-◌, ◌*◌, ◌≤◌}
use native.Mathlib.Omega.{arith}
use lib.Dec.{T}
use lib.IntN.{ℤ, neg_ℤ, neg_ℤ-neg_ℤ, nat_abs}
use lib.ListN.{length}
use Rattle.definition.specs.Lists.{bit, count, sum_of, only_if, for_from, for_each}
use Rattle.definition.specs.Literals.{Clause, Formula, holds, same_set, opposes, opposed, literals_of}
use Rattle.definition.specs.Standing.{addition, deletion, take_out, after}
use Rattle.definition.specs.Reading.{Input}
use Rattle.definition.specs.Events.{Choice, Event, clause_replaced, literals_deleted}
use Rattle.definition.specs.Counter.{last_new, size, counter, pairs, take_choice}
use Rattle.definition.specs.Order.{replacement_lines, replaced, replace, order_events, deletions_of, literal_deletions}
use Rattle.definition.specs.Reencoding.{lines_of, lines, Form, counter_form, order_form, Settings, choice_events, choices_events, cleared, chosen, events, result}
use Rattle.definition.specs.Calls.{workspace_need, numbers_of}
use Rattle.theory_base.proofs.Tests.{to_true, of_true, to_false}
use Rattle.theory_base.proofs.Members.{opposes_same, opposes_mem, mem_opposes, holds_false, natAbs_neg, parted_before}
use Rattle.theory_base.specs.Clauses.{Disjoint, Parted}
use Rattle.theory_base.proofs.Replay.{Leads, leads_split, after-++, lines-++, AllClauses, AllLines}
use Rattle.theory_base.proofs.Sums.{sum-++, sum-≤, sum_at, sum_none, sum_those, sum_for_each, count_sum}
use Rattle.theory_base.proofs.Fitting.{UpTo, ProperTo}
use Rattle.theory_base.specs.Cells.{cells_of}
use Rattle.theory_counter.specs.Ready.{WellFormed}
use Rattle.theory_counter.specs.Front.{drop_copies, drop_all, front}
use Rattle.theory_soundness.proofs.Times.{holds_yes}
use Rattle.theory_order.proofs.Replace.{replaced_old}
use Rattle.theory_room.proofs.Weights.{weight, take_out-≤, OfSet, weight_of_set, gained, added, added_deletions, deleted, balance, Raises, raised}
use Rattle.theory_room.proofs.Replaced.{Weighs, replaced_weight}
use Rattle.theory_room.proofs.Lines.{before_counter, taken_lines, after_taken, order_gone_through, OfChoice, Arranges, ordered_length, ordered_size, ordered_proper, ordered_formed, choices_lines_to, choices_standing_to, FromChoices, from_choice, events_of_choices, used_least, below_to}
use Rattle.theory_room.specs.Choices.{new_variables, as_choice, clearing, order_of, events_of_first, standing_after_first, next_choice, used_after}
use Rattle.theory_room.specs.Step.{step_of}
use Rattle.theory_room.proofs.Cleared.{cleared_after}
use Rattle.theory_room.proofs.Runs.{Run, choosing, events_are, standing_to, arranges, chosen_mem, parts_lead, run_raises, clearing_weight, few_new_variables, literal_weight, literal_most, literal_least, weighs, weight_most, weight_least}
use Rattle.theory_room.proofs.Additions.{cells, cells_least, taken_adds}
use Rattle.theory_room.proofs.Chosen.{chosen_few}
use Rattle.theory_room.proofs.Rises.{risen, added_only_if, taken_changes, counter_weight, choice_raises, choices_risen}
use Rattle.theory_counter.proofs.NewVariables.{below_new_least}

-- ---- the weight of the clauses that hold a negated literal of l
unfoldable pub touched : Clause → (Clause → ℕ) → Clause → ℕ
touched l g d = cond (opposes l d) (g d) 0

touched-≤ : (l : Clause) (g : Clause → ℕ) (d : Clause) → touched l g d ≤ g d
unfolding touched
touched-≤ l g d = go (opposes l d)
  where
    go : (b : Bool) → cond b (g d) 0 ≤ g d
    go true = omega arith
    go false = omega arith

touched_of_set : (l : Clause) (g : Clause → ℕ) → OfSet g → OfSet (touched l g)
unfolding touched
touched_of_set l g i c d p q s =
    ap (λ (b : Bool). cond b (g c) 0) (opposes_same l c d s) ∙ ap (λ (n : ℕ). cond (opposes l d) n 0) (i c d p q s)

touched_counts : (l : Clause) (w : ℤ → ℕ) (d : Clause) → bit (opposes l d) ≤ touched l (weight 1 w) d
unfolding touched weight
touched_counts l w d = go (opposes l d)
  where
    go : (b : Bool) → bit b ≤ cond b (weight 1 w d) 0
    go true = omega arith
    go false = omega arith

-- ---- what stands before the counter clauses weighs no more than what stood before the choice
drop_all_weight : (g : Clause → ℕ) (F ps : Formula) → sum_of g (drop_all F ps) ≤ sum_of g F
drop_all_weight g F [] = omega arith
drop_all_weight g F (p ∷ ps) = omega (arith, drop_all_weight g (drop_copies p F) ps, sum_those g (λ d. not (same_set p d)) F)

front_weight : (g : Clause → ℕ) (F : Formula) (k : Choice) → sum_of g (front F k) ≤ sum_of g F
unfolding front
front_weight g F k = omega (arith, drop_all_weight g (take_out k.literals F) (pairs k.literals), take_out-≤ g k.literals F)

-- ---- a choice whose variables are not those of l
module _ (l : Clause) (c : Choice) (u : WellFormed c) (low : UpTo c.below l) (foreign : Disjoint l c.literals) where
  -- 1 for the negation of a literal of l
  against : ℤ → ℕ
  against x = bit (holds (neg_ℤ x) l)

  against_none : (x : ℤ) → ((y : ℤ) → Memᴰ y l → nat_abs y ≢ nat_abs x) → against x ≡ 0
  unfolding against
  against_none x h = ap bit (holds_false (neg_ℤ x) l (λ m. h (neg_ℤ x) m (natAbs_neg x)))

  weighs_nothing : Weighs 0 against c
  weighs_nothing = record {
    of_new = λ x b. omega (arith, against_none x (λ y m e. omega (arith, low y m)));
    of_literal = λ x k. omega (arith, against_none x (λ y m. foreign y m x k));
    of_negated = λ x k. against_none (neg_ℤ x) (λ y m e. foreign y m x k (e ∙ natAbs_neg x));
  }

  against_own : (x : ℤ) → Memᴰ x l → against (neg_ℤ x) ≡ 1
  unfolding against
  against_own x m = rw (neg_ℤ-neg_ℤ x, holds_yes x l m)

  counter_untouched : (d : Clause) → Memᴰ d (counter c) → opposes l d ≡ false
  unfolding weight size
  counter_untouched d m =
      to_false (λ t.
      let r = opposes_mem l d t in
      omega (arith, counter_weight 0 0 against c weighs_nothing u.long, sum_at (weight 0 against) m, sum_at against r.2, against_own r.0 r.1))

  counter_touched : (g : Clause → ℕ) → sum_of (touched l g) (counter c) ≡ 0
  unfolding touched
  counter_touched g = sum_none (touched l g) (counter c) (λ d m. rw (counter_untouched d m))

  replaced_touched : (g : Clause → ℕ) → ((d : Clause) → g (replaced c d) ≤ g d) → (d : Clause) → touched l g (replaced c d) ≤ touched l g d
  unfolding touched
  replaced_touched g h d = go (opposes l (replaced c d)) refl
    where
      old : T (opposes l (replaced c d)) → opposes l d ≡ true
      old t =
          let r = opposes_mem l (replaced c d) t in
          to_true (mem_opposes l d r.0 r.1 (replaced_old c u d (neg_ℤ r.0) (omega (arith, natAbs_neg r.0, low r.0 r.1)) r.2))

      go : (b : Bool) → opposes l (replaced c d) ≡ b → cond b (g (replaced c d)) 0 ≤ cond (opposes l d) (g d) 0
      go true e = let q : cond (opposes l d) (g d) 0 ≡ g d = ap (λ (b : Bool). cond b (g d) 0) (old (of_true e)) in omega (arith, h d)
      go false e = omega arith

  -- none of its events raises the weight of the clauses that hold a negated literal of l
  foreign_raises : (g : Clause → ℕ) → ((d : Clause) → g (replaced c d) ≤ g d) → (b : Clause) (f : Formula) (e : Event) → OfChoice b c f e →
      added (touched l g) (lines_of e) ≤ deleted (touched l g) (lines_of e) + risen 0 e
  foreign_raises g h b f e o = choice_raises (touched l g) 0 b c (omega (arith, counter_touched g)) (replaced_touched g h) f e o

-- ---- what the order form adds for a choice
-- only clauses that hold a negated literal of the choice are replaced
replacement_adds : (v g : Clause → ℕ) (c : Choice) → ((d : Clause) → v (replaced c d) ≤ g d) → (d : Clause) → sum_of (λ e. added v (lines_of e)) (replace c d) ≤ touched c.literals g d
unfolding replace touched only_if sum_of lines_of replacement_lines
replacement_adds v g c h d = go (opposes c.literals d)
  where
    go : (b : Bool) → sum_of (λ e. added v (lines_of e)) (only_if b (clause_replaced d (replaced c d) ∷ [])) ≤ cond b (g d) 0
    go true =
        let b = not (opposed (replaced c d)) in
        omega (arith, sum-++ (gained v) (only_if b (addition (replaced c d) ∷ [])) (deletion d ∷ []), added_only_if v b (replaced c d), h d)
    go false = omega arith

module _ (b : Clause) (c : Choice) (u : WellFormed c) (f : Formula) (a : AllClauses (ProperTo c.below) f)
    (t : Leads f (lines_of (take_choice f b c)) (after f (lines_of (take_choice f b c)))) where
  -- what stands before the counter clauses weighs no more than what stood before the choice
  before_counter_weight : (g : Clause → ℕ) → OfSet g → sum_of g (before_counter c f) ≤ sum_of g f
  before_counter_weight g i =
      omega (
        arith,
        balance g i t (λ d m. (a d m).0) (λ x m. (taken_lines b c u f a x m).0),
        (taken_changes g b c f).0,
        (taken_changes g b c f).1,
        ap (sum_of g) (after_taken b c u f),
        sum-++ g (before_counter c f) (counter c),
      )

  order_adds : (v g : Clause → ℕ) → OfSet g → ((d : Clause) → v (replaced c d) ≤ g d) → added v (lines (order_events c (after f (lines_of (take_choice f b c))))) ≤ sum_of (touched c.literals g) f
  unfolding sum_of lines lines_of literal_deletions
  order_adds v g i h =
      let G = before_counter c f in
      let n : Event → ℕ = λ e. added v (lines_of e) in
      omega (
        arith,
        sum_for_each (gained v) (order_events c (after f (lines_of (take_choice f b c)))) lines_of,
        ap (sum_of n) (order_gone_through b c u f),
        sum-++ n (for_each G (replace c)) (literals_deleted c ∷ []),
        sum_for_each n G (replace c),
        sum-≤ (λ d. sum_of n (replace c d)) (touched c.literals g) G (λ d _. replacement_adds v g c h d),
        added_deletions v (for_from 1 (size c) (deletions_of c)),
        before_counter_weight (touched c.literals g) (touched_of_set c.literals g i),
      )

  events_add : (v g : Clause → ℕ) → OfSet g → ((d : Clause) → v (replaced c d) ≤ g d) → (form : Form) →
      added v (lines (choice_events form f b c)) ≤ added v (lines_of (take_choice f b c)) + sum_of (touched c.literals g) f
  unfolding choice_events lines for_each sum_of
  events_add v g i h counter_form = omega (arith, sum-++ (gained v) (lines_of (take_choice f b c)) [])
  events_add v g i h order_form =
      omega (arith, sum-++ (gained v) (lines_of (take_choice f b c)) (lines (order_events c (after f (lines_of (take_choice f b c))))), order_adds v g i h)

-- ---- the events of the first choices, and those of the others
pub choices_split : (form : Form) (g : ℕ) (order : Clause → Clause) (n : ℕ) (f : Formula) (cs ds : List Clause) →
    choices_events form g order n f (cs ++ ds) ≡ choices_events form g order n f cs ++ choices_events form g order (used_after g order n cs) (after f (lines (choices_events form g order n f cs))) ds
unfolding choices_events used_after lines for_each after
choices_split form g order n f [] ds = refl
choices_split form g order n f (c ∷ cs) ds =
    let k = as_choice g n order c in
    let es = choice_events form f c k in
    let F = after f (lines es) in
    let xs = choices_events form g order (last_new k) F cs in
    let m = used_after g order (last_new k) cs in
    ap (λ (zs : List Event). es ++ zs) (choices_split form g order (last_new k) F cs ds)
    ∙ sym (append_assoc es xs (choices_events form g order m (after F (lines xs)) ds))
    ∙ ap (λ (X : Formula). es ++ xs ++ choices_events form g order m X ds) (sym (ap (after f) (lines-++ es xs) ∙ after-++ f (lines es) (lines xs)))

-- ---- the choices of a run

taken_leads : (form : Form) (f : Formula) (b : Clause) (c : Choice) (es : List Event) {G : Formula} → Leads f (lines (choice_events form f b c ++ es)) G → Leads f (lines_of (take_choice f b c)) (after f (lines_of (take_choice f b c)))
unfolding lines for_each choice_events
taken_leads counter_form f b c es l = (leads_split (lines_of (take_choice f b c)) (lines es) l).0
taken_leads order_form f b c es l = (leads_split (lines_of (take_choice f b c)) (lines (order_events c (after f (lines_of (take_choice f b c))) ++ es)) l).0

module _ (s : Settings) (i : Input) (h : Run s i) (disjoint : Parted (chosen s i)) (cs ds : List Clause) (c : Clause) (e : chosen s i ≡ cs ++ (c ∷ ds)) where
  mem_first : (d : Clause) → Memᴰ d cs → Memᴰ d (chosen s i)
  mem_first d m = rw e (Memᴰ.append_left (c ∷ ds) m)

  mem_next : Memᴰ c (chosen s i)
  mem_next = rw e (Memᴰ.append_right cs (here refl))

  arranges_first : Arranges i.highest (order_of s i) cs
  arranges_first d m = arranges s i h d (mem_first d m)

  events_after : List Event
  events_after = choices_events s.form s.step (order_of s i) (last_new (next_choice s i cs c)) (after (standing_after_first s i cs) (lines (choice_events s.form (standing_after_first s i cs) c (next_choice s i cs c)))) ds

  choosing_split : choosing s i ≡ events_of_first s i cs ++ (choice_events s.form (standing_after_first s i cs) c (next_choice s i cs c) ++ events_after)
  unfolding choosing events_of_first standing_after_first events_after choices_events
  choosing_split =
      ap (choices_events s.form s.step (order_of s i) i.highest (cleared i.formula)) e
      ∙ choices_split s.form s.step (order_of s i) i.highest (cleared i.formula) cs (c ∷ ds)

  -- from what the clearing leaves to what stands before the choice, and on
  first_leads : let F = standing_after_first s i cs in
      Leads (cleared i.formula) (lines (events_of_first s i cs)) F × Leads F (lines (choice_events s.form F c (next_choice s i cs c) ++ events_after)) (result s i)
  unfolding standing_after_first
  first_leads =
      let xs = events_of_first s i cs in
      let ys = choice_events s.form (standing_after_first s i cs) c (next_choice s i cs c) ++ events_after in
      let l = (parts_lead s i h (clearing i.formula) (choosing s i) (events_are s i)).1 in
      let k : Leads (cleared i.formula) (lines (choosing s i)) (result s i) = rw (cleared_after i.formula) l in
      leads_split (lines xs) (lines ys) (rw (ap lines choosing_split ∙ lines-++ xs ys) at k)

  first_lines : AllLines (ProperTo (used_after s.step (order_of s i) i.highest cs)) (lines (events_of_first s i cs))
  unfolding events_of_first
  first_lines = choices_lines_to s.form s.step (order_of s i) i.highest (cleared i.formula) cs (standing_to s i h) arranges_first

  pub first_to : AllClauses (ProperTo (used_after s.step (order_of s i) i.highest cs)) (standing_after_first s i cs)
  unfolding standing_after_first events_of_first
  first_to = choices_standing_to s.form s.step (order_of s i) i.highest (cleared i.formula) cs (standing_to s i h) arranges_first

  next_to : AllClauses (ProperTo (next_choice s i cs c).below) (standing_after_first s i cs)
  next_to = below_to s.step (used_after s.step (order_of s i) i.highest cs) (standing_after_first s i cs) first_to

  heavier : ℕ → ℕ → Clause → ℕ
  heavier u a = weight u (literal_weight a (chosen s i))

  heavier_of_set : (u a : ℕ) → OfSet (heavier u a)
  unfolding heavier
  heavier_of_set u a = weight_of_set u (literal_weight a (chosen s i))

  cleared_weight : (u a : ℕ) → sum_of (heavier u a) (cleared i.formula) ≤ length i.formula * u + literals_of i.formula * (a + a)
  unfolding heavier
  cleared_weight u a =
      let f = i.formula in
      let w = literal_weight a (chosen s i) in
      omega (
        arith,
        clearing_weight s i h u w (clearing f) [] (sym (append-nil (clearing f))),
        ap (sum_of (heavier u a)) (cleared_after f),
        weight_most u (a + a) w (literal_most a (chosen s i)) f,
      )

  first_event : (d : Event) → Memᴰ d (events_of_first s i cs) → Memᴰ d (events s i)
  first_event d m =
      let rest = choice_events s.form (standing_after_first s i cs) c (next_choice s i cs c) ++ events_after in
      rw (events_are s i ∙ ap (λ (zs : List Event). clearing i.formula ++ zs) choosing_split)
      (Memᴰ.append_right (clearing i.formula) (Memᴰ.append_left rest m))

  -- the earlier choices raise the weight of what stands by their counter clauses,
  first_raised : (g : Clause → ℕ) (r : ℕ) → OfSet g → Raises g (risen r) (events_of_first s i cs) →
      sum_of g (standing_after_first s i cs) ≤ sum_of g (cleared i.formula) + new_variables cs * r
  unfolding events_of_first
  first_raised g r o q =
      omega (
        arith,
        raised g (risen r) o (events_of_first s i cs) first_leads.0 (λ d m. (standing_to s i h d m).0) (λ x m. (first_lines x m).0) q,
        choices_risen r s.form s.step (order_of s i) i.highest (cleared i.formula) cs arranges_first,
      )

  -- and that of the clauses with a negated literal of the choice not at all
  first_foreign : (u a : ℕ) → Raises (touched (order_of s i c) (heavier u a)) (risen 0) (events_of_first s i cs)
  unfolding events_of_first heavier
  first_foreign u a d m = by_choice (events_of_choices s.form s.step (order_of s i) i.highest (cleared i.formula) cs arranges_first d m)
    where
      w : ℤ → ℕ
      w = literal_weight a (chosen s i)

      g : Clause → ℕ
      g = touched (order_of s i c) (heavier u a)

      by_choice : FromChoices s.step i.highest (order_of s i) cs d → added g (lines_of d) ≤ deleted g (lines_of d) + risen 0 d
      by_choice (from_choice n b f j k o) =
          let z = as_choice s.step n (order_of s i) b in
          foreign_raises (order_of s i c) z (ordered_formed i.highest (order_of s i) cs arranges_first b k s.step n j)
          (λ x l. omega (arith, below_new_least s.step n, (ordered_proper i.highest (order_of s i) (chosen s i) (arranges s i h) c mem_next).1 x l))
          (λ x l y t q. parted_before cs c ds (rw e at disjoint) b k y ((arranges_first b k).3.0 y t) x ((arranges s i h c mem_next).3.0 x l) (sym q))
          (heavier u a) (replaced_weight a w z (weighs a s.step i.highest n (order_of s i) (chosen s i) (arranges s i h) b (mem_first b k) j) u) b f d o

  -- so these weigh no more than the input
  touched_weight : (u a : ℕ) → sum_of (touched (order_of s i c) (heavier u a)) (standing_after_first s i cs) ≤ length i.formula * u + literals_of i.formula * (a + a)
  touched_weight u a =
      let l = order_of s i c in
      let g = heavier u a in
      omega (
        arith,
        first_raised (touched l g) 0 (touched_of_set l g (heavier_of_set u a)) (first_foreign u a),
        sum-≤ (touched l g) g (cleared i.formula) (λ d _. touched-≤ l g d),
        cleared_weight u a,
      )

  first_new : new_variables cs ≤ new_variables (chosen s i)
  unfolding new_variables sum_of
  first_new = omega (arith, ap new_variables e, sum-++ (λ d. length d - 1) cs (c ∷ ds))

  -- what stands before the choice, and a step
  pub choice_room : cells_of (standing_after_first s i cs) + step_of i ≤ workspace_need i
  unfolding numbers_of workspace_need heavier
  choice_room =
      let F = standing_after_first s i cs in
      let w = literal_weight 3 (chosen s i) in
      omega (
        arith,
        weight_least 1 3 w (literal_least 3 (chosen s i)) F,
        first_raised (heavier 1 3) 40 (weight_of_set 1 w) (λ d m. run_raises s i h 1 3 d (first_event d m)),
        cleared_weight 1 3,
        first_new,
        few_new_variables s i h,
        (chosen_few s i h disjoint).1,
        h.formula_few,
      )

  -- what its events add, in either form
  pub choice_step : (form : Form) → added cells (lines (choice_events form (standing_after_first s i cs) c (next_choice s i cs c))) ≤ step_of i
  unfolding heavier size
  choice_step form =
      let F = standing_after_first s i cs in
      let k = next_choice s i cs c in
      let n = used_after s.step (order_of s i) i.highest cs in
      let w = literal_weight 3 (chosen s i) in
      let least = literal_least 3 (chosen s i) in
      let q : Weighs 3 w k = weighs 3 s.step i.highest n (order_of s i) (chosen s i) (arranges s i h) c mem_next (used_least s.step (order_of s i) i.highest cs) in
      let two = ordered_size i.highest (order_of s i) (chosen s i) (arranges s i h) c mem_next s.step n in
      let u = ordered_formed i.highest (order_of s i) (chosen s i) (arranges s i h) c mem_next s.step n (used_least s.step (order_of s i) i.highest cs) in
      let t = taken_leads s.form F c k events_after first_leads.1 in
      omega (
        arith,
        events_add c k u F next_to t cells (heavier 1 3) (weight_of_set 1 w) (λ d. omega (arith, cells_least w least (replaced k d), replaced_weight 3 w k q 1 d)) form,
        taken_adds w least c k q two F,
        ordered_length i.highest (order_of s i) (chosen s i) (arranges s i h) c mem_next,
        (chosen_mem s i c mem_next).2,
        touched_weight 1 3,
      )

  -- the clauses that it replaces are as many as those of the input at most
  pub choice_touched : let k = next_choice s i cs c in count (opposes k.literals) (front (standing_after_first s i cs) k) ≤ length i.formula
  unfolding heavier
  choice_touched =
      let F = standing_after_first s i cs in
      let k = next_choice s i cs c in
      let g = touched k.literals (heavier 1 0) in
      omega (
        arith,
        count_sum (opposes k.literals) (front F k),
        sum-≤ (λ d. bit (opposes k.literals d)) g (front F k) (λ d _. touched_counts k.literals (literal_weight 0 (chosen s i)) d),
        front_weight g F k,
        touched_weight 1 0,
      )
