-- A whole run: its lines are proper clauses, and the weight of what stands rises no more than by its choices.
use mathlib.Core.Path.{◌≡◌, refl, sym, ◌∙◌, ap}
use mathlib.Core.Logic.{◌⊎◌, inl, inr, ⊎_elim}
use mathlib.Core.Bool.{Bool, true, false, cond, ◌&&◌}
use mathlib.Core.List.Memᴰ
use mathlib.Core.List.{List, [], ◌∷◌, ◌++◌, Memᴰ, append-nil, append_assoc}
use Prim.Native.Nat.{ℕ, ◌+◌, ◌-◌, ◌*◌, ◌≤◌}
use native.Mathlib.Omega.{arith}
use lib.Dec.{T}
use lib.IntN.{ℤ, neg_ℤ, neg_ℤ-neg_ℤ, nat_abs}
use lib.ListN.{length}
use Rattle.definition.specs.Lists.{sum_of}
use Rattle.definition.specs.Literals.{Clause, Formula, holds, literals_of}
use Rattle.definition.specs.Standing.{literals, after}
use Rattle.definition.specs.Reading.{Input}
use Rattle.definition.specs.Events.{Event}
use Rattle.definition.specs.Clearing.{unique, choice_size}
use Rattle.definition.specs.Counter.{choices}
use Rattle.definition.specs.Alignment.{choice_literals}
use Rattle.definition.specs.Reencoding.{lines_of, lines, Settings, choices_events, cleared, chosen, events, log, result}
use Rattle.theory_base.proofs.Tests.{and_l, and_r}
use Rattle.theory_base.proofs.Members.{those_mem, holds_false, natAbs_neg}
use Rattle.theory_base.specs.Clauses.{Proper, ProperAll, Fits}
use Rattle.theory_base.proofs.Clauses.{choice_size_within}
use Rattle.theory_base.proofs.Replay.{Leads, leads_split, lines-++, AllClauses, AllLines, all_lines-++}
use Rattle.theory_base.proofs.Loops.{for_each_mem, mem_for_each}
use Rattle.theory_base.proofs.Sums.{sum-++, sum-≤, sum_those, sum_most, sum_least}
use Rattle.theory_base.proofs.Fitting.{ProperTo, proper_to_more}
use Rattle.theory_soundness.proofs.Times.{holds_yes}
use Rattle.theory_alignment.proofs.Aligned.{arranged_keeps}
use Rattle.theory_room.proofs.Weights.{added, deleted, weight, weight_of_set, Raises, raised}
use Rattle.theory_room.proofs.Replaced.{Weighs, replaced_weight}
use Rattle.theory_room.proofs.Lines.{Arranges, ordered_size, choices_lines_to, FromChoices, from_choice, events_of_choices, used_least, used_most}
use Rattle.theory_room.specs.Choices.{new_variables, as_choice, clearing, order_of, used_after}
use Rattle.theory_room.proofs.Cleared.{Clearing, clearing_event, cleared_after, clearing_lines_to, cleared_to}
use Rattle.theory_room.proofs.Rises.{risen, counter_weight, clearing_raises, choice_raises, clearing_risen, choices_risen, unit}
use Rattle.theory_counter.proofs.NewVariables.{below_new_least}

-- what is known of a run: its input is proper, and its deletions find their clauses
pub record Run (s : Settings) (i : Input) : Type 0 where
  pub proper : ProperAll i.formula
  pub fits : Fits i.highest i.formula
  pub formula_few : length i.formula ≤ i.clauses
  pub leads : Leads i.formula (log s i) (result s i)

-- ---- the weight of a formula, by its clauses and literals
pub weight_most : (u b : ℕ) (w : ℤ → ℕ) → ((x : ℤ) → w x ≤ b) → (f : Formula) → sum_of (weight u w) f ≤ length f * u + literals_of f * b
unfolding sum_of weight literals_of
weight_most u b w h [] = omega arith
weight_most u b w h (c ∷ f) = omega (arith, sum_most b w h c, weight_most u b w h f)

pub weight_least : (u b : ℕ) (w : ℤ → ℕ) → ((x : ℤ) → b ≤ w x) → (f : Formula) → length f * u + literals_of f * b ≤ sum_of (weight u w) f
unfolding sum_of weight literals_of
weight_least u b w h [] = omega arith
weight_least u b w h (c ∷ f) = omega (arith, sum_least b w h c, weight_least u b w h f)

-- ---- a literal's weight: twice a, where its negation is a choice's
unfoldable pub literal_weight : ℕ → List Clause → ℤ → ℕ
literal_weight a cs x = cond (holds (neg_ℤ x) (choice_literals cs)) (a + a) a

pub literal_most : (a : ℕ) (cs : List Clause) (x : ℤ) → literal_weight a cs x ≤ a + a
unfolding literal_weight
literal_most a cs x = go (holds (neg_ℤ x) (choice_literals cs))
  where
    go : (b : Bool) → cond b (a + a) a ≤ a + a
    go true = omega arith
    go false = omega arith

pub literal_least : (a : ℕ) (cs : List Clause) (x : ℤ) → a ≤ literal_weight a cs x
unfolding literal_weight
literal_least a cs x = go (holds (neg_ℤ x) (choice_literals cs))
  where
    go : (b : Bool) → a ≤ cond b (a + a) a
    go true = omega arith
    go false = omega arith

heavy : (a : ℕ) (cs : List Clause) (x : ℤ) → Memᴰ x (choice_literals cs) → literal_weight a cs (neg_ℤ x) ≡ a + a
unfolding literal_weight
heavy a cs x m = rw (neg_ℤ-neg_ℤ x, holds_yes x (choice_literals cs) m)

light : (a : ℕ) (cs : List Clause) (x : ℤ) → (Memᴰ (neg_ℤ x) (choice_literals cs) → ⊥) → literal_weight a cs x ≡ a
unfolding literal_weight
light a cs x n = rw (holds_false (neg_ℤ x) (choice_literals cs) n)

choice_variable : (n : ℕ) (order : Clause → Clause) (cs : List Clause) → Arranges n order cs → (x : ℤ) → Memᴰ x (choice_literals cs) → nat_abs x ≤ n
unfolding choice_literals
choice_variable n order cs h x m = let r = for_each_mem cs (λ c. c) x m in (h r.0 r.1).0.1 x r.2

pub weighs : (a g n m : ℕ) (order : Clause → Clause) (cs : List Clause) → Arranges n order cs → (c : Clause) → Memᴰ c cs → n ≤ m → Weighs a (literal_weight a cs) (as_choice g m order c)
unfolding choice_literals
weighs a g n m order cs h c i l = record {
  of_new = λ x b. omega (arith, light a cs x (λ k. omega (arith, below_new_least g m, choice_variable n order cs h (neg_ℤ x) k, natAbs_neg x)));
  of_literal = λ x k. literal_most a cs x;
  of_negated = λ x k. heavy a cs x (mem_for_each cs (λ d. d) c x i ((h c i).3.0 x k));
}

-- ---- the run
-- the highest variable that a line may have
abbrev pub top : Settings → Input → ℕ
top s i = used_after s.step (order_of s i) i.highest (chosen s i)

-- the events of its choices
unfoldable pub choosing : Settings → Input → List Event
choosing s i = choices_events s.form s.step (order_of s i) i.highest (cleared i.formula) (chosen s i)

pub events_are : (s : Settings) (i : Input) → events s i ≡ clearing i.formula ++ choosing s i
unfolding events clearing choosing
events_are s i = refl

-- a choice stands when the clearing is done, and has 5 to 64 literals, all unique
pub chosen_mem : (s : Settings) (i : Input) (c : Clause) → Memᴰ c (chosen s i) → Memᴰ c (cleared i.formula) × (5 ≤ length c) × (length c ≤ 64) × T (unique (cleared i.formula) c)
unfolding chosen choices
chosen_mem s i c m =
    let f = cleared i.formula in
    let r = those_mem (λ c. choice_size c && unique f c) f c m in
    let b = choice_size_within c (and_l (choice_size c) (unique f c) r.1) in
    (r.0, b.0, b.1, and_r (choice_size c) (unique f c) r.1)

-- the literals of a choice keep the order's promise
pub chosen_arranges : (s : Settings) (i : Input) → ProperAll i.formula → Fits i.highest i.formula → Arranges i.highest (order_of s i) (chosen s i)
chosen_arranges s i p q c m =
    let r = chosen_mem s i c m in
    let b = r.1 in
    let t = cleared_to i.highest i.formula p q c r.0 in
    let o = arranged_keeps s.arrangement (cleared i.formula) (chosen s i) c t.0 in
    (t, omega arith, o.0, o.1)

module _ (s : Settings) (i : Input) (h : Run s i) where
  pub standing_to : AllClauses (ProperTo i.highest) (cleared i.formula)
  standing_to = cleared_to i.highest i.formula h.proper h.fits

  pub arranges : Arranges i.highest (order_of s i) (chosen s i)
  arranges = chosen_arranges s i h.proper h.fits

  pub log_is : log s i ≡ lines (clearing i.formula) ++ lines (choosing s i)
  unfolding log
  log_is = ap lines (events_are s i) ∙ lines-++ (clearing i.formula) (choosing s i)

  pub log_to : AllLines (ProperTo (top s i)) (log s i)
  unfolding choosing
  log_to =
      rw log_is
      (all_lines-++ (ProperTo (top s i)) (lines (clearing i.formula)) (lines (choosing s i))
      (λ x m. proper_to_more i.highest (top s i) (used_least s.step (order_of s i) i.highest (chosen s i)) (literals x) (clearing_lines_to i.highest i.formula h.proper h.fits x m))
      (choices_lines_to s.form s.step (order_of s i) i.highest (cleared i.formula) (chosen s i) standing_to arranges))

  pub log_proper : AllLines Proper (log s i)
  log_proper x m = (log_to x m).0

  -- an event of the clearing or of a choice
  pub event_of : (e : Event) → Memᴰ e (events s i) → Clearing e ⊎ FromChoices s.step i.highest (order_of s i) (chosen s i) e
  unfolding events clearing
  event_of e m =
      ⊎_elim (λ k. inl (clearing_event i.formula e k))
      (λ k. inr (events_of_choices s.form s.step (order_of s i) i.highest (cleared i.formula) (chosen s i) arranges e k))
      (Memᴰ.append_cases (clearing i.formula) m)

  pub run_raises : (u a : ℕ) → Raises (weight u (literal_weight a (chosen s i))) (risen (4 * unit u a)) (events s i)
  run_raises u a e m = by_part (event_of e m)
    where
      w : ℤ → ℕ
      w = literal_weight a (chosen s i)

      by_part : Clearing e ⊎ FromChoices s.step i.highest (order_of s i) (chosen s i) e → added (weight u w) (lines_of e) ≤ deleted (weight u w) (lines_of e) + risen (4 * unit u a) e
      by_part (inl c) = clearing_raises u w (4 * unit u a) e c
      by_part (inr (from_choice m c f b k o)) =
          let q = weighs a s.step i.highest m (order_of s i) (chosen s i) arranges c k b in
          let z = as_choice s.step m (order_of s i) c in
          choice_raises (weight u w) (4 * unit u a) c z (counter_weight u a w z q (ordered_size i.highest (order_of s i) (chosen s i) arranges c k s.step m)) (replaced_weight a w z q u) f e o

  pub run_risen : (r : ℕ) → sum_of (risen r) (events s i) ≡ new_variables (chosen s i) * r
  unfolding events clearing
  run_risen r =
      let f = i.formula in
      omega (
        arith,
        sum-++ (risen r) (clearing f) (choices_events s.form s.step (order_of s i) i.highest (cleared f) (chosen s i)),
        clearing_risen r (clearing f) (clearing_event f),
        choices_risen r s.form s.step (order_of s i) i.highest (cleared f) (chosen s i) arranges,
      )

  -- the events up to some event
  pub parts_lead : (xs ys : List Event) → events s i ≡ xs ++ ys → Leads i.formula (lines xs) (after i.formula (lines xs)) × Leads (after i.formula (lines xs)) (lines ys) (result s i)
  unfolding log
  parts_lead xs ys e = leads_split (lines xs) (lines ys) (rw (ap lines e ∙ lines-++ xs ys) at h.leads)

  parts_proper : (xs ys : List Event) → events s i ≡ xs ++ ys → AllLines Proper (lines xs) × AllLines Proper (lines ys)
  unfolding log
  parts_proper xs ys e =
      let p : AllLines Proper (lines xs ++ lines ys) = rw (ap lines e ∙ lines-++ xs ys) at log_proper in
      (λ x m. p x (Memᴰ.append_left (lines ys) m), λ x m. p x (Memᴰ.append_right (lines xs) m))

  -- what stands after them weighs no more than the input and the counter clauses
  pub weight_after : (u a : ℕ) (xs ys : List Event) → events s i ≡ xs ++ ys → let w = literal_weight a (chosen s i) in
      sum_of (weight u w) (after i.formula (lines xs)) ≤ sum_of (weight u w) i.formula + sum_of (risen (4 * unit u a)) xs
  weight_after u a xs ys e =
      let w = literal_weight a (chosen s i) in
      raised (weight u w) (risen (4 * unit u a)) (weight_of_set u w) xs (parts_lead xs ys e).0 h.proper (parts_proper xs ys e).0
      (λ d m. run_raises u a d (rw e (Memᴰ.append_left ys m)))

  chosen_literals : new_variables (chosen s i) ≤ literals_of (cleared i.formula)
  unfolding new_variables chosen choices literals_of
  chosen_literals =
      let f = cleared i.formula in
      omega (arith, sum-≤ (λ c. length c - 1) length (chosen s i) (λ c _. omega arith), sum_those length (λ c. choice_size c && unique f c) f)

  -- clearing raises no weight
  pub clearing_weight : (u : ℕ) (w : ℤ → ℕ) (xs ys : List Event) → clearing i.formula ≡ xs ++ ys → sum_of (weight u w) (after i.formula (lines xs)) ≤ sum_of (weight u w) i.formula
  clearing_weight u w xs ys e =
      let f = i.formula in
      let rest = ys ++ choosing s i in
      let split : events s i ≡ xs ++ rest = events_are s i ∙ ap (λ (zs : List Event). zs ++ choosing s i) e ∙ append_assoc xs ys (choosing s i) in
      let part : (d : Event) → Memᴰ d xs → Clearing d = λ d m. clearing_event f d (rw e (Memᴰ.append_left ys m)) in
      omega (
        arith,
        raised (weight u w) (risen 0) (weight_of_set u w) xs (parts_lead xs rest split).0 h.proper (parts_proper xs rest split).0 (λ d m. clearing_raises u w 0 d (part d m)),
        clearing_risen 0 xs part,
      )

  -- so the choices, which stand then, have few literals
  pub few_new_variables : new_variables (chosen s i) ≤ literals_of i.formula
  few_new_variables =
      let f = i.formula in
      let w : ℤ → ℕ = λ _. 1 in
      omega (
        arith,
        clearing_weight 0 w (clearing f) [] (sym (append-nil (clearing f))),
        weight_most 0 1 w (λ _. omega arith) f,
        weight_least 0 1 w (λ _. omega arith) (after f (lines (clearing f))),
        ap literals_of (cleared_after f),
        chosen_literals,
      )

  pub top_most : top s i ≤ i.highest + new_variables (chosen s i) + length (chosen s i) * s.step
  top_most = used_most s.step (order_of s i) i.highest (chosen s i) arranges

  -- the clauses (u 1, a 0) or the literals (u 0, a 1) that stand at the end
  pub result_size : (u a : ℕ) → length (result s i) * u + literals_of (result s i) * a ≤ length i.formula * u + literals_of i.formula * (a + a) + new_variables (chosen s i) * (4 * unit u a)
  unfolding result log
  result_size u a =
      let w = literal_weight a (chosen s i) in
      omega (
        arith,
        weight_after u a (events s i) [] (sym (append-nil (events s i))),
        run_risen (4 * unit u a),
        weight_most u (a + a) w (literal_most a (chosen s i)) i.formula,
        weight_least u a w (literal_least a (chosen s i)) (result s i),
      )
