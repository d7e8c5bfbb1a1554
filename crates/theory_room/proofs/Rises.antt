-- How much each event raises the weight of what stands. Assumes nothing but the weights of a choice's literals.
use mathlib.Core.Path.{◌≡◌, refl, ◌∙◌, ap}
use mathlib.Core.Bool.{Bool, true, false, not}
use mathlib.Core.List.Memᴰ
use mathlib.Core.List.Memᴰ.{head as here}
use mathlib.Core.List.{List, [], ◌∷◌, map, Memᴰ}
use Prim.Native.Nat.{ℕ, suc, ◌+◌, ◌-◌, ◌*◌, ◌≤◌, ◌<◌}
use native.Mathlib.Omega.{arith}
use lib.IntN.{ℤ, neg_ℤ}
use lib.ListN.{length, take}
use Rattle.definition.specs.Lists.{sum_of, only_if, for_from, for_each}
use Rattle.definition.specs.Literals.{Clause, Formula, without, with_first, opposes, opposed}
use Rattle.definition.specs.Standing.{addition, deletion, after}
use Rattle.definition.specs.Events.{Choice, Event, clash_cleared, pure_deleted, choice_taken, clause_replaced, literals_deleted}
use Rattle.definition.specs.Clearing.{resolvent, clash_lines, pure_lines}
use Rattle.definition.specs.Counter.{last_new, size, lit, new, stage_2, stage_3, counter, copies, take_choice}
use Rattle.definition.specs.Order.{replacement_lines, replaced, replace, order_events, deletions_of, literal_deletions}
use Rattle.definition.specs.Reencoding.{lines_of, lines, Form, counter_form, order_form, choice_events, choices_events}
use Rattle.theory_base.proofs.Loops.{only_if_mem, for_each_mem}
use Rattle.theory_base.proofs.Sums.{sum-++, sum_none, sum_for_from}
use Rattle.theory_counter.proofs.Front.{taken_lines_are}
use Rattle.theory_room.proofs.Weights.{weight, gained, lost, added, deleted, added_additions, added_deletions, deleted_additions, deleted_deletions}
use Rattle.theory_room.proofs.Choice.{lit_mem}
use Rattle.theory_room.proofs.Replaced.{Weighs, new_weight, negated_new_weight}
use Rattle.theory_room.proofs.Lines.{Arranges, ordered_length, others, OfChoice, taken, replacing, deleting}
use Rattle.theory_room.specs.Choices.{as_choice, new_variables}
use Rattle.theory_room.proofs.Cleared.{Clearing, clash, pure_clause}

-- the rise of an event: r for each new variable
unfoldable pub risen : ℕ → Event → ℕ
risen r (clash_cleared c) = 0
risen r (pure_deleted l c) = 0
risen r (choice_taken b c copies) = (size c - 1) * r
risen r (clause_replaced old result) = 0
risen r (literals_deleted c) = 0

pub risen_taken : (r : ℕ) (b : Clause) (c : Choice) (f : Formula) → risen r (take_choice f b c) ≡ (size c - 1) * r
unfolding risen take_choice
risen_taken r b c f = refl

-- an optional addition
pub added_only_if : (g : Clause → ℕ) (b : Bool) (c : Clause) → added g (only_if b (addition c ∷ [])) ≤ g c
unfolding only_if sum_of
added_only_if g true c = omega arith
added_only_if g false c = omega arith

-- ---- clearing raises no weight
pub clearing_raises : (u : ℕ) (w : ℤ → ℕ) (r : ℕ) (e : Event) → Clearing e → added (weight u w) (lines_of e) ≤ deleted (weight u w) (lines_of e) + risen r e
unfolding lines_of clash_lines pure_lines risen resolvent with_first weight sum_of
clearing_raises u w r e (clash c) =
    let g = weight u w in
    let xs = only_if (not (opposed (resolvent c))) (addition (resolvent c) ∷ []) in
    let ys = deletion (with_first c.v c.one) ∷ deletion (with_first (neg_ℤ c.v) c.other) ∷ [] in
    omega (
      arith,
      sum-++ (gained g) xs ys,
      sum-++ (lost g) xs ys,
      added_only_if g (not (opposed (resolvent c))) (resolvent c),
      sum-++ w (without c.v c.one) (without (neg_ℤ c.v) c.other),
    )
clearing_raises u w r e (pure_clause l c) = omega arith

-- ---- a choice
-- what taking a choice adds and deletes
pub taken_changes : (g : Clause → ℕ) (b : Clause) (c : Choice) (f : Formula) → let xs = lines_of (take_choice f b c) in
    (added g xs ≡ sum_of g (counter c)) × (deleted g xs ≡ g c.literals + sum_of g (copies f c.literals))
unfolding sum_of
taken_changes g b c f =
    let ds = c.literals ∷ copies f c.literals in
    let xs = map addition (counter c) in
    let e = taken_lines_are f b c in (
      omega (arith, ap (added g) e, sum-++ (gained g) xs (map deletion ds), added_additions g (counter c), added_deletions g ds),
      omega (arith, ap (deleted g) e, sum-++ (lost g) xs (map deletion ds), deleted_additions g (counter c), deleted_deletions g ds),
    )

-- the most that a counter clause of two literals weighs
abbrev pub unit : ℕ → ℕ → ℕ
unit u a = u + 3 * a

module _ (u a : ℕ) (w : ℤ → ℕ) (c : Choice) (h : Weighs a w c) where
  lit_weight : (i : ℕ) → 1 ≤ i → i ≤ size c → w (lit c i) ≤ a + a
  lit_weight i b k = h.of_literal (lit c i) (lit_mem c i b k)

  negated_lit_weight : (i : ℕ) → 1 ≤ i → i ≤ size c → w (neg_ℤ (lit c i)) ≡ a + a
  negated_lit_weight i b k = h.of_negated (lit c i) (lit_mem c i b k)

  middle_weight : (i : ℕ) → 2 ≤ i → i < size c →
      sum_of (weight u w) ((neg_ℤ (new c i) ∷ new c (i - 1) ∷ lit c i ∷ []) ∷ (new c i ∷ neg_ℤ (new c (i - 1)) ∷ []) ∷ (new c i ∷ neg_ℤ (lit c i) ∷ []) ∷ []) ≤ 3 * unit u a
  unfolding weight sum_of
  middle_weight i b k =
      omega (
        arith,
        new_weight a w c h i (omega arith),
        negated_new_weight a w c h i (omega arith),
        new_weight a w c h (i - 1) (omega arith),
        negated_new_weight a w c h (i - 1) (omega arith),
        lit_weight i (omega arith) (omega arith),
        negated_lit_weight i (omega arith) (omega arith),
      )

  stage_2_weight : 2 ≤ size c → sum_of (weight u w) (stage_2 c) ≤ 2 * unit u a + (size c - 2) * (3 * unit u a)
  unfolding stage_2 weight sum_of
  stage_2_weight s =
      let q =
      sum_for_from (weight u w) (3 * unit u a) 2 (size c - 2)
      (λ i. (neg_ℤ (new c i) ∷ new c (i - 1) ∷ lit c i ∷ []) ∷ (new c i ∷ neg_ℤ (new c (i - 1)) ∷ []) ∷ (new c i ∷ neg_ℤ (lit c i) ∷ []) ∷ [])
      (λ i b k. middle_weight i b (omega arith))
      in
      omega (
        arith,
        new_weight a w c h 1 (omega arith),
        negated_new_weight a w c h 1 (omega arith),
        lit_weight 1 (omega arith) (omega arith),
        negated_lit_weight 1 (omega arith) (omega arith),
      )

  stage_3_weight : 2 ≤ size c → sum_of (weight u w) (stage_3 c) ≤ (size c - 1) * unit u a + unit u a
  unfolding stage_3 weight sum_of
  stage_3_weight s =
      let xs = for_from 2 (size c - 1) (λ i. (neg_ℤ (lit c i) ∷ neg_ℤ (new c (i - 1)) ∷ []) ∷ []) in
      let q =
      sum_for_from (weight u w) (unit u a) 2 (size c - 1) (λ i. (neg_ℤ (lit c i) ∷ neg_ℤ (new c (i - 1)) ∷ []) ∷ [])
      (λ i b k. omega (arith, negated_new_weight a w c h (i - 1) (omega arith), negated_lit_weight i (omega arith) (omega arith)))
      in
      omega (
        arith,
        sum-++ (weight u w) xs ((new c (size c - 1) ∷ lit c (size c) ∷ []) ∷ []),
        new_weight a w c h (size c - 1) (omega arith),
        lit_weight (size c) (omega arith) (omega arith),
      )

  pub counter_weight : 2 ≤ size c → sum_of (weight u w) (counter c) ≤ (size c - 1) * (4 * unit u a)
  unfolding counter
  counter_weight s = sums (size c - 2) (size c - 1) (unit u a) (omega arith) (omega (arith, sum-++ (weight u w) (stage_2 c) (stage_3 c), stage_2_weight s, stage_3_weight s))
    where
      sums : (m n q : ℕ) → n ≡ suc m → {x : ℕ} → x ≤ 2 * q + m * (3 * q) + (n * q + q) → x ≤ n * (4 * q)
      sums m n q e {x} b = rw e (omega (arith, rw e at b))

-- where the counter clauses weigh no more than r for each new variable, and a replaced clause no more than the old one
pub choice_raises : (g : Clause → ℕ) (r : ℕ) (b : Clause) (c : Choice) → sum_of g (counter c) ≤ (size c - 1) * r → ((d : Clause) → g (replaced c d) ≤ g d) →
    (f : Formula) (e : Event) → OfChoice b c f e → added g (lines_of e) ≤ deleted g (lines_of e) + risen r e
unfolding lines_of replacement_lines literal_deletions risen sum_of
choice_raises g r b c h k f e taken = omega (arith, (taken_changes g b c f).0, (taken_changes g b c f).1, risen_taken r b c f)
choice_raises g r b c h k f e (replacing d m) =
    let fine = not (opposed (replaced c d)) in
    let xs = only_if fine (addition (replaced c d) ∷ []) in
    omega (
      arith,
      sum-++ (gained g) xs (deletion d ∷ []),
      sum-++ (lost g) xs (deletion d ∷ []),
      added_only_if g fine (replaced c d),
      k d,
    )
choice_raises g r b c h k f e deleting = omega (arith, added_deletions g (for_from 1 (size c) (deletions_of c)))

-- ---- the rises of a run
pub clearing_risen : (r : ℕ) (es : List Event) → ((e : Event) → Memᴰ e es → Clearing e) → sum_of (risen r) es ≡ 0
unfolding risen
clearing_risen r es h = sum_none (risen r) es (λ e m. by_event e (h e m))
  where
    by_event : (e : Event) → Clearing e → risen r e ≡ 0
    by_event e (clash c) = refl
    by_event e (pure_clause l c) = refl

order_risen : (r : ℕ) (c : Choice) (f : Formula) → sum_of (risen r) (order_events c f) ≡ 0
unfolding order_events replace risen sum_of
order_risen r c f =
    let ds = take (length f - length (counter c)) f in
    let q = sum_none (risen r) (for_each ds (replace c)) (λ e m. let t = for_each_mem ds (replace c) e m in by_clause e t.0 t.2) in
    omega (arith, sum-++ (risen r) (for_each ds (replace c)) (literals_deleted c ∷ []))
  where
    by_clause : (e : Event) (d : Clause) → Memᴰ e (replace c d) → risen r e ≡ 0
    by_clause e d m = ap (risen r) (Memᴰ.eq_of_singleton (only_if_mem (opposes c.literals d) (clause_replaced d (replaced c d) ∷ []) e m).1)

choice_risen : (r : ℕ) (form : Form) (f : Formula) (b : Clause) (c : Choice) → sum_of (risen r) (choice_events form f b c) ≡ (size c - 1) * r
unfolding choice_events sum_of
choice_risen r counter_form f b c = omega (arith, risen_taken r b c f)
choice_risen r order_form f b c = omega (arith, risen_taken r b c f, order_risen r c (after f (lines_of (take_choice f b c))))

pub choices_risen : (r : ℕ) (form : Form) (g : ℕ) (order : Clause → Clause) (n : ℕ) (f : Formula) (cs : List Clause) → Arranges n order cs →
    sum_of (risen r) (choices_events form g order n f cs) ≡ new_variables cs * r
unfolding choices_events new_variables sum_of size
choices_risen r form g order n f [] h = omega arith
choices_risen r form g order n f (c ∷ cs) h =
    let k = as_choice g n order c in
    let es = choice_events form f c k in
    let rest = choices_events form g order (last_new k) (after f (lines es)) cs in
    let l : size k - 1 ≡ length c - 1 = omega (arith, ordered_length n order (c ∷ cs) h c (here refl)) in
    let a : sum_of (risen r) es ≡ (length c - 1) * r = choice_risen r form f c k ∙ ap (λ (m : ℕ). m * r) l in
    omega (arith, sum-++ (risen r) es rest, choices_risen r form g order (last_new k) (after f (lines es)) cs (others g n order c cs h))
