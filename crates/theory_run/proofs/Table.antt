-- The table of a run is the records of its choices. Only taking a choice gives a record.
use mathlib.Core.Path.{◌≡◌, refl, ◌∙◌, ap}
use mathlib.Core.Bool.{Bool, true, false}
use mathlib.Core.List.Memᴰ.{head as here}
use mathlib.Core.List.Memᴰ.{tail as there}
use mathlib.Core.List.{List, [], ◌∷◌, map, Memᴰ}
use Prim.Native.Nat.{ℕ, ◌-◌}
use native.Mathlib.Omega.{arith}
use lib.ListN.{length, take}
use Rattle.definition.specs.Lists.{for_each, only_if}
use Rattle.definition.specs.Literals.{Clause, Formula, opposes}
use Rattle.definition.specs.Standing.{after}
use Rattle.definition.specs.Reading.{Input}
use Rattle.definition.specs.Events.{Choice, TableRecord, Event, clause_replaced, literals_deleted}
use Rattle.definition.specs.Clearing.{clear_clashes}
use Rattle.definition.specs.Counter.{last_new, counter, take_choice}
use Rattle.definition.specs.Order.{replaced, replace, order_events}
use Rattle.definition.specs.Reencoding.{lines_of, lines, Form, counter_form, order_form, Settings, choice_events, choices_events, resolved_into, record_of, cleared, chosen, table}
use Rattle.theory_base.proofs.Loops.{for_each-++}
use Rattle.theory_room.specs.Choices.{as_choice, clearing, order_of}
use Rattle.theory_room.proofs.Cleared.{Clearing, clash, pure_clause, clearing_event}
use Rattle.theory_room.proofs.Runs.{choosing, events_are}
use Rattle.theory_run.specs.Table.{taken_records}

-- ---- events that give no record

none_of : {A B : Type 0} (xs : List A) (f : A → List B) → ((x : A) → Memᴰ x xs → f x ≡ []) → for_each xs f ≡ []
unfolding for_each
none_of [] f h = refl
none_of (x ∷ xs) f h = rw (h x (here refl)) (none_of xs f (λ y m. h y (there m)))

module _ (count : Clause → ℕ) where
  records : List Event → List TableRecord
  records es = for_each es (record_of count)

  clearing_records : (f : Formula) → records (clearing f) ≡ []
  unfolding records record_of
  clearing_records f = none_of (clearing f) (record_of count) (λ e m. each e (clearing_event f e m))
    where
      each : (e : Event) → Clearing e → record_of count e ≡ []
      each e (clash c) = refl
      each e (pure_clause l c) = refl

  replaced_records : (k : Choice) (ds : Formula) → records (for_each ds (replace k)) ≡ []
  unfolding records record_of replace only_if for_each
  replaced_records k [] = refl
  replaced_records k (d ∷ ds) = for_each-++ (replace k d) (for_each ds (replace k)) (record_of count) ∙ rw (one (opposes k.literals d)) (replaced_records k ds)
    where
      one : (b : Bool) → records (only_if b (clause_replaced d (replaced k d) ∷ [])) ≡ []
      one true = refl
      one false = refl

  order_records : (k : Choice) (f : Formula) → records (order_events k f) ≡ []
  unfolding records record_of order_events for_each
  order_records k f =
      let ds = take (length f - length (counter k)) f in
      for_each-++ (for_each ds (replace k)) (literals_deleted k ∷ []) (record_of count) ∙ rw (replaced_records k ds) refl

  choice_records : (form : Form) (f : Formula) (c : Clause) (k : Choice) → records (choice_events form f c k) ≡ record_of count (take_choice f c k)
  unfolding records record_of choice_events take_choice for_each
  choice_records counter_form f c k = refl
  choice_records order_form f c k = rw (order_records k (after f (lines_of (take_choice f c k)))) refl

  choices_records : (form : Form) (g : ℕ) (order : Clause → Clause) (n : ℕ) (f : Formula) (cs : List Clause) → records (choices_events form g order n f cs) ≡ taken_records g order count n cs
  unfolding records choices_events taken_records record_of take_choice for_each
  choices_records form g order n f [] = refl
  choices_records form g order n f (c ∷ cs) =
      let k = as_choice g n order c in
      let es = choice_events form f c k in
      for_each-++ es (choices_events form g order (last_new k) (after f (lines es)) cs) (record_of count)
      ∙ rw (choice_records form f c k, choices_records form g order (last_new k) (after f (lines es)) cs) refl

-- ---- of a run
pub table_is : (s : Settings) (i : Input) → table s i ≡ taken_records s.step (order_of s i) (resolved_into (λ d. 1) (clear_clashes i.formula)) i.highest (chosen s i)
unfolding table records choosing
table_is s i =
    let count = resolved_into (λ d. 1) (clear_clashes i.formula) in
    ap (records count) (events_are s i)
    ∙ for_each-++ (clearing i.formula) (choosing s i) (record_of count)
    ∙ rw (clearing_records count i.formula) (choices_records count s.form s.step (order_of s i) i.highest (cleared i.formula) (chosen s i))

-- there is one for each choice
pub taken_records_length : (g : ℕ) (order : Clause → Clause) (count : Clause → ℕ) (n : ℕ) (cs : List Clause) → length (taken_records g order count n cs) ≡ length cs
unfolding taken_records
taken_records_length g order count n [] = refl
taken_records_length g order count n (c ∷ cs) = omega (arith, taken_records_length g order count (last_new (as_choice g n order c)) cs)

pub table_length : (s : Settings) (i : Input) → length (table s i) ≡ length (chosen s i)
table_length s i = rw (table_is s i) (taken_records_length s.step (order_of s i) (resolved_into (λ d. 1) (clear_clashes i.formula)) i.highest (chosen s i))

-- a store of choices has their literals in order: a count on these that gives what the other gives on the clauses
pub records_of_ordered : (g : ℕ) (order : Clause → Clause) (count other : Clause → ℕ) (n : ℕ) (cs : List Clause) → ((c : Clause) → Memᴰ c cs → other (order c) ≡ count c) →
    taken_records g (λ l. l) other n (map order cs) ≡ taken_records g order count n cs
unfolding taken_records
records_of_ordered g order count other n [] h = refl
records_of_ordered g order count other n (c ∷ cs) h = rw (h c (here refl), records_of_ordered g order count other (last_new (as_choice g n order c)) cs (λ d m. h d (there m))) refl
