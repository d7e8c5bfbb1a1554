-- One choice: room is made, the choice taken in counter form and, if that is named, in order form.
use mathlib.Core.Path.{◌≡◌, ap, ◌∙◌}
use mathlib.Core.List.{List, [], ◌∷◌}
use Prim.Native.Nat.{ℕ, ◌≤◌}
use native.Mathlib.Omega.{arith}
use lib.IntN.{ℤ}
use lib.ListN.{length, take, replicate}
use Rattle.definition.specs.Lists.{count}
use Rattle.definition.specs.Literals.{Clause, Formula, opposes}
use Rattle.definition.specs.Text.{Bytes}
use Rattle.definition.specs.Standing.{after}
use Rattle.definition.specs.Events.{Choice, choice_of}
use Rattle.definition.specs.Counter.{last_new, take_choice}
use Rattle.definition.specs.Order.{order_events}
use Rattle.definition.specs.Reencoding.{lines_of, lines, Form, counter_form, order_form, choice_events}
use Rattle.theory_base.proofs.Fitting.{ProperTo, proper_fit}
use Rattle.theory_base.proofs.Replay.{AllClauses}
use Rattle.theory_room.proofs.Lines.{after_choice_to}
use Rattle.theory_run.specs.Choices.{Takeable}
use Rattle.tables.specs.Sizes.{input_reach, input_size}
use Rattle.tables.specs.Entries.{with_entries}
use Rattle.tables.specs.Places.{with_numbers, Places, Small}
use Rattle.tables.proofs.Places.{places_of, unplaced}
use Rattle.index.specs.Index.{Indexed, Roomy}
use Rattle.lookup.specs.Lookup.{touched_places}
use Rattle.lookup.proofs.Touched.{touched_count}
use Rattle.progress.specs.declared.Progress.{Progress}
use Rattle.progress.specs.Progress.{standing, Good, Runs}
use Rattle.progress.proofs.Laws.{lines_none, lines_one, good_first, good_rest, good_up, good_still, runs_join}
use Rattle.pass_counter.specs.Choice.{ChoiceReady, Taken}
use Rattle.pass_order.specs.Order.{OrderReady}
use Rattle.run.specs.declared.Form as Code
use Rattle.run.specs.declared.Form.TheVariants as Named
use Rattle.run.specs.Settings.{named_form}
use Rattle.run.specs.Choices.{list_size, OneReady, PlacedReady}

-- the taking alone, of the events of a choice
taking_good : {h : ℕ} {work : List ℤ} {p : Progress} (form : Form) (F : Formula) (l : Clause) (k : Choice) → Good h (choice_events form F l k) work p → Good h (take_choice F l k ∷ []) work p
unfolding choice_events
taking_good counter_form F l k g = g
taking_good order_form F l k g = good_first (take_choice F l k ∷ []) (order_events k (after F (lines_of (take_choice F l k)))) g

-- ---- room made

module _ {form : Form} {step : ℕ} {work : List ℤ} {p : Progress} {l : Clause} {below : ℕ} (o : OneReady form step work p l below) {moved : List ℤ} {q : Progress} (m : (log : Bytes) → Runs [] work log p moved log q) where
  moved_same : standing moved q ≡ standing work p
  unfolding after
  moved_same = (m []).stands ∙ ap (after (standing work p)) lines_none

  pub placed_ready : {newest : List ℕ} → Indexed moved q.end newest → Roomy step moved q.end newest → PlacedReady form moved newest q l below
  placed_ready i r = record {
    step = step;
    ready = record {
      good = rw moved_same (good_still o.good (m []));
      clause = o.clause;
      takeable = rw (moved_same, (m []).size) o.takeable;
      new_few = o.new_few;
    };
    indexed = i;
    roomy = r;
  }

  pub moved_runs : {new : List ℤ} {x y : Bytes} {r : Progress} → Runs (choice_events form (standing moved q) l (choice_of l below)) moved x q new y r → Runs (choice_events form (standing work p) l (choice_of l below)) work x p new y r
  moved_runs {x = x} a = runs_join (m x) (rw moved_same at a)

-- ---- the table of places set, and reset

pub places_set : {form : Form} {step below : ℕ} {work : List ℤ} {p : Progress} {l : Clause} {old new : List ℕ} → OneReady form step work p l below → old ≡ replicate input_size 0 → new ≡ with_numbers old 1 l → Places new l
places_set {l = l} o e f = rw (f, e) (places_of input_reach (omega arith) l o.takeable.ready.proper o.takeable.reach)

pub places_reset : (l : Clause) {old mid new : List ℕ} → old ≡ replicate input_size 0 → mid ≡ with_numbers old 1 l → new ≡ with_entries mid l 0 → new ≡ replicate input_size 0
places_reset l e f g = g ∙ ap (λ (t : List ℕ). with_entries t l 0) (f ∙ ap (λ (t : List ℕ). with_numbers t 1 l) e) ∙ unplaced input_size l

-- ---- taken in counter form

module _ {form : Form} {work : List ℤ} {newest : List ℕ} {p : Progress} {l : Clause} {below : ℕ} (o : PlacedReady form work newest p l below) where
  abbrev F : Formula
  F = standing work p

  abbrev k : Choice
  k = choice_of l below

  t : Takeable (length work) o.step F o.ready.clause k
  t = o.ready.takeable

  small : Small l below
  small = record { few = t.most; old = t.reach; new = o.ready.new_few }

  pub choice_ready : ChoiceReady work newest p l below
  choice_ready = record {
    good = taking_good form F l k o.ready.good;
    clause = o.ready.clause;
    ready = t.ready;
    small = small;
    indexed = o.indexed;
    space = omega (arith, o.roomy, t.step_cells);
  }

-- ---- then in order form

module _ {work : List ℤ} {newest : List ℕ} {p : Progress} {l : Clause} {below : ℕ} (o : PlacedReady order_form work newest p l below)
    {x y : Bytes} {new : List ℤ} {new_newest : List ℕ} {r : Progress} (e : Taken work newest l below x p new new_newest y r) where
  abbrev G : Formula
  G = standing work p

  abbrev j : Choice
  j = choice_of l below

  taken_here : standing new r ≡ after G (lines_of (take_choice G l j))
  taken_here = e.ran.stands ∙ ap (after G) (lines_one (take_choice G l j))

  taken_to : AllClauses (ProperTo (last_new j)) (after G (lines (take_choice G l j ∷ [])))
  unfolding choice_events
  taken_to = after_choice_to l j (t o).before.well_formed G (λ c m. ((t o).proper c m, λ z n. ((t o).fits c m z n).1)) counter_form

  order_good : Good (last_new j) (order_events j (standing new r)) new r
  unfolding choice_events last_new
  order_good =
      rw taken_here
      (good_rest (take_choice G l j ∷ []) (order_events j (after G (lines_of (take_choice G l j)))) (good_up (omega arith) o.ready.good) e.ran
      (λ c m. (taken_to c m).0) (λ c m. proper_fit (taken_to c m)))

  pub order_ready : OrderReady new new_newest r p.end l below
  order_ready = record {
    good = order_good;
    indexed = e.indexed;
    place = e.place;
    counter_stands = e.counter_stands;
    before = rw e.front_stands (t o).before;
    small = small o;
    space = rw e.front_stands (omega (arith, e.filled, e.nodes_are, o.roomy, (t o).step_cells, e.ran.size));
  }

  pub touched_fit : {n : ℕ} → n ≡ list_size → length (touched_places l (take p.end new)) ≤ n
  touched_fit h = omega (arith, touched_count l (take p.end new), ap (count (opposes l)) e.front_stands, (t o).touched_few)

  pub order_runs : {w : List ℤ} {z : Bytes} {s : Progress} → Runs (order_events j (standing new r)) new y r w z s → Runs (choice_events order_form G l j) work x p w z s
  unfolding choice_events
  order_runs a = runs_join e.ran (rw taken_here at a)

-- ---- by the form that is named

module _ {f : Code.Form} {work : List ℤ} {p : Progress} (l : Clause) (below : ℕ) where
  pub as_order : {newest : List ℕ} → f ≡ Named.Order → PlacedReady (named_form f) work newest p l below → PlacedReady order_form work newest p l below
  as_order e o = rw e at o

  pub order_returned : {w : List ℤ} {x z : Bytes} {s : Progress} → f ≡ Named.Order → Runs (choice_events order_form (standing work p) l (choice_of l below)) work x p w z s →
      Runs (choice_events (named_form f) (standing work p) l (choice_of l below)) work x p w z s
  order_returned e a = rw e a

  pub counter_returned : {w : List ℤ} {x z : Bytes} {s : Progress} → f ≡ Named.Counter → Runs (take_choice (standing work p) l (choice_of l below) ∷ []) work x p w z s →
      Runs (choice_events (named_form f) (standing work p) l (choice_of l below)) work x p w z s
  unfolding choice_events
  counter_returned e a = rw e a
