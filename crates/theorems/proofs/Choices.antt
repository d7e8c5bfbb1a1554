-- Every unique literal clause of 5 to 64 literals is taken as a choice.
use mathlib.Core.Bool.{◌&&◌}
use mathlib.Core.List.Memᴰ.{head as here}
use mathlib.Core.List.Memᴰ.{tail as there}
use mathlib.Core.List.{List, [], ◌∷◌, ◌++◌, Memᴰ}
use Prim.Native.Nat.{ℕ}
use Rattle.definition.specs.Literals.{Clause, Formula}
use Rattle.definition.specs.Events.{choice_of, Event}
use Rattle.definition.specs.Clearing.{unique, choice_size, clear_clashes, clear_pure}
use Rattle.definition.specs.Counter.{choices, below_new, last_new, take_choice}
use Rattle.definition.specs.Reencoding.{Form, counter_form, order_form, lines, choice_events, choices_events, unclashed, cleared, chosen, events, taken, later}
use Rattle.definition.specs.Standing.{after}
use Rattle.theory_base.proofs.Tests.{and_i}
use Rattle.theory_base.proofs.Members.{mem_those}
use Rattle.theory_soundness.proofs.Sound.{Into}
use Rattle.theory_clearing.proofs.Pure.{unique_after, eliminates_keeps}
use Rattle.theory_clearing.proofs.Cleared.{cleared_eliminates}
use Rattle.theorems.specs.Choices.{ChoicesTaken}

into-++ : (xs : List Event) {es : List Event} {c : Clause} → Into es c → Into (xs ++ es) c
into-++ [] i = i
into-++ (x ∷ xs) i = let r = into-++ xs i in record { choice = r.choice; goes = later r.goes }

-- a clause of the list goes into a choice
into_choices : (form : Form) (g : ℕ) (order : Clause → Clause) (n : ℕ) (f : Formula) (cs : List Clause) (c : Clause) → Memᴰ c cs → Into (choices_events form g order n f cs) c
unfolding choices_events choice_events take_choice
into_choices counter_form g order n f (d ∷ cs) c (here e) = rw e (record { choice = choice_of (order d) (below_new g n); goes = taken })
into_choices order_form g order n f (d ∷ cs) c (here e) = rw e (record { choice = choice_of (order d) (below_new g n); goes = taken })
into_choices form g order n f (d ∷ cs) c (there m) =
    let k = choice_of (order d) (below_new g n) in
    let es = choice_events form f d k in
    into-++ es (into_choices form g order (last_new k) (after f (lines es)) cs c m)
into_choices form g order n f [] c x' = elim x' [ ]

pub choices_taken : ChoicesTaken
unfolding ChoicesTaken chosen choices events
choices_taken s i c m t u =
    let F = i.formula in
    let k = cleared_eliminates F in
    let stays = eliminates_keeps k c m t u in
    let in_List = mem_those (λ d. choice_size d && unique (cleared F) d) (cleared F) c stays (and_i (choice_size c) (unique (cleared F) c) u (unique_after k c stays t)) in
    let r = into-++ (clear_clashes F ++ clear_pure (unclashed F)) (into_choices s.form s.step _ i.highest (cleared F) (chosen s i) c in_List) in
    record { stays = stays; choice = r.choice; goes = r.goes }
