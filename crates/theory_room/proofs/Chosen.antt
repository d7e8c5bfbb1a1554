-- The literals of all choices are a proper clause, so that there are few. Assumes what a run keeps (`Run`), and that no two choices have a variable in common.
use mathlib.Core.Path.{◌≡◌, refl}
use mathlib.Core.Logic.{⊎_elim}
use mathlib.Core.List.Memᴰ
use mathlib.Core.List.Memᴰ.{head as here}
use mathlib.Core.List.Memᴰ.{tail as there}
use mathlib.Core.List.{List, [], ◌∷◌, ◌++◌, Memᴰ}
use Prim.Native.Nat.{ℕ, ◌+◌, ◌*◌, ◌≤◌}
use native.Mathlib.Omega.{arith}
use lib.ListN.{length, length-append}
use Rattle.definition.specs.Lists.{sum_of, for_each}
use Rattle.definition.specs.Literals.{Clause, literals_of}
use Rattle.definition.specs.Reading.{Input}
use Rattle.definition.specs.Alignment.{choice_literals}
use Rattle.definition.specs.Reencoding.{Settings, chosen}
use Rattle.theory_base.proofs.Members.{proper_first}
use Rattle.theory_base.specs.Clauses.{Disjoint, Parted}
use Rattle.theory_base.proofs.Loops.{for_each_mem}
use Rattle.theory_base.proofs.Fitting.{ProperTo, literal_between, cons_to, proper_length}
use Rattle.theory_room.specs.Choices.{new_variables}
use Rattle.theory_room.proofs.Runs.{Run, arranges, chosen_mem}

proper-++ : (h : ℕ) (c d : Clause) → ProperTo h c → ProperTo h d → Disjoint c d → ProperTo h (c ++ d)
proper-++ h [] d p q a = q
proper-++ h (x ∷ c) d p q a =
    cons_to h x (c ++ d) (literal_between p x (here refl))
    (λ y m. ⊎_elim (proper_first x c p.0 y) (λ k. a x (here refl) y k) (Memᴰ.append_cases c m))
    (proper-++ h c d (p.0.3, λ y m. p.1 y (there m)) q (λ y m. a y (there m)))

parted_proper : (h : ℕ) (cs : List Clause) → ((c : Clause) → Memᴰ c cs → ProperTo h c) → Parted cs → ProperTo h (choice_literals cs)
unfolding choice_literals for_each
parted_proper h [] a p = (tt, λ x m. absurd (Memᴰ.not-nil m))
parted_proper h (c ∷ cs) a p =
    proper-++ h c (choice_literals cs) (a c (here refl)) (parted_proper h cs (λ d m. a d (there m)) p.1)
    (λ x i y j. let r = for_each_mem cs (λ d. d) y j in p.0 r.0 r.1 x i y r.2)

literals_length : (cs : List Clause) → length (choice_literals cs) ≡ literals_of cs
unfolding choice_literals for_each literals_of sum_of
literals_length [] = refl
literals_length (c ∷ cs) = omega (arith, length-append c (choice_literals cs), literals_length cs)

-- clauses of five literals at least
five_each : (cs : List Clause) → ((c : Clause) → Memᴰ c cs → 5 ≤ length c) → (new_variables cs + length cs ≡ literals_of cs) × (5 * length cs ≤ literals_of cs)
unfolding new_variables literals_of sum_of
five_each [] h = (refl, omega arith)
five_each (c ∷ cs) h =
    let l = h c (here refl) in
    let r = five_each cs (λ d m. h d (there m)) in
    (omega (arith, r.0), omega (arith, r.1))

-- ---- of a run
module _ (s : Settings) (i : Input) (h : Run s i) (parted : Parted (chosen s i)) where
  pub chosen_proper : ProperTo i.highest (choice_literals (chosen s i))
  chosen_proper = parted_proper i.highest (chosen s i) (λ c m. (arranges s i h c m).0) parted

  pub chosen_few : (literals_of (chosen s i) ≤ i.highest) × (new_variables (chosen s i) ≤ i.highest) × (5 * length (chosen s i) ≤ i.highest)
  chosen_few =
      let l = proper_length i.highest (choice_literals (chosen s i)) chosen_proper in
      let r = five_each (chosen s i) (λ c m. (chosen_mem s i c m).1) in
      (omega (arith, literals_length (chosen s i)), omega (arith, literals_length (chosen s i), r.0), omega (arith, literals_length (chosen s i), r.1))
