-- What stands, measured by a weight of each clause: how lines change it, and how much of it stands at any line. Assumes nothing.
use mathlib.Core.Path.{◌≡◌, refl, ap}
use mathlib.Core.Bool.{Bool, true, false, cond}
use mathlib.Core.List.Memᴰ
use mathlib.Core.List.Memᴰ.{head as here}
use mathlib.Core.List.Memᴰ.{tail as there}
use mathlib.Core.List.{List, [], ◌∷◌, ◌++◌, map, Memᴰ}
use Prim.Native.Nat.{ℕ, zero, suc, ◌+◌, ◌≤◌}
use native.Mathlib.Omega.{arith}
use lib.IntN.{ℤ}
use lib.ListN.{length, take}
use lib.Seq.{take-length}
use Rattle.definition.specs.Lists.{sum_of, for_each}
use Rattle.definition.specs.Literals.{Clause, Formula, same_set}
use Rattle.definition.specs.Standing.{Line, addition, deletion, literals, take_out, changed, after}
use Rattle.definition.specs.Events.{Event}
use Rattle.definition.specs.Reencoding.{lines_of, lines}
use Rattle.theory_base.proofs.Tests.{of_true}
use Rattle.theory_base.proofs.Sums.{sum-++, sum_none, sum_map}
use Rattle.theory_base.proofs.Members.{same_set_same}
use Rattle.theory_base.specs.Clauses.{Same, Proper, ProperAll}
use Rattle.theory_base.proofs.Clauses.{same_sum}
use Rattle.theory_base.proofs.Removal.{Removed, found, later, mem_removed}
use Rattle.theory_base.proofs.Replay.{Leads, ends, adds, dels, leads_split, after-++, AllLines, all_changed, all_after, at_every_line}

-- ---- a weight u for each clause and w for each literal
unfoldable pub weight : ℕ → (ℤ → ℕ) → Clause → ℕ
weight u w c = u + sum_of w c

-- the same for two proper clauses with the same literals
abbrev pub OfSet : (Clause → ℕ) → Type 0
OfSet g = (c d : Clause) → Proper c → Proper d → Same c d → g c ≡ g d

pub weight_of_set : (u : ℕ) (w : ℤ → ℕ) → OfSet (weight u w)
unfolding weight
weight_of_set u w c d p q s = omega (arith, same_sum w c d p q s)

-- ---- what lines add and delete
abbrev pub gained : (Clause → ℕ) → Line → ℕ
gained g (addition c) = g c
gained g (deletion c) = 0

abbrev pub lost : (Clause → ℕ) → Line → ℕ
lost g (addition c) = 0
lost g (deletion c) = g c

abbrev pub added : (Clause → ℕ) → List Line → ℕ
added g xs = sum_of (gained g) xs

abbrev pub deleted : (Clause → ℕ) → List Line → ℕ
deleted g xs = sum_of (lost g) xs

pub added_additions : (g : Clause → ℕ) (cs : List Clause) → added g (map addition cs) ≡ sum_of g cs
added_additions g cs = sum_map (gained g) addition cs

pub added_deletions : (g : Clause → ℕ) (cs : List Clause) → added g (map deletion cs) ≡ 0
added_deletions g cs = omega (arith, sum_map (gained g) deletion cs, sum_none (λ c. 0) cs (λ c m. refl))

pub deleted_additions : (g : Clause → ℕ) (cs : List Clause) → deleted g (map addition cs) ≡ 0
deleted_additions g cs = omega (arith, sum_map (lost g) addition cs, sum_none (λ c. 0) cs (λ c m. refl))

pub deleted_deletions : (g : Clause → ℕ) (cs : List Clause) → deleted g (map deletion cs) ≡ sum_of g cs
deleted_deletions g cs = sum_map (lost g) deletion cs

-- ---- what stands changes by what is added and deleted
removed_weight : (g : Clause → ℕ) → OfSet g → {c : Clause} {F G : Formula} → Removed c F G → Proper c → ProperAll F → sum_of g F ≡ g c + sum_of g G
unfolding sum_of
removed_weight g i {c} (found {d = d} e) p a = omega (arith, i c d p (a d (here refl)) (same_set_same c d (of_true e)))
removed_weight g i (later e r) p a = omega (arith, removed_weight g i r p (λ d m. a d (there m)))

pub balance : (g : Clause → ℕ) → OfSet g → {F G : Formula} {xs : List Line} → Leads F xs G → ProperAll F → AllLines Proper xs → sum_of g G + deleted g xs ≡ sum_of g F + added g xs
unfolding literals sum_of changed
balance g i ends a p = refl
balance g i {F} (adds {c = c} {xs = xs} s) a p =
    omega (arith, sum-++ g F (c ∷ []), balance g i s (all_changed Proper F (addition c) a (p (addition c) (here refl))) (λ x m. p x (there m)))
balance g i (dels {c = c} r s) a p =
    omega (arith, removed_weight g i r (p (deletion c) (here refl)) a, balance g i s (λ d m. a d (mem_removed r m)) (λ x m. p x (there m)))

-- ---- at any line
pub take_out-≤ : (g : Clause → ℕ) (c : Clause) (f : Formula) → sum_of g (take_out c f) ≤ sum_of g f
unfolding sum_of take_out
take_out-≤ g c [] = omega arith
take_out-≤ g c (d ∷ f) = go (same_set c d) (take_out-≤ g c f)
  where
    go : (b : Bool) → sum_of g (take_out c f) ≤ sum_of g f → sum_of g (cond b f (d ∷ take_out c f)) ≤ g d + sum_of g f
    go true ih = omega arith
    go false ih = omega arith

pub after_take-≤ : (g : Clause → ℕ) (j : ℕ) (f : Formula) (xs : List Line) → sum_of g (after f (take j xs)) ≤ sum_of g f + added g xs
unfolding after changed sum_of
after_take-≤ g zero f xs = omega arith
after_take-≤ g (suc j) f [] = omega arith
after_take-≤ g (suc j) f (addition c ∷ xs) = omega (arith, sum-++ g f (c ∷ []), after_take-≤ g j (f ++ (c ∷ [])) xs)
after_take-≤ g (suc j) f (deletion c ∷ xs) = omega (arith, take_out-≤ g c f, after_take-≤ g j (take_out c f) xs)

-- ---- events that each raise the weight g by no more than ρ
module _ (g : Clause → ℕ) (ρ : Event → ℕ) where
  abbrev pub Raises : List Event → Type 0
  Raises es = (e : Event) → Memᴰ e es → added g (lines_of e) ≤ deleted g (lines_of e) + ρ e

  pub raised : OfSet g → (es : List Event) {F G : Formula} → Leads F (lines es) G → ProperAll F → AllLines Proper (lines es) → Raises es → sum_of g G ≤ sum_of g F + sum_of ρ es
  unfolding lines for_each sum_of
  raised i [] ends a p h = omega arith
  raised i (e ∷ es) {F} s a p h =
      let q = leads_split (lines_of e) (lines es) s in
      let p₁ : AllLines Proper (lines_of e) = λ x m. p x (Memᴰ.append_left (lines es) m) in
      omega (
        arith,
        h e (here refl),
        balance g i q.0 a p₁,
        raised i es q.1 (all_after Proper F (lines_of e) a p₁) (λ x m. p x (Memᴰ.append_right (lines_of e) m)) (λ d m. h d (there m)),
      )

-- a bound on what stands before an event and all that the event adds holds at every line
pub at_each_event : (v : Clause → ℕ) (b : ℕ) (es : List Event) (F : Formula) → sum_of v F ≤ b →
    ((xs ys : List Event) (e : Event) → es ≡ xs ++ (e ∷ ys) → sum_of v (after F (lines xs)) + added v (lines_of e) ≤ b) → (j : ℕ) → sum_of v (after F (take j (lines es))) ≤ b
unfolding lines for_each sum_of after
at_each_event v b [] F h k j = omega (arith, after_take-≤ v j F [])
at_each_event v b (e ∷ es) F h k j =
    let here-≤ = k [] es e refl in
    at_every_line (λ (X : Formula). sum_of v X ≤ b) F (lines_of e) (lines es)
    (λ n. omega (arith, after_take-≤ v n F (lines_of e)))
    (at_each_event v b es (after F (lines_of e))
    (omega (arith, after_take-≤ v (length (lines_of e)) F (lines_of e), ap (λ (xs : List Line). sum_of v (after F xs)) (take-length (lines_of e))))
    (λ xs ys d q. omega (arith, k (e ∷ xs) ys d (rw q), ap (sum_of v) (after-++ F (lines_of e) (lines xs)))))
    j
