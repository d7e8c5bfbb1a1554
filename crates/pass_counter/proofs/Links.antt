-- The literals of the counter clauses as the code makes them, and the stages in parts. Assumes nothing.
use mathlib.Core.Path.{◌≡◌, refl, sym, ap, ap₂, ◌∙◌}
use mathlib.Core.Bool.{true, false}
use mathlib.Core.List.{List, [], ◌∷◌, ◌++◌}
use Prim.Native.Nat.{ℕ, ◌+◌, ◌-◌, ◌≤◌}
use native.Mathlib.Omega.{arith}
use lib.IntN.{ℤ, pos, neg_ℤ}
use lib.ListN.{length}
use mir.Syntax.{w32}
use mir.Val.{SFits, of_z, to_z}
use mir.ValLaws.{to_z-of_z}
use Rattle.definition.specs.Lists.{for_from}
use Rattle.definition.specs.Literals.{Clause, Formula}
use Rattle.definition.specs.Text.{Bytes}
use Rattle.definition.specs.Events.{choice_of}
use Rattle.definition.specs.Counter.{size, lit, new, stage_2, stage_3, counter}
use Rattle.literals.specs.Literal.{negation, signed_of}
use Rattle.literals.proofs.Laws.{signed_small, negation_small}
use Rattle.progress.specs.declared.Progress.{Progress}
use Rattle.theory_base.proofs.Loops.{getD_mem}
use Rattle.pairs.specs.Pairs.{literal_at}
use Rattle.tables.specs.Places.{Small}
use Rattle.progress.specs.Growth.{GrowRoom, Grown}
use Rattle.pass_counter.specs.Links.{link_2, link_3}
use Rattle.progress.proofs.Growing.{grow_first, grow_rest, grown_then}

-- ---- literals passed on

pub two_passed : {x y a b : ℤ} → SFits w32 x → SFits w32 y → x ≡ a → y ≡ b → ◌≡◌ {A = Formula} ((to_z w32 (of_z w32 x) ∷ to_z w32 (of_z w32 y) ∷ []) ∷ []) ((a ∷ b ∷ []) ∷ [])
two_passed {x} {y} f g d e = ap₂ (λ (u v : ℤ). (u ∷ v ∷ []) ∷ []) (to_z-of_z w32 x f ∙ d) (to_z-of_z w32 y g ∙ e)

pub three_passed : {x y z a b c : ℤ} → SFits w32 x → SFits w32 y → SFits w32 z → x ≡ a → y ≡ b → z ≡ c → ◌≡◌ {A = Formula} ((to_z w32 (of_z w32 x) ∷ to_z w32 (of_z w32 y) ∷ to_z w32 (of_z w32 z) ∷ []) ∷ []) ((a ∷ b ∷ c ∷ []) ∷ [])
three_passed {x} {y} {z} {a} {b} {c} f g h d e k =
    ap₂ (λ (u v : ℤ). (u ∷ v ∷ to_z w32 (of_z w32 z) ∷ []) ∷ []) (to_z-of_z w32 x f ∙ d) (to_z-of_z w32 y g ∙ e) ∙ ap (λ (w : ℤ). (a ∷ b ∷ w ∷ []) ∷ []) (to_z-of_z w32 z h ∙ k)

pub grow_as : {f g : Formula} {w : List ℤ} {m : List ℕ} {p : Progress} → GrowRoom f w m p → f ≡ g → GrowRoom g w m p
grow_as r e = rw e at r

pub grown_as : {f g : Formula} {w v : List ℤ} {m n : List ℕ} {x y : Bytes} {p q : Progress} → Grown f w m x p v n y q → f ≡ g → Grown g w m x p v n y q
grown_as a e = rw e at a

-- ---- the literals of a choice, old and new

module _ {l : Clause} {below : ℕ} (s : Small l below) where
  pub new_is : (m n : ℕ) → n ≡ below + m → m ≤ 64 → signed_of false n ≡ new (choice_of l below) m
  unfolding new
  new_is m n e h = signed_small false n (omega (arith, s.new)) ∙ ap pos e

  pub new_negated : (m n : ℕ) → n ≡ below + m → m ≤ 64 → signed_of true n ≡ neg_ℤ (new (choice_of l below) m)
  unfolding new
  new_negated m n e h = signed_small true n (omega (arith, s.new)) ∙ ap (λ (k : ℕ). neg_ℤ (pos k)) e

  pub lit_negated : (i : ℕ) → 1 ≤ i → i ≤ length l → negation (literal_at l (i - 1)) ≡ neg_ℤ (lit (choice_of l below) i)
  unfolding lit
  lit_negated i a b =
      let x = literal_at l (i - 1) in
      negation_small x (omega (arith, (s.old x (getD_mem l (i - 1) (pos 0) (omega arith))).1))

pub lit_is : (l : Clause) (below i : ℕ) → literal_at l (i - 1) ≡ lit (choice_of l below) i
unfolding lit
lit_is l below i = refl

-- ---- the clauses of the literal li, from i = 2 on, as the code makes them

module _ {l : Clause} {below : ℕ} (s : Small l below) (i : ℕ) (a : 2 ≤ i) (b : i ≤ length l) where
  pub first_made : {x y : ℤ} → SFits w32 x → SFits w32 y → SFits w32 (literal_at l (i - 1)) → x ≡ signed_of true (below + i) → y ≡ signed_of false (below + i - 1) →
      ◌≡◌ {A = Formula} ((to_z w32 (of_z w32 x) ∷ to_z w32 (of_z w32 y) ∷ to_z w32 (of_z w32 (literal_at l (i - 1))) ∷ []) ∷ []) ((neg_ℤ (new (choice_of l below) i) ∷ new (choice_of l below) (i - 1) ∷ lit (choice_of l below) i ∷ []) ∷ [])
  first_made f g h d e =
      three_passed f g h (d ∙ new_negated s i (below + i) refl (omega (arith, s.few))) (e ∙ new_is s (i - 1) (below + i - 1) (omega arith) (omega (arith, s.few))) (lit_is l below i)

  pub second_made : {x y : ℤ} → SFits w32 x → SFits w32 y → x ≡ signed_of false (below + i) → y ≡ signed_of true (below + i - 1) →
      ◌≡◌ {A = Formula} ((to_z w32 (of_z w32 x) ∷ to_z w32 (of_z w32 y) ∷ []) ∷ []) ((new (choice_of l below) i ∷ neg_ℤ (new (choice_of l below) (i - 1)) ∷ []) ∷ [])
  second_made f g d e =
      two_passed f g (d ∙ new_is s i (below + i) refl (omega (arith, s.few))) (e ∙ new_negated s (i - 1) (below + i - 1) (omega arith) (omega (arith, s.few)))

  pub third_made : {x y : ℤ} → SFits w32 x → SFits w32 y → x ≡ signed_of false (below + i) → y ≡ negation (literal_at l (i - 1)) →
      ◌≡◌ {A = Formula} ((to_z w32 (of_z w32 x) ∷ to_z w32 (of_z w32 y) ∷ []) ∷ []) ((new (choice_of l below) i ∷ neg_ℤ (lit (choice_of l below) i) ∷ []) ∷ [])
  third_made f g d e = two_passed f g (d ∙ new_is s i (below + i) refl (omega (arith, s.few))) (e ∙ lit_negated s i (omega arith) b)

  pub link_3_made : {x y : ℤ} → SFits w32 x → SFits w32 y → x ≡ negation (literal_at l (i - 1)) → y ≡ signed_of true (below + i - 1) →
      ◌≡◌ {A = Formula} ((to_z w32 (of_z w32 x) ∷ to_z w32 (of_z w32 y) ∷ []) ∷ []) (link_3 (choice_of l below) i)
  link_3_made f g d e = two_passed f g (d ∙ lit_negated s i (omega arith) b) (e ∙ new_negated s (i - 1) (below + i - 1) (omega arith) (omega (arith, s.few)))

-- ---- the stages in parts

-- the clauses of stage 2 behind the first of a literal, and the last
abbrev pub link_2_more : Clause → ℕ → ℕ → Formula
link_2_more l below i = (new (choice_of l below) i ∷ neg_ℤ (new (choice_of l below) (i - 1)) ∷ []) ∷ (new (choice_of l below) i ∷ neg_ℤ (lit (choice_of l below) i) ∷ []) ∷ []

abbrev pub link_2_last : Clause → ℕ → ℕ → Formula
link_2_last l below i = (new (choice_of l below) i ∷ neg_ℤ (lit (choice_of l below) i) ∷ []) ∷ []

pub link_2_parts : (l : Clause) (below i : ℕ) → link_2 (choice_of l below) i ≡
    ((neg_ℤ (new (choice_of l below) i) ∷ new (choice_of l below) (i - 1) ∷ lit (choice_of l below) i ∷ []) ∷ []) ++ (((new (choice_of l below) i ∷ neg_ℤ (new (choice_of l below) (i - 1)) ∷ []) ∷ []) ++ link_2_last l below i)
link_2_parts l below i = refl

-- the clauses of stage 2 from the second literal on, and with the second clause
abbrev pub stage_2_last : Clause → ℕ → Formula
stage_2_last l below = for_from 2 (length l - 2) (link_2 (choice_of l below))

abbrev pub stage_2_more : Clause → ℕ → Formula
stage_2_more l below = ((new (choice_of l below) 1 ∷ neg_ℤ (lit (choice_of l below) 1) ∷ []) ∷ []) ++ stage_2_last l below

pub stage_2_parts : (l : Clause) (below : ℕ) → stage_2 (choice_of l below) ≡ ((neg_ℤ (new (choice_of l below) 1) ∷ lit (choice_of l below) 1 ∷ []) ∷ []) ++ stage_2_more l below
unfolding stage_2 size
stage_2_parts l below = refl

-- the clauses of stage 3 but the last, and the last
abbrev pub stage_3_first : Clause → ℕ → Formula
stage_3_first l below = for_from 2 (length l - 1) (link_3 (choice_of l below))

abbrev pub stage_3_last : Clause → ℕ → Formula
stage_3_last l below = (new (choice_of l below) (length l - 1) ∷ lit (choice_of l below) (length l) ∷ []) ∷ []

pub stage_3_parts : (l : Clause) (below : ℕ) → stage_3 (choice_of l below) ≡ stage_3_first l below ++ stage_3_last l below
unfolding stage_3 size
stage_3_parts l below = refl

pub counter_parts : (l : Clause) (below : ℕ) → counter (choice_of l below) ≡ stage_2 (choice_of l below) ++ stage_3 (choice_of l below)
unfolding counter
counter_parts l below = refl

-- ---- parts added one after another, as the code makes them

pub first_room : {F f : Formula} (g : Formula) {made : Formula} {w : List ℤ} {m : List ℕ} {p : Progress} → F ≡ f ++ g → made ≡ f → GrowRoom F w m p → GrowRoom made w m p
first_room {f = f} g e d o = grow_as (grow_first f g (rw e at o)) (sym d)

pub rest_room : {F f g made more : Formula} {w v : List ℤ} {m n : List ℕ} {x y : Bytes} {p q : Progress} → F ≡ f ++ g → made ≡ f → more ≡ g → GrowRoom F w m p → Grown made w m x p v n y q → GrowRoom more v n q
rest_room {f = f} {g = g} e d k o a = grow_as (grow_rest f g (rw e at o) (grown_as a d)) (sym k)

pub two_grown : {F f g made more : Formula} {w v u : List ℤ} {m n j : List ℕ} {x y z : Bytes} {p q r : Progress} → F ≡ f ++ g → made ≡ f → more ≡ g → Grown made w m x p v n y q → Grown more v n y q u j z r → Grown F w m x p u j z r
two_grown e d k a b = grown_as (grown_then (grown_as a d) (grown_as b k)) (sym e)

pub second_room : {F f g : Formula} (h : Formula) {made more : Formula} {w v : List ℤ} {m n : List ℕ} {x y : Bytes} {p q : Progress} → F ≡ f ++ (g ++ h) → made ≡ f →
    more ≡ g → GrowRoom F w m p → Grown made w m x p v n y q → GrowRoom more v n q
second_room {g = g} h e d k o a = first_room h refl k (rest_room {g = g ++ h} {more = g ++ h} e d refl o a)

pub third_room : {F f g h made more last : Formula} {w v u : List ℤ} {m n j : List ℕ} {x y z : Bytes} {p q r : Progress} → F ≡ f ++ (g ++ h) → made ≡ f → more ≡ g →
    last ≡ h → GrowRoom F w m p → Grown made w m x p v n y q → Grown more v n y q u j z r → GrowRoom last u j r
third_room {g = g} {h = h} e d k l o a b = rest_room {F = g ++ h} refl k l (rest_room {g = g ++ h} {more = g ++ h} e d refl o a) b

pub three_grown : {F f g h made more last : Formula} {w v u t : List ℤ} {m n j i : List ℕ} {x y z o : Bytes} {p q r s : Progress} → F ≡ f ++ (g ++ h) → made ≡ f →
    more ≡ g → last ≡ h → Grown made w m x p v n y q → Grown more v n y q u j z r → Grown last u j z r t i o s → Grown F w m x p t i o s
three_grown {g = g} {h = h} e d k l a b c = two_grown {more = g ++ h} e d refl a (two_grown {F = g ++ h} refl k l b c)
