-- The counter clauses by recursion along the literals of a choice: `suc h` is the last counter variable given, which says that one of the literals so far is true.
use mathlib.Core.Path.{◌≡◌, refl, ap}
use mathlib.Core.List.{[], ◌∷◌, ◌++◌}
use Prim.Native.Nat.{ℕ, suc, ◌+◌, ◌-◌, ◌≤◌, ◌<◌}
use native.Mathlib.Nat.{add-zero, add-suc, suc-add}
use native.Mathlib.Numerals.{add-one}
use native.Mathlib.Omega.{arith}
use lib.IntN.{ℤ, pos, negsuc, neg_ℤ}
use lib.ListN.{length, get_or}
use Rattle.definition.specs.Lists.{for_from}
use Rattle.definition.specs.Literals.{Clause, Formula}
use Rattle.definition.specs.Events.{Choice}
use Rattle.definition.specs.Counter.{size, lit, new, stage_2, stage_3, counter}

abbrev pub stage_2_from : ℕ → Clause → Formula
stage_2_from h [] = []
stage_2_from h (l ∷ []) = []
stage_2_from h (l ∷ m ∷ c) =
    (negsuc (suc h) ∷ pos (suc h) ∷ l ∷ [])
    ∷ (pos (suc (suc h)) ∷ negsuc h ∷ [])
    ∷ (pos (suc (suc h)) ∷ neg_ℤ l ∷ [])
    ∷ stage_2_from (suc h) (m ∷ c)

abbrev pub stage_3_from : ℕ → Clause → Formula
stage_3_from h [] = []
stage_3_from h (l ∷ []) = (neg_ℤ l ∷ negsuc h ∷ []) ∷ (pos (suc h) ∷ l ∷ []) ∷ []
stage_3_from h (l ∷ m ∷ c) = (neg_ℤ l ∷ negsuc h ∷ []) ∷ stage_3_from (suc h) (m ∷ c)

-- the choice is l and then c; its new variables are the numbers after h
abbrev pub counter_from : ℕ → ℤ → Clause → Formula
counter_from h l c = (negsuc h ∷ l ∷ []) ∷ (pos (suc h) ∷ neg_ℤ l ∷ []) ∷ (stage_2_from h c ++ stage_3_from h c)

-- ---- the definition writes them by index
module _ (k : Choice) where
  -- s(i-1) is suc h, and from place i on the literals are c
  pub record From (i h : ℕ) (c : Clause) : Type 0 where
    pub at : k.below + i ≡ suc (suc h)
    pub some : 0 < i
    pub rest : (j : ℕ) → lit k (i + j) ≡ get_or c j (pos 0)

  pub from_next : {i h : ℕ} {m : ℤ} {c : Clause} → From i h (m ∷ c) → From (suc i) (suc h) c
  from_next {i} f = record { at = omega (arith, f.at); some = omega arith; rest = λ j. rw (suc-add i j) (rw (add-suc i j) at (f.rest (suc j))) }

  pub from_literal : {i h : ℕ} {m : ℤ} {c : Clause} → From i h (m ∷ c) → lit k i ≡ m
  from_literal {i} f = rw (add-zero i) at (f.rest 0)

  pub from_new : {i h : ℕ} {c : Clause} → From i h c → new k i ≡ pos (suc (suc h))
  unfolding new
  from_new f = ap pos f.at

  pub from_previous : {i h : ℕ} {c : Clause} → From i h c → new k (i - 1) ≡ pos (suc h)
  unfolding new
  from_previous {i} {h} f = let e : k.below + (i - 1) ≡ suc h = omega (arith, f.at, f.some) in ap pos e

  links_2 : (i h : ℕ) (m : ℤ) (c : Clause) → From i h (m ∷ c) →
      for_from i (length c) (λ i. (neg_ℤ (new k i) ∷ new k (i - 1) ∷ lit k i ∷ []) ∷ (new k i ∷ neg_ℤ (new k (i - 1)) ∷ []) ∷ (new k i ∷ neg_ℤ (lit k i) ∷ []) ∷ []) ≡ stage_2_from h (m ∷ c)
  unfolding for_from
  links_2 i h m [] f = refl
  links_2 i h m (n ∷ c) f = rw (from_new f, from_previous f, from_literal f, links_2 (suc i) (suc h) n c (from_next f))

  links_3 : (i h : ℕ) (m : ℤ) (c : Clause) → From i h (m ∷ c) →
      for_from i (length (m ∷ c)) (λ i. (neg_ℤ (lit k i) ∷ neg_ℤ (new k (i - 1)) ∷ []) ∷ []) ++ ((new k (i + length c - 1) ∷ lit k (i + length c) ∷ []) ∷ []) ≡ stage_3_from h (m ∷ c)
  unfolding for_from
  links_3 i h m [] f = rw (add-zero i, from_previous f, from_literal f)
  links_3 i h m (n ∷ c) f = rw (from_previous f, from_literal f, add-suc i (length c), ← suc-add i (length c), links_3 (suc i) (suc h) n c (from_next f))

module _ (k : Choice) (l m : ℤ) (c : Clause) (e : k.literals ≡ l ∷ m ∷ c) where
  pub from_second : From k 2 k.below (m ∷ c)
  unfolding lit
  from_second = record { at = omega arith; some = omega arith; rest = λ j. rw e (place j) }
    where
      place : (j : ℕ) → get_or (l ∷ m ∷ c) (2 + j - 1) (pos 0) ≡ get_or (m ∷ c) j (pos 0)
      place j = let q : 2 + j - 1 ≡ suc j = omega arith in rw q

  pub full_size : size k ≡ 2 + length c
  unfolding size
  full_size = rw e (omega arith)

  first_new : new k 1 ≡ pos (suc k.below)
  unfolding new
  first_new = ap pos (add-one k.below)

  first_literal : lit k 1 ≡ l
  unfolding lit
  first_literal = rw e

  stage_2_recursive : stage_2 k ≡ (negsuc k.below ∷ l ∷ []) ∷ (pos (suc k.below) ∷ neg_ℤ l ∷ []) ∷ stage_2_from k.below (m ∷ c)
  unfolding stage_2
  stage_2_recursive =
      let n : size k - 2 ≡ length c = omega (arith, full_size) in
      rw (n, links_2 k 2 k.below m c from_second, first_new, first_literal)

  stage_3_recursive : stage_3 k ≡ stage_3_from k.below (m ∷ c)
  unfolding stage_3
  stage_3_recursive =
      let a : size k - 1 ≡ suc (length c) = omega (arith, full_size) in
      let b : 2 + length c - 1 ≡ suc (length c) = omega arith in
      rw (a, full_size) (rw b at (links_3 k 2 k.below m c from_second))

  counter_recursive : counter k ≡ counter_from k.below l (m ∷ c)
  unfolding counter
  counter_recursive = rw (stage_2_recursive, stage_3_recursive)

-- ---- a choice of two literals or more, written out: the first two and the others
pub record Written (k : Choice) : Type 0 where
  pub one : ℤ
  pub two : ℤ
  pub others : Clause
  pub are : k.literals ≡ one ∷ two ∷ others

pub written : (k : Choice) → 2 ≤ length k.literals → Written k
written k b = go k.literals refl b
  where
    go : (s : Clause) → k.literals ≡ s → 2 ≤ length s → Written k
    go [] e b = absurd (omega arith)
    go (l ∷ []) e b = absurd (omega arith)
    go (l ∷ m ∷ c) e b = record { one = l; two = m; others = c; are = e }

pub counter_is : {k : Choice} (w : Written k) → counter k ≡ counter_from k.below w.one (w.two ∷ w.others)
counter_is {k} w = counter_recursive k w.one w.two w.others w.are
