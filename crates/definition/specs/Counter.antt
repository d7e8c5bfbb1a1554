-- "Counter form".
use Rattle.std.specs.Prelude.{◌&&◌, List, [], ◌∷◌, ◌++◌, map, ℕ, ◌+◌, ◌-◌, ◌%◌, ℤ, pos, neg_ℤ, length, get_or, replicate}
use Rattle.definition.specs.Lists.{those, count, for_each, for_from}
use Rattle.definition.specs.Literals.{Clause, Formula, same_set}
use Rattle.definition.specs.Standing.{Line, addition, deletion}
use Rattle.definition.specs.Events.{Choice, Event, choice_taken}
use Rattle.definition.specs.Clearing.{unique, choice_size}

-- the ULCs of 5 to 64 literals are the choices
unfoldable pub choices : Formula → List Clause
choices f = those (λ c. choice_size c && unique f c) f

-- new variables are the next numbers above all used. M-118: where n is the highest used, the first is the least number above it that is 1 more than a multiple of the step g; this is that multiple
unfoldable pub below_new : ℕ → ℕ → ℕ
below_new g n = n + (g - n % g) % g

-- the highest variable used after a choice, s(k-1)
unfoldable pub last_new : Choice → ℕ
last_new c = c.below + (length c.literals - 1)

-- the pairs -li -lj, i < j, by i then j
unfoldable pub pairs : Clause → List Clause
pairs [] = []
pairs (a ∷ l) = map (λ b. neg_ℤ a ∷ neg_ℤ b ∷ []) l ++ pairs l

module _ (c : Choice) where
  -- k
  unfoldable pub size : ℕ
  size = length c.literals

  -- li, from i = 1
  unfoldable pub lit : ℕ → ℤ
  lit i = get_or c.literals (i - 1) (pos 0)

  -- si, from i = 1
  unfoldable pub new : ℕ → ℤ
  new i = pos (c.below + i)

  -- 2. -s1 l1; s1 -l1; then for i = 2..k-1: -si s(i-1) li; si -s(i-1); si -li
  unfoldable pub stage_2 : List Clause
  stage_2 =
      (neg_ℤ (new 1) ∷ lit 1 ∷ [])
      ∷ (new 1 ∷ neg_ℤ (lit 1) ∷ [])
      ∷ for_from 2 (size - 2) (λ i.
      (neg_ℤ (new i) ∷ new (i - 1) ∷ lit i ∷ [])
      ∷ (new i ∷ neg_ℤ (new (i - 1)) ∷ [])
      ∷ (new i ∷ neg_ℤ (lit i) ∷ [])
      ∷ [])

  -- 3. -li -s(i-1) for i = 2..k; then s(k-1) lk
  unfoldable pub stage_3 : List Clause
  stage_3 =
      for_from 2 (size - 1) (λ i. (neg_ℤ (lit i) ∷ neg_ℤ (new (i - 1)) ∷ []) ∷ [])
      ++ ((new (size - 1) ∷ lit size ∷ []) ∷ [])

  -- the choice's counter clauses
  unfoldable pub counter : List Clause
  counter = stage_2 ++ stage_3

-- the copies of pairs that stand in f, by i then j
unfoldable pub copies : Formula → Clause → List Clause
copies f l = for_each (pairs l) (λ p. replicate (count (same_set p) f) p)

-- the clause c, taken as the choice k where f stands
unfoldable pub take_choice : Formula → Clause → Choice → Event
take_choice f c k = choice_taken c k (copies f k.literals)

-- stages 2 to 4 (M-130 leaves stage 1 out); 4. delete l1..lk, then the copies of pairs that were there
unfoldable pub choice_lines : Choice → List Clause → List Line
choice_lines c copies = map addition (stage_2 c) ++ map addition (stage_3 c) ++ map deletion (c.literals ∷ copies)

-- all of this file, for a proof that computes: `unfolding computing` opens every name of the next line
unfoldable pub computing : Unit {0}
unfolding choices below_new last_new pairs size lit new stage_2 stage_3 counter copies take_choice choice_lines
computing = tt
