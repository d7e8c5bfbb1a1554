-- An index of a store by key: clauses with the same set of literals have the same key. A table holds, for each key, the place + 1 of the last entry with it,
-- and the link of an entry is the place + 1 of the entry before it with the same key; 0 where there is none.
use Rattle.std.specs.Prelude.{◌≡◌, refl, cond, List, [], ◌∷◌, ℕ, zero, suc, ◌+◌, ◌-◌, ◌*◌, ◌%◌, ◌≤◌, ◌<◌, min, max, eqb, ℤ, pos, negsuc, length, get_or, take, drop, replicate}
use Rattle.definition.specs.Literals.{Clause}
use Rattle.tables.specs.Sizes.{log_size}
use Rattle.literals.specs.Literal.{largest, index_of, header_literals}
use Rattle.store.specs.Store.{Formed, header_at, clause_at, Place}
use Rattle.replay.specs.declared.Layout.{Layout}
use Rattle.theory_base.specs.Slices.{between}

-- the greatest index that counts, and how many keys there are
abbrev pub last_index : ℕ
last_index = log_size - 1

abbrev pub keys : ℕ
keys = log_size

-- the lowest and the greatest index of a clause's literals
unfoldable pub lowest_index : Clause → ℕ
lowest_index [] = last_index
lowest_index (l ∷ c) = min (index_of l) (lowest_index c)

unfoldable pub greatest_index : Clause → ℕ
greatest_index [] = 0
greatest_index (l ∷ c) = max (min last_index (index_of l)) (greatest_index c)

-- the key of a clause: the same for the same set of literals
unfoldable pub key_of : Clause → ℕ
key_of c = (613 * lowest_index c + greatest_index c) % keys

abbrev pub key_at : List ℤ → ℕ → ℕ
key_at s at = key_of (clause_at s at)

-- the place + 1 of the last entry with a key, counted from at, where the first k elements belong to the clause before; b where there is none
unfoldable pub last_from : ℕ → ℕ → ℕ → ℕ → List ℤ → ℕ
last_from key k at b [] = b
last_from key zero at b (h ∷ s) = last_from key (header_literals h) (suc at) (cond (eqb (key_of (take (header_literals h) s)) key) (suc at) b) s
last_from key (suc k) at b (x ∷ s) = last_from key k (suc at) b s

abbrev pub last_with : ℕ → List ℤ → ℕ
last_with key s = last_from key 0 0 0 s

-- the index of the entries before place q
pub record Indexed (s : List ℤ) (q : ℕ) (links : List ℤ) (heads : List ℕ) : Type 0 where
  pub newest : (key : ℕ) → key < keys → get_or heads key 0 ≡ last_with key (take q s)
  pub linked : (a : ℕ) → a < q → Place s a → header_literals (header_at links a) ≡ last_with (key_at s a) (take a s)

-- the store that a layout shows
abbrev pub store_in : Layout → List ℤ → List ℤ
store_in l work = between l.store l.end work

-- A store between two places with its links behind it, from `links` on. The index serves where every place + 1 is an i32.
pub record Linked (work : List ℤ) (heads : List ℕ) (l : Layout) : Type 0 where
  pub order : l.store ≤ l.end
  pub within : l.end ≤ l.links
  pub room : l.links + (l.links - l.store) ≤ length work
  pub table : length heads ≡ keys
  pub formed : Formed (store_in l work)
  pub index : l.links - l.store ≤ largest → Indexed (store_in l work) (l.end - l.store) (drop l.links work) heads

-- a store between two places with room for links, and an empty table
pub record Linkable (work : List ℤ) (heads : List ℕ) (l : Layout) : Type 0 where
  pub order : l.store ≤ l.end
  pub within : l.end ≤ l.links
  pub room : l.links + (l.links - l.store) ≤ length work
  pub none : heads ≡ replicate keys 0
  pub formed : Formed (store_in l work)

-- the clauses 2 -1 and 3; the clause 2 1 between them is deleted
sample : List ℤ
sample = pos 2 ∷ pos 2 ∷ negsuc 0 ∷ negsuc 2 ∷ pos 2 ∷ pos 1 ∷ pos 1 ∷ pos 3 ∷ []

examples : (key_at sample 0 ≡ 1843) × (last_with 1843 sample ≡ 1) × (last_with 1230 sample ≡ 4) × (last_with 3684 sample ≡ 7) × (last_with 7 sample ≡ 0)
unfolding sample lowest_index greatest_index key_of last_from
examples = (refl, refl, refl, refl, refl)
