-- Clauses in a lent slice, the store: the entry of a clause is its header and its literals, and entries follow each other.
use Rattle.std.specs.Prelude.{◌≡◌, refl, Bool, false, ◌&&◌, cond, List, [], ◌∷◌, ℕ, zero, suc, ◌+◌, ◌-◌, ◌≤◌, ◌<◌, leb, ℤ, pos, negsuc, length, get_or, take, drop, set, Option, Some, None}
use Rattle.std.proofs.lemmas.List.Edits.{sets}
use Rattle.definition.specs.Literals.{Clause, Formula, same_set}
use Rattle.definition.specs.Standing.{stands, take_out}
use Rattle.definition.specs.Calls.{numbers_of}
use Rattle.theory_base.specs.Clauses.{Fits}
use Rattle.literals.specs.Literal.{largest, negative, header_of, flip, header_literals}
use Rattle.tables.specs.Counts.{Counts}

-- the entries fill the list, of which the first k elements belong to the clause before
abbrev pub FormedFrom : ℕ → List ℤ → Type 0
FormedFrom zero [] = Unit {0}
FormedFrom (suc k) [] = ⊥
FormedFrom zero (h ∷ s) = FormedFrom (header_literals h) s
FormedFrom (suc k) (x ∷ s) = FormedFrom k s

-- the entries fill the list
abbrev pub Formed : List ℤ → Type 0
Formed s = FormedFrom 0 s

-- the standing clauses in order, where the first k elements belong to the clause before
unfoldable pub stored_from : ℕ → List ℤ → Formula
stored_from k [] = []
stored_from zero (h ∷ s) =
    let more = stored_from (header_literals h) s in
    cond (negative h) more (take (header_literals h) s ∷ more)
stored_from (suc k) (x ∷ s) = stored_from k s

-- what stands in a store
abbrev pub stored : List ℤ → Formula
stored s = stored_from 0 s

-- a clause as it stands in a store
abbrev pub entry : Clause → List ℤ
entry c = header_of (length c) ∷ c

-- ---- the entry at a place

abbrev pub header_at : List ℤ → ℕ → ℤ
header_at s at = get_or s at (pos 0)

abbrev pub size_at : List ℤ → ℕ → ℕ
size_at s at = header_literals (header_at s at)

abbrev pub deleted_at : List ℤ → ℕ → Bool
deleted_at s at = negative (header_at s at)

abbrev pub clause_at : List ℤ → ℕ → Clause
clause_at s at = take (size_at s at) (drop (at + 1) s)

-- the place past it
abbrev pub past : List ℤ → ℕ → ℕ
past s at = at + (1 + size_at s at)

-- an entry begins at the place
abbrev pub EntryAt : List ℤ → ℕ → Type 0
EntryAt s at = (at < length s) × Formed (drop at s)

-- the store with the clause at a place deleted, or standing again
abbrev pub marked : List ℤ → ℕ → List ℤ
marked s at = set s at (flip (header_at s at))

-- an entry begins at the place, or the store ends there
pub record Place (s : List ℤ) (at : ℕ) : Type 0 where
  pub inside : at ≤ length s
  pub before : Formed (take at s)
  pub rest : Formed (drop at s)

-- a store with variables up to h, and the table of its counts
pub record Counted (h : ℕ) (s : List ℤ) (t : List ℕ) : Type 0 where
  pub formed : Formed s
  pub fits : Fits h (stored s)
  pub table : Counts h t (stored s)

-- ---- the first standing clause with the same set of literals

-- the clause that a store begins with stands and has the literals of c
unfoldable pub begins_with : Clause → List ℤ → Bool
begins_with c [] = false
begins_with c (h ∷ s) =
    let same = same_set c (take (header_literals h) s) in
    cond (negative h) false same

-- its place, counted from at, where the first k elements belong to the clause before
unfoldable pub place_from : Clause → ℕ → ℕ → List ℤ → Option ℕ
place_from c k at [] = None
place_from c zero at (h ∷ s) =
    let more = place_from c (header_literals h) (at + 1) s in
    cond (begins_with c (h ∷ s)) (Some at) more
place_from c (suc k) at (x ∷ s) = place_from c k (at + 1) s

abbrev pub place_of : Clause → List ℤ → Option ℕ
place_of c s = place_from c 0 0 s

-- the first standing clause with the literals of c is taken out; r says whether there was one
pub record Deleted (c : Clause) (old : List ℤ) (r : Bool) (new : List ℤ) : Type 0 where
  pub found : r ≡ stands c (stored old)
  pub formed : Formed new
  pub left : stored new ≡ take_out c (stored old)

-- ---- adding and sliding down

-- c's entry fits between end and size; a header counts up to the largest i32
abbrev pub fits_in : ℕ → ℕ → Clause → Bool
fits_in size end c = leb (length c) largest && leb (length c + 1) (size - end)

abbrev pub end_after : ℕ → ℕ → Clause → Option ℕ
end_after size end c = cond (fits_in size end c) (Some (end + (length c + 1))) None

abbrev pub with_entry : List ℤ → ℕ → Clause → List ℤ
with_entry s end c = cond (fits_in (length s) end c) (sets s end (entry c)) s

-- the clause at `from` moved down to `to` if it stands, and the place past it then
abbrev pub slid : List ℤ → ℕ → ℕ → List ℤ
slid s to from = cond (deleted_at s from) s (sets s to (take (1 + size_at s from) (drop from s)))

abbrev pub slid_to : List ℤ → ℕ → ℕ → ℕ
slid_to s to from = cond (deleted_at s from) to (to + (1 + size_at s from))

-- the standing clauses fill the first r elements
pub record Compacted (old : List ℤ) (r : ℕ) (new : List ℤ) : Type 0 where
  pub within : r ≤ length new
  pub formed : Formed (take r new)
  pub same : stored (take r new) ≡ stored old
  pub size : r ≡ numbers_of (stored old)

-- the clauses 1 -2, -3 (deleted) and 4
sample : List ℤ
sample = pos 2 ∷ pos 1 ∷ negsuc 1 ∷ negsuc 1 ∷ negsuc 2 ∷ pos 1 ∷ pos 4 ∷ []

examples : (stored sample ≡ (pos 1 ∷ negsuc 1 ∷ []) ∷ (pos 4 ∷ []) ∷ []) × (place_of (pos 4 ∷ []) sample ≡ Some 5) × (place_of (negsuc 2 ∷ []) sample ≡ None)
unfolding sample stored_from place_from begins_with Rattle.definition.specs.Literals.computing Rattle.definition.specs.Lists.computing
examples = (refl, refl, refl)
