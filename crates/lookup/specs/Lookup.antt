-- What is looked up in the index.
use Rattle.std.specs.Prelude.{◌≡◌, cond, List, [], ◌∷◌, ℕ, zero, suc, ◌+◌, ◌≤◌, ℤ, length, take}
use Rattle.definition.specs.Literals.{Clause, opposes}
use Rattle.definition.specs.Standing.{stands}
use Rattle.literals.specs.Literal.{negative, header_literals}
use Rattle.tables.specs.Sizes.{log_reach}
use Rattle.theory_base.specs.Clauses.{FitAll}
use Rattle.store.specs.Store.{stored, Deleted, Place}
use Rattle.index.specs.Index.{Indexed}

-- the first clause with the literals of c deleted, if one stands; the index stays
pub record DeletedBy (c : Clause) (work : List ℤ) (end : ℕ) (newest : List ℕ) (new : List ℤ) : Type 0 where
  pub size : length new ≡ length work
  pub deleted : Deleted c (take end work) (stands c (stored (take end work))) (take end new)
  pub indexed : Indexed new end newest

-- ---- the clauses that hold a negated literal of a choice l

-- the places of those that stand, in list order; the first k elements belong to the clause before, and the first is at `at`
unfoldable pub touched_from : Clause → ℕ → ℕ → List ℤ → List ℕ
touched_from l k at [] = []
touched_from l zero at (h ∷ s) =
    let more = touched_from l (header_literals h) (at + 1) s in
    cond (negative h) more (cond (opposes l (take (header_literals h) s)) (at ∷ more) more)
touched_from l (suc k) at (x ∷ s) = touched_from l k (at + 1) s

abbrev pub touched_places : Clause → List ℤ → List ℕ
touched_places l s = touched_from l 0 0 s

-- what gathering those before `start` needs
pub record Gatherable (work : List ℤ) (end : ℕ) (newest : List ℕ) (start : ℕ) (l : Clause) (list : List ℕ) : Type 0 where
  pub indexed : Indexed work end newest
  pub place : Place (take end work) start
  pub few : length l ≤ 64
  pub fit : FitAll log_reach l
  pub space : length (touched_places l (take start work)) ≤ length list
